-- The version that is read of a replies file is that of the magic with which it begins.
use Rattle.std.proofs.Common.{◌≡◌, ℕ, ◌^◌, List, ◌++◌, get_or, refl}
use Rattle.std.specs.Prelude.{◌==◌, ◌&&◌, nat_lt, Some, ⊤}
use Rattle.std.specs.Int.{from_be_bytes, w32, w64}
use Rattle.zy_base.specs.declared.file_fault.FileFault.TheVariants.{Form}
use Rattle.zy_read.specs.Format.{reading_of}
use Rattle.zy_read.proofs.MagicFieldLemmas as Magics
use Rattle.zy_read.proofs.MagicFieldLemmas.{KnowsVersion}
use Rattle.zy_read.proofs.VerdictLemmas.{Leaves}
use Rattle.zy_capture.specs.declared.replies_due.RepliesDue.{RepliesDue}
use Rattle.zy_capture.specs.declared.replies_due.RepliesDue.TheVariants.{Magic, Tag, Connection, Session, Length}
use Rattle.zy_capture.specs.declared.replies_due.RepliesDue.TheVariants.{Output, Nothing}
use Rattle.zy_capture.specs.declared.replies_state.RepliesState.{RepliesState}
use Rattle.zy_capture.specs.Replies.{letters}
use Rattle.zy_capture.specs.RepliesSteps.{may_come, due_session, judged, replies_fields}
use Rattle.zy_capture.specs.RepliesVerdict.{version_of}
use Rattle.zy_capture.specs.RepliesLaws.{lawful}
use Rattle.zy_capture.specs.SoFar.{BeginsWithRepliesMagic}
use Rattle.zy_capture.proofs.ByteLemmas.{chosen}
use Rattle.zy_capture.proofs.RepliesSpelledLemmas.{part_state, after_state, reads_magic}

-- the version was read where this is expected
abbrev IsPast : RepliesDue → Type 0
IsPast (Magic part) = ⊥
IsPast due = ⊤

-- the version was read, and is this one
abbrev HasVersion : ℕ → RepliesState → Type 0
HasVersion version s = (s.version ≡ version) × IsPast s.due

-- a whole field leaves it
judged_leaves : (version : ℕ) (due : RepliesDue) (s : RepliesState) (at : ℕ) (field : List ℕ) → s.version ≡ version → IsPast due → Leaves (HasVersion version) (judged due s at field)
judged_leaves version (Magic part) s at field is past = absurd past
judged_leaves version Tag s at field is past =
    let L = Leaves (HasVersion version) in
    chosen L (get_or field 0 0 == 82) _ _ (λ one. (is, tt)) (λ no. chosen L (get_or field 0 0 == 69) _ _ (λ two. (is, tt)) (λ none. tt))
judged_leaves version Connection s at field is past =
    let L = Leaves (HasVersion version) in
    chosen L (may_come s (from_be_bytes w32 field)) _ _ (λ may. chosen L (s.version == 2) _ _ (λ two. (is, tt)) (λ one. (is, tt))) (λ wrong. tt)
judged_leaves version (Session conn) s at field is past =
    let n : ℕ = from_be_bytes w32 field in
    chosen (Leaves (HasVersion version)) (n == due_session s conn && nat_lt n (2 ^ 31)) _ _ (λ right. (is, tt)) (λ wrong. tt)
judged_leaves version (Length conn number) s at field is past =
    chosen (Leaves (HasVersion version)) (from_be_bytes w64 field == 0) _ _ (λ empty. (is, tt)) (λ some. (is, tt))
judged_leaves version (Output conn number others) s at field is past = (is, tt)
judged_leaves version Nothing s at field is past = tt

-- the state knows the version
abbrev pub IsPastIn : RepliesState → Type 0
IsPastIn s = IsPast s.due

abbrev pub known_in : RepliesState → ℕ
known_in s = s.version

pub knows : KnowsVersion replies_fields part_state after_state known_in IsPastIn
knows = record {
  none = λ part. refl;
  whole = λ version. (refl, tt);
  stays = λ s at field past. judged_leaves s.version s.due s at field refl past;
}

pub told_magic : (text : List ℕ) (version : ℕ) → version_of text ≡ Some version → BeginsWithRepliesMagic text version
unfolding version_of reading_of
told_magic = Magics.told_magic replies_fields lawful letters part_state after_state Form reads_magic known_in IsPastIn knows

-- the version of a text is that of every longer text
pub version_stays : (text more : List ℕ) (version : ℕ) → version_of text ≡ Some version → version_of (text ++ more) ≡ Some version
unfolding version_of reading_of
version_stays = Magics.version_stays replies_fields lawful letters part_state after_state Form reads_magic known_in IsPastIn knows
