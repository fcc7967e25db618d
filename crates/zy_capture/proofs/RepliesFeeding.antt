-- What a reader of replies files answers where the bytes fed end, and which bytes need memory.
use Rattle.std.proofs.Common.{◌≡◌, ℕ, ◌<◌, ◌^◌, List, false, get_or, refl, ap, arith}
use Rattle.std.specs.Prelude.{◌==◌, ◌&&◌, not, nat_lt, nat_le}
use Rattle.std.specs.Int.{from_be_bytes, w32}
use Rattle.std.proofs.lemmas.Bool.Decides.{nat_tests}
use Rattle.zy_read.specs.declared.magic.MagicStep.{MagicStep}
use Rattle.zy_read.specs.declared.magic.MagicStep.TheVariants as Steps
use Rattle.zy_read.specs.Magic.{magic_step}
use Rattle.zy_read.specs.Format.{Reading}
use Rattle.zy_read.specs.FieldReading.{MayNeed, IsQuiet}
use Rattle.zy_read.specs.Standing.{StandsAs}
use Rattle.zy_read.specs.declared.shape.Shape.TheVariants.{Run}
use Rattle.zy_read.specs.Magic.{version_in}
use Rattle.zy_capture.specs.declared.session_bytes.SessionBytes.{SessionBytes}
use Rattle.zy_capture.specs.declared.replies_due.RepliesDue.{RepliesDue}
use Rattle.zy_capture.specs.declared.replies_due.RepliesDue.TheVariants.{Magic, Tag, Connection, Session, Length, Output, Nothing}
use Rattle.zy_capture.specs.declared.replies_state.RepliesState.{RepliesState}
use Rattle.zy_capture.specs.Replies.{letters, replies_limit}
use Rattle.zy_capture.proofs.ByteLemmas.{chosen}
use Rattle.zy_capture.specs.RepliesSteps.{RepliesPlace, shape, after_magic, may_come, due_session, judged, is_last, replies_fields}
use Rattle.zy_capture.specs.RepliesVerdict.{version_of}
use Rattle.zy_capture.specs.RepliesStanding.{StandsForReplies, IsOfOutput, IsOutputDue}

pub version_here : (p : RepliesPlace) (given : List SessionBytes) (b : List ℕ) → StandsForReplies p given b → version_of b ≡ version_in p.state.version
unfolding version_of StandsAs
version_here p given b stands = ap (λ (r : Reading RepliesPlace SessionBytes). version_in r.last.state.version) stands

output_due : (due : RepliesDue) (others at : ℕ) → shape due ≡ Run others → (not (is_last due) && nat_le replies_limit at) ≡ false → ((conn session more : ℕ) × (due ≡ Output conn session more)) × (at < replies_limit)
output_due (Output conn session more) others at run room = ((conn, session, more, refl), grind (arith, nat_tests))
output_due due others at run room = cc

-- a byte of a run is one of an output
pub of_output : (p : RepliesPlace) (byte : ℕ) → MayNeed replies_fields IsOutputDue p byte → IsOfOutput p byte
of_output p byte is = output_due p.state.due is.0.0 p.at is.0.1 is.1

magic_quiet : (s : RepliesState) (at : ℕ) (step : MagicStep) → IsQuiet (after_magic s at step)
magic_quiet s at (Steps.Next part) = tt
magic_quiet s at (Steps.Whole version) = tt
magic_quiet s at Steps.Wrong = tt

-- no field but a length and an output gives a record
pub quiet : (due : RepliesDue) (s : RepliesState) (at : ℕ) (field : List ℕ) → ((conn number : ℕ) → due ≡ Length conn number → ⊥) → ((conn number others : ℕ) → due ≡ Output conn number others → ⊥) → IsQuiet (judged due s at field)
quiet (Magic part) s at field no_length no_output = magic_quiet s at (magic_step part letters at (get_or field 0 0))
quiet Tag s at field no_length no_output =
    chosen IsQuiet (get_or field 0 0 == 82) _ _ (λ one. tt) (λ no. chosen IsQuiet (get_or field 0 0 == 69) _ _ (λ two. tt) (λ none. tt))
quiet Connection s at field no_length no_output =
    chosen IsQuiet (may_come s (from_be_bytes w32 field)) _ _ (λ may. chosen IsQuiet (s.version == 2) _ _ (λ two. tt) (λ one. tt)) (λ wrong. tt)
quiet (Session conn) s at field no_length no_output =
    let n : ℕ = from_be_bytes w32 field in
    chosen IsQuiet (n == due_session s conn && nat_lt n (2 ^ 31)) _ _ (λ right. tt) (λ wrong. tt)
quiet (Length conn number) s at field no_length no_output = absurd (no_length conn number refl)
quiet (Output conn number others) s at field no_length no_output = absurd (no_output conn number others refl)
quiet Nothing s at field no_length no_output = tt
