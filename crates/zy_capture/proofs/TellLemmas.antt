-- The version and the count that are read of a text are those with which it begins.
use Rattle.std.proofs.Common.{◌≡◌, ℕ, ◌+◌, List, [], ◌∷◌, ◌++◌, length, refl, sym, ◌∙◌, ap, subst, arith}
use Rattle.std.proofs.Common.{append_assoc}
use Rattle.std.specs.Prelude.{◌==◌, ◌&&◌, nat_lt, Some, flat_map, ⊤}
use Rattle.std.specs.List.{concat}
use Rattle.std.specs.Int.{to_be_bytes, w32}
use Rattle.zy_read.specs.Bytes.{AreBytes}
use Rattle.zy_read.specs.Lasting.{none_met}
use Rattle.zy_read.specs.Format.{Reading, read_on, reading_of}
use Rattle.zy_read.specs.Fields.{at_state, step}
use Rattle.zy_read.specs.Runs.{Begins}
use Rattle.zy_read.proofs.MagicFieldLemmas as Magics
use Rattle.zy_read.proofs.MagicFieldLemmas.{KnowsVersion}
use Rattle.zy_read.proofs.OverLemmas.{over_begins}
use Rattle.zy_read.proofs.VerdictLemmas.{Leaves, Reaches, text_reaches, begins_read, state_kept}
use Rattle.zy_capture.specs.declared.record.Record.{Record}
use Rattle.zy_capture.specs.declared.capture_fault.CaptureFault.TheVariants.{BadMagic}
use Rattle.zy_capture.specs.declared.due.Due.{Due}
use Rattle.zy_capture.specs.declared.due.Due.TheVariants.{Magic, Count, Tag, Connection, Length, Payload, Closed}
use Rattle.zy_capture.specs.declared.due.Due.TheVariants.{Nothing}
use Rattle.zy_capture.specs.declared.capture_state.CaptureState.{CaptureState}
use Rattle.zy_capture.specs.Capture.{letters, capture_magic, spelled, connection_limit, segment_limit}
use Rattle.zy_capture.specs.Capture.{front_text}
use Rattle.zy_capture.specs.Steps.{CaptureProgress, state, number, byte, judged, fields}
use Rattle.zy_capture.specs.Verdict.{captures, version_of, count_in, count_of}
use Rattle.zy_capture.specs.SoFar.{BeginsWithMagic, BeginsWithCount}
use Rattle.zy_capture.proofs.ByteLemmas.{chosen, assoc_twice}
use Rattle.zy_capture.proofs.PlaceLemmas.{IsAfter, IsAt}
use Rattle.zy_capture.proofs.PartLemmas.{part_state, after_state, reads_magic, head_over}
use Rattle.zy_capture.proofs.WholeLemmas.{lawful, stands_there}

-- ---- what stays

-- the magic was read
abbrev pub IsPast : Due → Type 0
IsPast (Magic part) = ⊥
IsPast due = ⊤

-- the count was read
abbrev pub IsPastCount : Due → Type 0
IsPastCount (Magic part) = ⊥
IsPastCount Count = ⊥
IsPastCount due = ⊤

-- the magic was read, and this is the version
abbrev HasVersion : ℕ → CaptureState → Type 0
HasVersion version s = (s.version ≡ version) × IsPast s.due

-- the count was read, and is this one
abbrev HasCount : ℕ → CaptureState → Type 0
HasCount count s = IsPastCount s.due × (s.count ≡ count)

version_left : (version : ℕ) (due : Due) (s : CaptureState) (at : ℕ) (field : List ℕ) → IsPast due → s.version ≡ version → Leaves (HasVersion version) (judged due s at field)
version_left version (Magic part) s at field past is = absurd past
version_left version Count s at field past is = chosen (Leaves (HasVersion version)) (nat_lt connection_limit (number field)) _ _ (λ over. tt) (λ few. (is, tt))
version_left version Tag s at field past is =
    chosen (Leaves (HasVersion version)) (byte field == 83) _ _ (λ yes. (is, tt))
    (λ no. chosen (Leaves (HasVersion version)) (byte field == 69) _ _ (λ yes. (is, tt)) (λ neither. chosen (Leaves (HasVersion version)) (byte field == 67 && s.version == 2) _ _ (λ yes. (is, tt)) (λ none. tt)))
version_left version Connection s at field past is = chosen (Leaves (HasVersion version)) (nat_lt (number field) s.count) _ _ (λ below. (is, tt)) (λ over. tt)
version_left version (Length conn) s at field past is =
    chosen (Leaves (HasVersion version)) (nat_lt segment_limit (number field)) _ _ (λ over. tt) (λ few. chosen (Leaves (HasVersion version)) (number field == 0) _ _ (λ empty. (is, tt)) (λ some. (is, tt)))
version_left version (Payload conn more) s at field past is = (is, tt)
version_left version Closed s at field past is = chosen (Leaves (HasVersion version)) (nat_lt (number field) s.count) _ _ (λ below. (is, tt)) (λ over. tt)
version_left version Nothing s at field past is = tt

count_left : (count : ℕ) (due : Due) (s : CaptureState) (at : ℕ) (field : List ℕ) → IsPastCount due → s.count ≡ count → Leaves (HasCount count) (judged due s at field)
count_left count (Magic part) s at field past is = absurd past
count_left count Count s at field past is = absurd past
count_left count Tag s at field past is =
    chosen (Leaves (HasCount count)) (byte field == 83) _ _ (λ yes. (tt, is))
    (λ no. chosen (Leaves (HasCount count)) (byte field == 69) _ _ (λ yes. (tt, is)) (λ neither. chosen (Leaves (HasCount count)) (byte field == 67 && s.version == 2) _ _ (λ yes. (tt, is)) (λ none. tt)))
count_left count Connection s at field past is = chosen (Leaves (HasCount count)) (nat_lt (number field) s.count) _ _ (λ below. (tt, is)) (λ over. tt)
count_left count (Length conn) s at field past is =
    chosen (Leaves (HasCount count)) (nat_lt segment_limit (number field)) _ _ (λ over. tt) (λ few. chosen (Leaves (HasCount count)) (number field == 0) _ _ (λ empty. (tt, is)) (λ some. (tt, is)))
count_left count (Payload conn more) s at field past is = (tt, is)
count_left count Closed s at field past is = chosen (Leaves (HasCount count)) (nat_lt (number field) s.count) _ _ (λ below. (tt, is)) (λ over. tt)
count_left count Nothing s at field past is = tt

pub past_count : (due : Due) (count : ℕ) → IsPastCount due → count_in due count ≡ Some count
past_count (Magic part) count past = absurd past
past_count Count count past = absurd past
past_count due count past = refl

-- ---- what a text begins with is read

-- the reading of a text that begins with fields
begun_last : (text : List ℕ) (s : CaptureState) (given : List Record) (rest : List ℕ) (begins : Begins fields text s given rest)
    → (reading_of captures text).last ≡ (read_on (step fields) (at_state s (length (concat begins.parts))) rest).last
unfolding reading_of
begun_last text s given rest begins = ap (λ (r : Reading CaptureProgress Record). r.last) (begins_read fields lawful text s given rest begins)

pub count_told : (text : List ℕ) (count : ℕ) → BeginsWithCount text count → count_of text ≡ Some count
unfolding count_of
count_told text count begins =
    let s : CaptureState = state Tag begins.version count in
    let front : Begins fields text s [] begins.rest =
    over_begins fields text s (capture_magic begins.version ++ to_be_bytes w32 count) begins.rest [] (head_over begins.version count [] (record { known = begins.known; few = begins.few; lawful = tt })) (omega arith) begins.whole in
    let last : CaptureProgress = (read_on (step fields) (at_state s (length (concat front.parts))) begins.rest).last in
    let has : HasCount count last.state = state_kept fields (HasCount count) (λ t at field is. count_left count t.due t at field is.0 is.1) begins.rest (at_state s (length (concat front.parts))) (tt, refl) in
    ap (λ (p : CaptureProgress). count_in p.state.due p.state.count) (begun_last text s [] begins.rest front)
    ∙ past_count last.state.due last.state.count has.0 ∙ ap (λ (n : ℕ). Some n) has.1

-- ---- the version

-- a state knows the version
abbrev pub IsPastIn : CaptureState → Type 0
IsPastIn s = IsPast s.due

abbrev pub known_in : CaptureState → ℕ
known_in s = s.version

pub knows : KnowsVersion fields part_state after_state known_in IsPastIn
knows = record {
  none = λ part. refl;
  whole = λ version. (refl, tt);
  stays = λ s at field past. version_left s.version s.due s at field past refl;
}

pub magic_told : (text : List ℕ) (version : ℕ) → BeginsWithMagic text version → version_of text ≡ Some version
unfolding version_of reading_of
magic_told = Magics.magic_told fields lawful letters part_state after_state BadMagic reads_magic known_in IsPastIn knows

-- the version of a text is that of every longer text
pub version_stays : (text more : List ℕ) (version : ℕ) → version_of text ≡ Some version → version_of (text ++ more) ≡ Some version
unfolding version_of reading_of
version_stays = Magics.version_stays fields lawful letters part_state after_state BadMagic reads_magic known_in IsPastIn knows

-- ---- the count

-- a text that leads to a field after the count has the records of a capture, and then some bytes
pub record IsAfterSome (s : CaptureState) (text : List ℕ) (given : List Record) : Type 0 where
  pub tail : List ℕ
  pub after : IsAfter s.version s.count given tail text

pub after_some : (due : Due) (s : CaptureState) (text : List ℕ) (given : List Record) → IsPastCount due → IsAt due s text given → IsAfterSome s text given
after_some (Magic part) s text given past is = absurd past
after_some Count s text given past is = absurd past
after_some Tag s text given past is = record { tail = []; after = is }
after_some Connection s text given past is = record { tail = 83 ∷ []; after = is }
after_some (Length conn) s text given past is = record { tail = 83 ∷ to_be_bytes w32 conn; after = is.0 }
after_some (Payload conn more) s text given past is = record { tail = 83 ∷ (to_be_bytes w32 conn ++ to_be_bytes w32 (more + 1)); after = is.0 }
after_some Closed s text given past is = record { tail = 67 ∷ []; after = is.0 }
after_some Nothing s text given past is = record { tail = 69 ∷ []; after = is }

count_at : (due : Due) (s : CaptureState) (text more : List ℕ) (given : List Record) (count : ℕ) → count_in due s.count ≡ Some count → IsAt due s text given → BeginsWithCount (text ++ more) count
count_at (Magic part) s text more given count told is = absurd (none_met count told)
count_at Count s text more given count told is = absurd (none_met count told)
count_at due s text more given count told is =
    let same : s.count ≡ count = cc in
    let some : IsAfterSome s text given = after_some due s text given tt is in
    let body : List ℕ = flat_map spelled given in
    subst (BeginsWithCount (text ++ more)) same (record {
      version = s.version;
      rest = body ++ (some.tail ++ more);
      known = some.after.valid.known;
      few = some.after.valid.few;
      whole = ap (λ (l : List ℕ). l ++ more) some.after.whole ∙ append_assoc (front_text s.version s.count given) some.tail more
          ∙ assoc_twice (capture_magic s.version) (to_be_bytes w32 s.count) body (some.tail ++ more);
    })

pub told_count : (text : List ℕ) (count : ℕ) → AreBytes text → count_of text ≡ Some count → BeginsWithCount text count
unfolding count_of reading_of
told_count text count all told =
    let s : CaptureState = (reading_of captures text).last.state in
    let reached : Reaches fields text s = text_reaches fields lawful text in
    subst (λ (l : List ℕ). BeginsWithCount l count) (sym reached.begins.text_is)
    (count_at s.due s (concat reached.begins.parts) reached.rest reached.given count told (stands_there text s reached.given reached.rest all reached.begins))

-- the count of a text is that of every longer text
pub count_stays : (text more : List ℕ) (count : ℕ) → AreBytes text → count_of text ≡ Some count → count_of (text ++ more) ≡ Some count
count_stays text more count small is =
    let begins = told_count text count small is in
    count_told (text ++ more) count (record {
      version = begins.version;
      rest = begins.rest ++ more;
      known = begins.known;
      few = begins.few;
      whole = ap (λ (l : List ℕ). l ++ more) begins.whole ∙ append_assoc (capture_magic begins.version) (to_be_bytes w32 count ++ begins.rest) more
          ∙ ap (λ (l : List ℕ). capture_magic begins.version ++ l) (append_assoc (to_be_bytes w32 count) begins.rest more);
    })

-- where the count was read, the version was
pub version_read : (text : List ℕ) (count : ℕ) (small : AreBytes text) (is : count_of text ≡ Some count) → version_of text ≡ Some (told_count text count small is).version
version_read text count small is =
    let begins = told_count text count small is in
    magic_told text begins.version (record { rest = to_be_bytes w32 count ++ begins.rest; known = begins.known; whole = begins.whole })
