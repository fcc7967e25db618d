-- A format whose first fields are the bytes of a magic: the fields of the magic and of its beginnings, and the version
-- that is read.
use Rattle.std.proofs.Common.{◌≡◌, ◌≢◌, ◌⊎◌, inl, inr, ℕ, zero, suc, ◌+◌, ◌<◌, true, false, List, [], ◌∷◌, ◌++◌}
use Rattle.std.proofs.Common.{length, take, get_or, refl, sym, ◌∙◌, ap, subst, arith, append_assoc, length-append}
use Rattle.std.specs.Prelude.{◌==◌, None, Some, ⊤}
use Rattle.std.specs.List.{slice_index, concat}
use Rattle.std.proofs.lemmas.List.{append-nil, take_all, length-take-le}
use Rattle.std.proofs.lemmas.Bool.{eq-eqb}
use Rattle.std.proofs.lemmas.Bool.Decides.{nat_tests}
use Rattle.zy_read.specs.Format.{Reading, read_on}
use Rattle.zy_read.specs.Fields.{Judged, Fields, IsLawful, Place, at_state, step}
use Rattle.zy_read.specs.Fields.Judged.{Then, Gives, Wrong as IsFault}
use Rattle.zy_read.specs.Runs.{Begins, RunsOver}
use Rattle.zy_read.specs.declared.magic.MagicPart.{MagicPart}
use Rattle.zy_read.specs.declared.magic.MagicPart.TheVariants.{Letters, Digit, LineFeed}
use Rattle.zy_read.specs.declared.magic.MagicStep.{MagicStep}
use Rattle.zy_read.specs.declared.magic.MagicStep.TheVariants.{Next, Whole, Wrong}
use Rattle.zy_read.specs.Magic.{letter, digit, magic_step, IsInMagic, magic_before, magic_of, HasMagic, magic_judged}
use Rattle.zy_read.specs.Magic.{ReadsMagic, version_in}
use Rattle.zy_read.proofs.MagicLemmas.{IsVersion, IsKnown, LeadsTo, letters_on, leads}
use Rattle.zy_read.proofs.RunLemmas.{After, runs_keep, any_parts}
use Rattle.zy_read.proofs.OverLemmas.{over_none, over_then, over_join, over_begins}
use Rattle.zy_read.proofs.VerdictLemmas.{Leaves, state_kept, begins_read, text_reaches}

-- ---- the fields of a magic

-- one further byte
byte_over : {S G F : Type 0} (fields : Fields S G F) (letters : List ℕ) (part_next : MagicPart → S) (after : ℕ → S) (form : ℕ → F) (reads : ReadsMagic fields letters part_next after form) (part : MagicPart) (at byte : ℕ) (x : List ℕ) (next : S) → length x ≡ at
    → RunsOver fields fields.start 0 x (part_next part) [] → magic_judged {G = G} part_next after (form at) (magic_step part letters at byte) ≡ Then next → RunsOver fields fields.start 0 (x ++ byte ∷ []) next []
byte_over {S} {G} {F} fields letters part_next after form reads part at byte x next size over judged =
    let place : 0 + length x ≡ at = omega (arith, size) in
    over_join fields fields.start (part_next part) next 0 x (byte ∷ []) [] [] over
    (subst (λ (n : ℕ). RunsOver fields (part_next part) n (byte ∷ []) next []) (sym place) (over_then fields (part_next part) next at (byte ∷ []) (sym (reads.widths part)) (reads.judges part at byte ∙ judged)))

same_true : (n : ℕ) → (n == n) ≡ true
same_true n = eq-eqb n n refl

letter_next : (letters : List ℕ) (at : ℕ) → (at == 5) ≡ false → letter letters at (slice_index letters at) ≡ Next Letters
letter_next letters at more = rw (same_true (slice_index letters at), more) refl

letters_over : {S G F : Type 0} (fields : Fields S G F) (letters : List ℕ) (part_next : MagicPart → S) (after : ℕ → S) (form : ℕ → F) (reads : ReadsMagic fields letters part_next after form) (at : ℕ) → at < 6 → RunsOver fields fields.start 0 (take at letters) (part_next Letters) []
letters_over {S} fields letters part_next after form reads zero within =
    subst (λ (s : S). RunsOver fields fields.start 0 [] s []) reads.start_is (over_none fields fields.start 0)
letters_over {S} {G} {F} fields letters part_next after form reads (suc at) within =
    let six = reads.six in
    let there : at + 1 ≡ suc at = omega arith in
    let more : (at == 5) ≡ false = grind (arith, nat_tests) in
    let judged : magic_judged {G = G} part_next after (form at) (letter letters at (slice_index letters at)) ≡ Then (part_next Letters) = ap (λ (m : MagicStep). magic_judged {G = G} part_next after (form at) m) (letter_next letters at more) in
    subst (λ (l : List ℕ). RunsOver fields fields.start 0 l (part_next Letters) []) (letters_on letters at (slice_index letters at) (omega (arith, six, within)) refl ∙ ap (λ (n : ℕ). take n letters) there)
    (byte_over fields letters part_next after form reads Letters at (slice_index letters at) (take at letters) (part_next Letters) (length-take-le at letters (omega (arith, six, within)))
    (letters_over fields letters part_next after form reads at (omega (arith, within))) judged)

all_over : {S G F : Type 0} (fields : Fields S G F) (letters : List ℕ) (part_next : MagicPart → S) (after : ℕ → S) (form : ℕ → F) (reads : ReadsMagic fields letters part_next after form) → RunsOver fields fields.start 0 letters (part_next Digit) []
all_over {S} {G} {F} fields letters part_next after form reads =
    let six = reads.six in
    let last : letter letters 5 (slice_index letters 5) ≡ Next Digit = rw (same_true (slice_index letters 5)) refl in
    subst (λ (l : List ℕ). RunsOver fields fields.start 0 l (part_next Digit) []) (letters_on letters 5 (slice_index letters 5) (omega (arith, six)) refl ∙ take_all 6 letters (omega (arith, six)))
    (byte_over fields letters part_next after form reads Letters 5 (slice_index letters 5) (take 5 letters) (part_next Digit) (length-take-le 5 letters (omega (arith, six)))
    (letters_over fields letters part_next after form reads 5 (omega arith)) (ap (λ (m : MagicStep). magic_judged {G = G} part_next after (form 5) m) last))

pub digit_next : (version : ℕ) → IsVersion version → digit (48 + version) ≡ Next (LineFeed version)
digit_next version (inl one) = rw one refl
digit_next version (inr two) = rw two refl

-- the fields before a part of the magic
pub part_over : {S G F : Type 0} (fields : Fields S G F) (letters : List ℕ) (part_next : MagicPart → S) (after : ℕ → S) (form : ℕ → F) (reads : ReadsMagic fields letters part_next after form) (part : MagicPart) (at : ℕ) → IsInMagic part at → IsKnown part → RunsOver fields fields.start 0 (magic_before part letters at) (part_next part) []
part_over {S} {G} {F} fields letters part_next after form reads Letters at within known = letters_over fields letters part_next after form reads at within
part_over {S} {G} {F} fields letters part_next after form reads Digit at within known = all_over fields letters part_next after form reads
part_over {S} {G} {F} fields letters part_next after form reads (LineFeed version) at within known =
    byte_over fields letters part_next after form reads Digit 6 (48 + version) letters (part_next (LineFeed version)) reads.six (all_over fields letters part_next after form reads) (ap (λ (m : MagicStep). magic_judged {G = G} part_next after (form 6) m) (digit_next version known))

-- the fields of a magic
pub magic_over : {S G F : Type 0} (fields : Fields S G F) (letters : List ℕ) (part_next : MagicPart → S) (after : ℕ → S) (form : ℕ → F) (reads : ReadsMagic fields letters part_next after form) (version : ℕ) → IsVersion version → RunsOver fields fields.start 0 (magic_of letters version) (after version) []
magic_over {S} fields letters part_next after form reads version known =
    let six = reads.six in
    subst (λ (l : List ℕ). RunsOver fields fields.start 0 l (after version) []) (append_assoc letters ((48 + version) ∷ []) (10 ∷ []))
    (byte_over fields letters part_next after form reads (LineFeed version) 7 10 (letters ++ (48 + version) ∷ []) (after version) (omega (arith, six, length-append letters ((48 + version) ∷ []))) (part_over fields letters part_next after form reads (LineFeed version) 7 tt known) refl)

-- ---- the version

-- the version that a state knows is 0 within the magic, that of the magic after it, and no field changes it then
pub record KnowsVersion {S G F : Type 0} (fields : Fields S G F) (part_next : MagicPart → S) (after : ℕ → S) (known_in : S → ℕ) (IsPast : S → Type 0) : Type 0 where
  pub none : (part : MagicPart) → known_in (part_next part) ≡ 0
  pub whole : (version : ℕ) → (known_in (after version) ≡ version) × IsPast (after version)
  pub stays : (s : S) (at : ℕ) (field : List ℕ) → IsPast s → Leaves (λ next. (known_in next ≡ known_in s) × IsPast next) (fields.judge s at field)

-- the bytes are those of the magic before a part, or begin with the magic of the version
abbrev IsAt : {S : Type 0} → List ℕ → (MagicPart → S) → (S → ℕ) → (S → Type 0) → S → List ℕ → Type 0
IsAt letters part_next known_in IsPast s text =
    ((part : MagicPart) × (s ≡ part_next part) × (text ≡ magic_before part letters (length text)) × IsInMagic part (length text) × IsKnown part)
    ⊎ (IsPast s × HasMagic letters text (known_in s))

-- what follows a magic does not matter
pub further : (letters text more : List ℕ) (version : ℕ) → HasMagic letters text version → HasMagic letters (text ++ more) version
further letters text more version has = record {
  rest = has.rest ++ more;
  known = has.known;
  whole = ap (λ (l : List ℕ). l ++ more) has.whole ∙ append_assoc (magic_of letters version) has.rest more;
}

magic_on : {S G F : Type 0} (fields : Fields S G F) (letters : List ℕ) (part_next : MagicPart → S) (after : ℕ → S) (known_in : S → ℕ) (IsPast : S → Type 0) (knows : KnowsVersion fields part_next after known_in IsPast) (fault : F) (text : List ℕ) (given : List G) (found : MagicStep) → LeadsTo letters (length text) text found
    → After (λ s t g. IsAt letters part_next known_in IsPast s t) text given (magic_judged {G = G} part_next after fault found)
magic_on fields letters part_next after known_in IsPast knows fault text given (Next part) on = inl (part, refl, on.2, on.0, on.1)
magic_on fields letters part_next after known_in IsPast knows fault text given (Whole version) on =
    inr ((knows.whole version).1, subst (HasMagic letters text) (sym (knows.whole version).0) (record { rest = []; known = on.0; whole = on.1 ∙ sym (append-nil (magic_of letters version)) }))
magic_on fields letters part_next after known_in IsPast knows fault text given Wrong on = tt

past_on : {S G F : Type 0} (letters : List ℕ) (part_next : MagicPart → S) (known_in : S → ℕ) (IsPast : S → Type 0) (version : ℕ) (text : List ℕ) (given : List G) (judged : Judged S G F) → HasMagic letters text version → Leaves (λ next. (known_in next ≡ version) × IsPast next) judged
    → After (λ s t g. IsAt letters part_next known_in IsPast s t) text given judged
past_on letters part_next known_in IsPast version text given (Then next) has leaves = inr (leaves.1, subst (HasMagic letters text) (sym leaves.0) has)
past_on letters part_next known_in IsPast version text given (Gives next item) has leaves = inr (leaves.1, subst (HasMagic letters text) (sym leaves.0) has)
past_on letters part_next known_in IsPast version text given (IsFault fault) has leaves = tt

-- a field of one byte
pub one_byte : (field : List ℕ) → length field ≡ 1 → field ≡ get_or field 0 0 ∷ []
one_byte [] is = absurd (omega (arith, is))
one_byte (byte ∷ []) is = refl
one_byte (byte ∷ next ∷ field) is = absurd (omega (arith, is))

at_keeps : {S G F : Type 0} (fields : Fields S G F) (letters : List ℕ) (part_next : MagicPart → S) (after : ℕ → S) (form : ℕ → F) (reads : ReadsMagic fields letters part_next after form) (known_in : S → ℕ) (IsPast : S → Type 0) (knows : KnowsVersion fields part_next after known_in IsPast)
    (s : S) (text field : List ℕ) (given : List G) → length field ≡ fields.width s → IsAt letters part_next known_in IsPast s text → After (λ s t g. IsAt letters part_next known_in IsPast s t) (text ++ field) given (fields.judge s (length text) field)
at_keeps {S} {G} {F} fields letters part_next after form reads known_in IsPast knows s text field given size (inl at) =
    let part : MagicPart = at.0 in
    let byte : ℕ = get_or field 0 0 in
    let found : MagicStep = magic_step part letters (length text) byte in
    let one : field ≡ byte ∷ [] = one_byte field (size ∙ ap (λ (t : S). fields.width t) at.1 ∙ reads.widths part) in
    let judged : fields.judge s (length text) field ≡ magic_judged {G = G} part_next after (form (length text)) found = ap (λ (t : S). fields.judge t (length text) field) at.1 ∙ ap (λ (l : List ℕ). fields.judge (part_next part) (length text) l) one ∙ reads.judges part (length text) byte in
    subst (λ (j : Judged S G F). After (λ t l g. IsAt letters part_next known_in IsPast t l) (text ++ field) given j) (sym judged)
    (subst (λ (l : List ℕ). After (λ t m g. IsAt letters part_next known_in IsPast t m) (text ++ l) given (magic_judged {G = G} part_next after (form (length text)) found)) (sym one)
    (magic_on fields letters part_next after known_in IsPast knows (form (length text)) (text ++ byte ∷ []) given found
    (subst (λ (n : ℕ). LeadsTo letters n (text ++ byte ∷ []) found) (sym (length-append text (byte ∷ [])))
    (subst (λ (l : List ℕ). LeadsTo letters (length text + 1) (l ++ byte ∷ []) found) (sym at.2) (leads part letters (length text) byte reads.six at.3 at.4)))))
at_keeps fields letters part_next after form reads known_in IsPast knows s text field given size (inr past) =
    past_on letters part_next known_in IsPast (known_in s) (text ++ field) given (fields.judge s (length text) field) (further letters text field (known_in s) past.1) (knows.stays s (length text) field past.0)

-- ---- the version that was read

pub known_version : (version : ℕ) → IsVersion version → version_in version ≡ Some version
known_version version (inl one) = rw one refl
known_version version (inr two) = rw two refl

version_some : (found version : ℕ) → version_in found ≡ Some version → (found ≡ version) × (found ≢ 0)
version_some found version is = elim (found == 0) as (λ t. (found == 0) ≡ t → (found ≡ version) × (found ≢ 0)) [
  | true ↦ λ zero_is. let none : version_in found ≡ None = rw zero_is refl in cc
  | false ↦ λ some_is.
      let same : found ≡ version = (let told : version_in found ≡ Some found = rw some_is refl in cc) in
      (same, λ zero_is. grind (arith, nat_tests, some_is, zero_is))
] refl

-- a version that was read is that of the magic with which the text begins
pub told_magic : {S G F : Type 0} (fields : Fields S G F) (lawful : IsLawful fields) (letters : List ℕ) (part_next : MagicPart → S) (after : ℕ → S) (form : ℕ → F) (reads : ReadsMagic fields letters part_next after form) (known_in : S → ℕ) (IsPast : S → Type 0) (knows : KnowsVersion fields part_next after known_in IsPast)
    (text : List ℕ) (version : ℕ) → version_in (known_in (read_on (step fields) (at_state fields.start 0) text).last.state) ≡ Some version → HasMagic letters text version
told_magic {S} {G} {F} fields lawful letters part_next after form reads known_in IsPast knows text version is =
    let s : S = (read_on (step fields) (at_state fields.start 0) text).last.state in
    let reached = text_reaches fields lawful text in
    let front : List ℕ = concat reached.begins.parts in
    let six = reads.six in
    let found = version_some (known_in s) version is in
    subst (HasMagic letters text) found.0
    (elim (runs_keep fields (λ field. ⊤) (λ t l g. IsAt letters part_next known_in IsPast t l) (λ t l field g ok at size. at_keeps fields letters part_next after form reads known_in IsPast knows t l field g size at)
    reached.begins.parts fields.start s [] 0 [] reached.given refl (any_parts reached.begins.parts) (inl (Letters, reads.start_is, refl, omega arith, tt)) reached.begins.runs) [
      | inl at ↦ absurd (found.1 (ap (λ (t : S). known_in t) at.1 ∙ knows.none at.0))
      | inr past ↦ subst (λ (l : List ℕ). HasMagic letters l (known_in s)) (sym reached.begins.text_is) (further letters front reached.rest (known_in s) past.1)
    ])

-- the version of the magic with which a text begins is read
pub magic_told : {S G F : Type 0} (fields : Fields S G F) (lawful : IsLawful fields) (letters : List ℕ) (part_next : MagicPart → S) (after : ℕ → S) (form : ℕ → F) (reads : ReadsMagic fields letters part_next after form) (known_in : S → ℕ) (IsPast : S → Type 0) (knows : KnowsVersion fields part_next after known_in IsPast)
    (text : List ℕ) (version : ℕ) → HasMagic letters text version → version_in (known_in (read_on (step fields) (at_state fields.start 0) text).last.state) ≡ Some version
magic_told {S} {G} {F} fields lawful letters part_next after form reads known_in IsPast knows text version has =
    let Past : S → Type 0 = λ s. (known_in s ≡ version) × IsPast s in
    let six = reads.six in
    let room = reads.room in
    let size : length (magic_of letters version) ≡ 8 = omega (arith, six, length-append letters ((48 + version) ∷ 10 ∷ [])) in
    let begins : Begins fields text (after version) [] has.rest = over_begins fields text (after version) (magic_of letters version) has.rest [] (magic_over fields letters part_next after form reads version has.known) (omega (arith, size, room)) has.whole in
    let kept = state_kept fields Past (λ s at field past. subst (λ (n : ℕ). Leaves (λ next. (known_in next ≡ n) × IsPast next) (fields.judge s at field)) past.0 (knows.stays s at field past.1)) has.rest (at_state (after version) (length (concat begins.parts))) (knows.whole version) in
    ap (λ (r : Reading (Place S F) G). version_in (known_in r.last.state)) (begins_read fields lawful text (after version) [] has.rest begins) ∙ ap (λ (n : ℕ). version_in n) kept.0 ∙ known_version version has.known

-- it is that of every longer text
pub version_stays : {S G F : Type 0} (fields : Fields S G F) (lawful : IsLawful fields) (letters : List ℕ) (part_next : MagicPart → S) (after : ℕ → S) (form : ℕ → F) (reads : ReadsMagic fields letters part_next after form) (known_in : S → ℕ) (IsPast : S → Type 0) (knows : KnowsVersion fields part_next after known_in IsPast)
    (text more : List ℕ) (version : ℕ) → version_in (known_in (read_on (step fields) (at_state fields.start 0) text).last.state) ≡ Some version → version_in (known_in (read_on (step fields) (at_state fields.start 0) (text ++ more)).last.state) ≡ Some version
version_stays fields lawful letters part_next after form reads known_in IsPast knows text more version is =
    magic_told fields lawful letters part_next after form reads known_in IsPast knows (text ++ more) version (further letters text more version (told_magic fields lawful letters part_next after form reads known_in IsPast knows text version is))
