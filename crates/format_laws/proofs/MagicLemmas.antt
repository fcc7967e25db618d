-- A byte of a magic is wrong if and only if it continues no magic.
use Rattle.zy_read.proofs.MagicFieldLemmas.{digit_next, part_over}
use Rattle.std.proofs.Common.{◌≡◌, inl, inr, ℕ, zero, suc, ◌+◌, ◌<◌, ◌≤◌, true, false, List, [], ◌∷◌, ◌++◌, length}
use Rattle.std.proofs.Common.{take, drop, get_or, refl, sym, ◌∙◌, ap, subst, arith, append_assoc, length-append}
use Rattle.std.proofs.Common.{take-append-drop}
use Rattle.std.specs.Prelude.{◌==◌, if◌then◌else◌}
use Rattle.std.specs.List.{slice_index}
use Rattle.std.proofs.lemmas.List.{append-nil, take_all, take_at, length-take-le}
use Rattle.std.proofs.lemmas.Bool.{eqb-true, eq-eqb}
use Rattle.std.proofs.lemmas.Bool.Decides.{nat_tests}
use Rattle.zy_read.specs.Fields.{Fields}
use Rattle.zy_read.specs.Fields.Judged.{Wrong as IsFault}
use Rattle.zy_read.specs.Runs.{IsMisjudged, RunsOver}
use Rattle.zy_read.specs.declared.magic.MagicPart.{MagicPart}
use Rattle.zy_read.specs.declared.magic.MagicPart.TheVariants.{Letters, Digit, LineFeed}
use Rattle.zy_read.specs.declared.magic.MagicStep.{MagicStep}
use Rattle.zy_read.specs.declared.magic.MagicStep.TheVariants.{Next, Whole, Wrong}
use Rattle.zy_read.specs.Magic.{digit, line_feed, magic_step, IsInMagic, magic_before, magic_of, magic_judged}
use Rattle.zy_read.specs.Magic.{ReadsMagic}
use Rattle.format_laws.specs.BadMagic.{BeginsMagic, IsBadMagic}
use Rattle.zy_read.proofs.MagicLemmas.{IsKnown, LeadsTo, leads}
use Rattle.format_laws.proofs.VerdictLemmas.{over_misjudged}

-- ---- beginnings of a magic

before_begins : (part : MagicPart) (letters : List ℕ) (at : ℕ) → IsKnown part → BeginsMagic letters (magic_before part letters at)
before_begins Letters letters at known = record {
  version = 1;
  rest = drop at letters ++ 49 ∷ 10 ∷ [];
  known = inl refl;
  whole = sym (append_assoc (take at letters) (drop at letters) (49 ∷ 10 ∷ [])) ∙ ap (λ (l : List ℕ). l ++ 49 ∷ 10 ∷ []) (take-append-drop at letters);
}
before_begins Digit letters at known = record { version = 1; rest = 49 ∷ 10 ∷ []; known = inl refl; whole = refl }
before_begins (LineFeed version) letters at known = record { version = version; rest = 10 ∷ []; known = known; whole = append_assoc letters ((48 + version) ∷ []) (10 ∷ []) }

-- the byte at a place
byte_there : (front text tail : List ℕ) (byte at : ℕ) → (front ++ byte ∷ []) ++ tail ≡ text → at ≡ length front → byte ≡ get_or text at 0
byte_there [] text tail byte at is place = rw (place, sym is) refl
byte_there (first ∷ front) [] tail byte at is place = cc
byte_there (first ∷ front) (second ∷ text) tail byte at is place =
    let same : (front ++ byte ∷ []) ++ tail ≡ text = ap (λ (l : List ℕ). drop 1 l) is in
    let here : at ≡ suc (length front) = omega (arith, place) in
    byte_there front text tail byte (length front) same refl ∙ ap (λ (n : ℕ). get_or (second ∷ text) n 0) (sym here)

-- so is the letter
letter_there : (letters more : List ℕ) (at : ℕ) → at < length letters → get_or (letters ++ more) at 0 ≡ slice_index letters at
letter_there [] more at within = absurd (omega (arith, within))
letter_there (first ∷ letters) more zero within = refl
letter_there (first ∷ letters) more (suc at) within = letter_there letters more at (omega (arith, within))

after_letters : (letters more : List ℕ) (at : ℕ) → get_or (letters ++ more) (length letters + at) 0 ≡ get_or more at 0
after_letters [] more at = ap (λ (n : ℕ). get_or more n 0) (omega arith)
after_letters (first ∷ letters) more at =
    let there : suc (length letters) + at ≡ suc (length letters + at) = omega arith in
    ap (λ (n : ℕ). get_or (first ∷ (letters ++ more)) n 0) there ∙ after_letters letters more at

-- a byte that is wrong continues no magic
step_differs : (part : MagicPart) (letters : List ℕ) (at byte : ℕ) → length letters ≡ 6 → IsInMagic part at → magic_step part letters at byte ≡ Wrong → BeginsMagic letters (magic_before part letters at ++ byte ∷ []) → ⊥
step_differs Letters letters at byte six within wrong begins =
    let same : byte ≡ slice_index letters at = byte_there (take at letters) (magic_of letters begins.version) begins.rest byte at begins.whole (sym (length-take-le at letters (omega (arith, six, within)))) ∙ letter_there letters ((48 + begins.version) ∷ 10 ∷ []) at (omega (arith, six, within)) in
    let right : (byte == slice_index letters at) ≡ true = eq-eqb byte (slice_index letters at) same in
    let goes : magic_step Letters letters at byte ≡ (if at == 5 then Next Digit else Next Letters) = rw right refl in
    elim (at == 5) as (λ b. (if at == 5 then Next Digit else Next Letters) ≡ (if b then Next Digit else Next Letters) → ⊥) [ true ↦ λ is. cc | false ↦ λ is. cc ] refl
step_differs Digit letters at byte six within wrong begins =
    let same : byte ≡ 48 + begins.version = byte_there letters (magic_of letters begins.version) begins.rest byte 6 begins.whole (sym six) ∙ ap (λ (n : ℕ). get_or (magic_of letters begins.version) n 0) (omega (arith, six)) ∙ after_letters letters ((48 + begins.version) ∷ 10 ∷ []) 0 in
    let goes : magic_step Digit letters at byte ≡ Next (LineFeed begins.version) = ap (λ (b : ℕ). digit b) same ∙ digit_next begins.version begins.known in
    cc
step_differs (LineFeed version) letters at byte six within wrong begins =
    let size : 7 ≡ length (letters ++ (48 + version) ∷ []) = omega (arith, six, length-append letters ((48 + version) ∷ [])) in
    let same : byte ≡ 10 = byte_there (letters ++ (48 + version) ∷ []) (magic_of letters begins.version) begins.rest byte 7 begins.whole size ∙ ap (λ (n : ℕ). get_or (magic_of letters begins.version) n 0) (omega (arith, six)) ∙ after_letters letters ((48 + begins.version) ∷ 10 ∷ []) 1 in
    let goes : magic_step (LineFeed version) letters at byte ≡ Whole version = ap (λ (b : ℕ). line_feed version b) same in
    cc

-- a byte that continues none is wrong
differs_step : (letters text : List ℕ) (at : ℕ) (found : MagicStep) → LeadsTo letters at text found → (BeginsMagic letters text → ⊥) → found ≡ Wrong
differs_step letters text at (Next part) on differs = absurd (differs (subst (BeginsMagic letters) (sym on.2) (before_begins part letters at on.1)))
differs_step letters text at (Whole version) on differs = absurd (differs (record { version = version; rest = []; known = on.0; whole = append-nil text ∙ on.1 }))
differs_step letters text at Wrong on differs = refl

-- the part of the magic after its first bytes
pub record IsBefore (letters front : List ℕ) : Type 0 where
  pub part : MagicPart
  pub within : IsInMagic part (length front)
  pub known : IsKnown part
  pub is : front ≡ magic_before part letters (length front)

take_front : (x y : List ℕ) (n : ℕ) → n ≤ length x → take n (x ++ y) ≡ take n x
take_front x y zero few = refl
take_front [] y (suc n) few = absurd (omega (arith, few))
take_front (first ∷ x) y (suc n) few = ap (λ (l : List ℕ). first ∷ l) (take_front x y n (omega (arith, few)))

pub begins_before : (letters front : List ℕ) (at : ℕ) → length letters ≡ 6 → at ≡ length front → at < 8 → BeginsMagic letters front → IsBefore letters front
begins_before letters front at six place within begins =
    let whole : front ≡ take at (magic_of letters begins.version) = sym (take_at front begins.rest at (sym place)) ∙ ap (λ (l : List ℕ). take at l) begins.whole in
    elim (at == 6) as (λ b. (at == 6) ≡ b → IsBefore letters front) [
      | true ↦ λ is. let here : at ≡ 6 = eqb-true at 6 is in record {
        part = Digit;
        within = tt;
        known = tt;
        is = whole ∙ take_front letters ((48 + begins.version) ∷ 10 ∷ []) at (omega (arith, six, here)) ∙ take_all at letters (omega (arith, six, here));
      }
      | false ↦ λ not_six. elim (at == 7) as (λ b. (at == 7) ≡ b → IsBefore letters front) [
        | true ↦ λ is. let here : at ≡ 7 = eqb-true at 7 is in record {
          part = LineFeed begins.version;
          within = tt;
          known = begins.known;
          is = whole ∙ ap (λ (l : List ℕ). take at l) (sym (append_assoc letters ((48 + begins.version) ∷ []) (10 ∷ [])))
              ∙ take_front (letters ++ (48 + begins.version) ∷ []) (10 ∷ []) at (omega (arith, six, here, length-append letters ((48 + begins.version) ∷ [])))
              ∙ take_all at (letters ++ (48 + begins.version) ∷ []) (omega (arith, six, here, length-append letters ((48 + begins.version) ∷ [])));
        }
        | false ↦ λ not_seven. let few : at < 6 = grind (arith, nat_tests) in record {
          part = Letters;
          within = omega (arith, place, few);
          known = tt;
          is = whole ∙ take_front letters ((48 + begins.version) ∷ 10 ∷ []) at (omega (arith, six, few)) ∙ ap (λ (n : ℕ). take n letters) place;
        }
      ] refl
    ] refl

-- ---- the byte that is wrong

-- it is one of the first eight
few : (part : MagicPart) (letters front : List ℕ) → length letters ≡ 6 → front ≡ magic_before part letters (length front) → IsInMagic part (length front) → length front < 8
few Letters letters front six is within = omega (arith, within)
few Digit letters front six is within = omega (arith, six, ap (λ (l : List ℕ). length l) is)
few (LineFeed version) letters front six is within = omega (arith, six, ap (λ (l : List ℕ). length l) is, length-append letters ((48 + version) ∷ []))

-- a byte of the magic that is wrong
pub bad_magic : (part : MagicPart) (letters text front rest : List ℕ) (byte : ℕ) → length letters ≡ 6 → text ≡ front ++ byte ∷ rest → front ≡ magic_before part letters (length front) → IsInMagic part (length front) → IsKnown part → magic_step part letters (length front) byte ≡ Wrong
    → IsBadMagic letters text (length front)
bad_magic part letters text front rest byte six whole is within known wrong = record {
  front = front;
  byte = byte;
  rest = rest;
  whole = whole;
  place = refl;
  within = few part letters front six is within;
  begins = subst (BeginsMagic letters) (sym is) (before_begins part letters (length front) known);
  differs = λ begins. step_differs part letters (length front) byte six within wrong (subst (λ (l : List ℕ). BeginsMagic letters (l ++ byte ∷ [])) is begins);
}

-- it is a field that is judged wrong
pub magic_misjudged : {S G F : Type 0} (fields : Fields S G F) (letters : List ℕ) (part_next : MagicPart → S) (after : ℕ → S) (form : ℕ → F) (reads : ReadsMagic fields letters part_next after form) (text : List ℕ) (at : ℕ) (has : IsBadMagic letters text at)
    → IsMisjudged fields text (part_next (begins_before letters has.front at reads.six has.place has.within has.begins).part) (form at)
magic_misjudged {S} {G} {F} fields letters part_next after form reads text at has =
    let here = begins_before letters has.front at reads.six has.place has.within has.begins in
    let room = reads.room in
    let place : length has.front ≡ at = sym has.place in
    let found : MagicStep = magic_step here.part letters (length has.front) has.byte in
    let wrong : found ≡ Wrong = differs_step letters (has.front ++ has.byte ∷ []) (length has.front + 1) found
    (subst (λ (l : List ℕ). LeadsTo letters (length has.front + 1) (l ++ has.byte ∷ []) found) (sym here.is) (leads here.part letters (length has.front) has.byte reads.six here.within here.known)) has.differs in
    over_misjudged fields text (part_next here.part) (form at) has.front (has.byte ∷ []) has.rest []
    (subst (λ (l : List ℕ). RunsOver fields fields.start 0 l (part_next here.part) []) (sym here.is) (part_over fields letters part_next after form reads here.part (length has.front) here.within here.known))
    (omega (arith, place, has.within, room)) has.whole (sym (reads.widths here.part)) (inr (omega (arith, place, has.within, room)))
    (reads.judges here.part (length has.front) has.byte ∙ ap (λ (m : MagicStep). magic_judged {G = G} part_next after (form (length has.front)) m) wrong ∙ ap (λ (n : ℕ). IsFault (form n)) place)
