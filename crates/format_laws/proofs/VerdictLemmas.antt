-- The verdict on a text of fields that has a fault, is cut, or is too long.
use Rattle.zy_read.proofs.OverLemmas.{over_begins}
use Rattle.std.proofs.Common.{◌≡◌, ℕ, ◌+◌, ◌≤◌, List, ◌++◌, length, sym, ◌∙◌, ap, subst, inl, inr, ◌-◌, true, [], ◌∷◌}
use Rattle.std.proofs.Common.{refl, arith, append_assoc, length-append}
use Rattle.zy_read.specs.Fields.{Fields, Judged, IsLawful, Place, at_state, refused, grown_by, moved, step, format_of}
use Rattle.zy_read.specs.Fields.Judged.{Wrong}
use Rattle.zy_read.specs.Runs.{RunsOver, HasRoom, IsMisjudged, IsCut, IsOverlong, HasFault}
use Rattle.zy_read.proofs.VerdictLemmas.{begins_read, verdict_by}
use Rattle.std.specs.Prelude.{◌&&◌, not, nat_le, None, Some}
use Rattle.std.specs.List.{concat}
use Rattle.std.proofs.lemmas.List.{append-nil}
use Rattle.std.proofs.lemmas.Bool.Decides.{nat_tests}
use Rattle.zy_read.specs.Format.{Step, Reading, read_on, verdict_on}
use Rattle.zy_read.specs.FieldsLasting.{lasting}
use Rattle.zy_read.proofs.Feeding.{read_broken}
use Rattle.zy_read.proofs.FieldLemmas.{goes_on, within, read_rest, grows_read, with_given}

-- a text in which a wrong field follows them
pub over_misjudged : {S G F : Type 0} (fields : Fields S G F) (text : List ℕ) (s : S) (fault : F) (x field rest : List ℕ) (given : List G) → RunsOver fields fields.start 0 x s given → length x ≤ fields.limit → text ≡ x ++ (field ++ rest) → length field ≡ fields.width s
    → HasRoom fields s (length x + length field) → fields.judge s (length x) field ≡ Wrong fault → IsMisjudged fields text s fault
over_misjudged fields text s fault x field rest given over short whole size room wrong = record {
  given = given;
  field = field;
  rest = rest;
  begins = over_begins fields text s x (field ++ rest) given over short whole;
  size = size;
  room = subst (λ (n : ℕ). HasRoom fields s (n + length field)) (ap (λ (l : List ℕ). length l) (sym over.text_is)) room;
  wrong = ap (λ (l : List ℕ). fields.judge s (length l) field) over.text_is ∙ wrong;
}

-- ---- what a text that begins with fields is read as

-- nothing is read after a fault
broken_read : {S G F : Type 0} (fields : Fields S G F) (p : Place S F) (fault : F) (rest : List ℕ) → goes_on fields (refused p fault) rest ≡ record { given = []; last = record p { seen = []; fault = Some fault } }
broken_read {S} {G} {F} fields p fault rest =
    read_broken (format_of fields (λ s given. None) (λ f. Some f)) (lasting fields (λ s given. None) (λ f. Some f)) (record p { seen = []; fault = Some fault }) fault rest refl

-- ---- the verdict

-- a field that is wrong is the fault
misjudged_bad : {S G F V : Type 0} (fields : Fields S G F) (lawful : IsLawful fields) (good : S → List G → V) (bad : F → V) (text : List ℕ) (s : S) (fault : F) → IsMisjudged fields text s fault → verdict_on (format_of fields good bad) text ≡ bad fault
misjudged_bad {S} {G} {F} fields lawful good bad text s fault has =
    let at : ℕ = length (concat has.begins.parts) in
    let one = read_rest fields s has.field [] at (omega (arith, has.size, lawful.some s)) (omega (arith, has.size)) has.room in
    let judged : fields.judge s (at - 0) has.field ≡ Wrong fault = (let same : at - 0 ≡ at = omega arith in rw same has.wrong) in
    verdict_by fields good bad text (with_given has.given (record { given = []; last = record (one.last) { seen = []; fault = Some fault } }))
    (begins_read fields lawful text s has.given (has.field ++ has.rest) has.begins
    ∙ ap (λ (r : Reading (Place S F) G). with_given has.given r) (one.reads has.rest ∙ ap (λ (j : Judged S G F). goes_on fields (moved one.last j) has.rest) judged ∙ broken_read fields one.last fault has.rest))

-- so is a further byte after the most
overlong_bad : {S G F V : Type 0} (fields : Fields S G F) (lawful : IsLawful fields) (good : S → List G → V) (bad : F → V) (text : List ℕ) (s : S) → IsOverlong fields text s → verdict_on (format_of fields good bad) text ≡ bad fields.too_long
unfolding read_on
overlong_bad {S} {G} {F} fields lawful good bad text s has =
    let at : ℕ = length (concat has.begins.parts) in
    let p : Place S F = grown_by (within s [] at) has.seen in
    let full : (not (fields.is_end s) && nat_le fields.limit (at + length has.seen)) ≡ true = (let no_end = has.no_end in let most = has.most in grind (arith, nat_tests)) in
    let refusal : step fields p has.byte ≡ refused p fields.too_long = rw full refl in
    verdict_by fields good bad text (with_given has.given (record { given = []; last = record p { seen = []; fault = Some fields.too_long } }))
    (begins_read fields lawful text s has.given (has.seen ++ has.byte ∷ has.rest) has.begins
    ∙ ap (λ (r : Reading (Place S F) G). with_given has.given r) (grows_read fields has.seen s [] at (has.byte ∷ has.rest) (omega (arith, has.part)) (inr (omega (arith, has.most)))
    ∙ ap (λ (k : Step (Place S F) G). goes_on fields k has.rest) refusal ∙ broken_read fields p fields.too_long has.rest))

-- a text is bad with the fault that it has
pub fault_bad : {S G F V : Type 0} (fields : Fields S G F) (lawful : IsLawful fields) (good : S → List G → V) (bad : F → V) (text : List ℕ) (s : S) (fault : F) → HasFault fields text s fault → verdict_on (format_of fields good bad) text ≡ bad fault
fault_bad fields lawful good bad text s fault (inl has) = misjudged_bad fields lawful good bad text s fault has
fault_bad fields lawful good bad text s fault (inr has) = overlong_bad fields lawful good bad text s has.0 ∙ ap bad (sym has.1)

-- a text that is cut is truncated
pub cut_bad : {S G F V : Type 0} (fields : Fields S G F) (lawful : IsLawful fields) (good : S → List G → V) (bad : F → V) (text : List ℕ) → IsCut fields text → verdict_on (format_of fields good bad) text ≡ bad (fields.truncated (length text))
unfolding read_on
cut_bad {S} {G} {F} fields lawful good bad text cut =
    let at : ℕ = length (concat cut.begins.parts) in
    let p : Place S F = grown_by (within cut.s [] at) cut.seen in
    let sizes : length text ≡ at + length cut.seen = ap (λ (l : List ℕ). length l) cut.begins.text_is ∙ length-append (concat cut.begins.parts) cut.seen in
    verdict_by fields good bad text (with_given cut.given (record { given = []; last = p }))
    (begins_read fields lawful text cut.s cut.given cut.seen cut.begins
    ∙ ap (λ (r : Reading (Place S F) G). with_given cut.given r) (ap (λ (l : List ℕ). read_on (step fields) (at_state cut.s at) l) (sym (append-nil cut.seen)) ∙ grows_read fields cut.seen cut.s [] at [] (omega (arith, cut.part)) (inr (omega (arith, sizes, cut.within)))))
    ∙ rw cut.no_end (ap (λ (n : ℕ). bad (fields.truncated n)) (sym sizes))

-- a further byte after the most of a text that is cut
pub cut_overlong : {S G F : Type 0} (fields : Fields S G F) (front : List ℕ) (byte : ℕ) (rest : List ℕ) (cut : IsCut fields front) → length front ≡ fields.limit → IsOverlong fields (front ++ byte ∷ rest) cut.s
cut_overlong fields front byte rest cut most = record {
  given = cut.given;
  seen = cut.seen;
  byte = byte;
  rest = rest;
  begins = record {
    parts = cut.begins.parts;
    runs = cut.begins.runs;
    text_is = ap (λ (l : List ℕ). l ++ byte ∷ rest) cut.begins.text_is ∙ append_assoc (concat cut.begins.parts) cut.seen (byte ∷ rest);
    short = cut.begins.short;
  };
  no_end = cut.no_end;
  part = cut.part;
  most = sym (length-append (concat cut.begins.parts) cut.seen) ∙ ap (λ (l : List ℕ). length l) (sym cut.begins.text_is) ∙ most;
}

-- ---- texts that are too long

-- the most bytes of a text that is too long are cut
pub overlong_cut : {S G F : Type 0} (fields : Fields S G F) (text : List ℕ) (s : S) (long : IsOverlong fields text s) → IsCut fields (concat long.begins.parts ++ long.seen)
overlong_cut fields text s long = record {
  s = s;
  given = long.given;
  seen = long.seen;
  begins = record { parts = long.begins.parts; runs = long.begins.runs; text_is = refl; short = long.begins.short };
  no_end = long.no_end;
  part = long.part;
  within = omega (arith, length-append (concat long.begins.parts) long.seen, long.most);
}

-- a further byte follows them
pub overlong_text : {S G F : Type 0} (fields : Fields S G F) (text : List ℕ) (s : S) (long : IsOverlong fields text s) → text ≡ (concat long.begins.parts ++ long.seen) ++ long.byte ∷ long.rest
overlong_text fields text s long = long.begins.text_is ∙ sym (append_assoc (concat long.begins.parts) long.seen (long.byte ∷ long.rest))

pub overlong_most : {S G F : Type 0} (fields : Fields S G F) (text : List ℕ) (s : S) (long : IsOverlong fields text s) → length (concat long.begins.parts ++ long.seen) ≡ fields.limit
overlong_most fields text s long = length-append (concat long.begins.parts) long.seen ∙ long.most

pub overlong_long : {S G F : Type 0} (fields : Fields S G F) (text : List ℕ) (s : S) → IsOverlong fields text s → fields.limit + 1 ≤ length text
overlong_long fields text s long =
    omega (arith, ap (λ (l : List ℕ). length l) (overlong_text fields text s long), length-append (concat long.begins.parts ++ long.seen) (long.byte ∷ long.rest), overlong_most fields text s long)
