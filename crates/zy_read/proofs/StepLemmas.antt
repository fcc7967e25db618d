-- What a byte of a text of fields does.
use Rattle.std.proofs.Common.{List, ◌≡◌, ℕ, ◌+◌, ◌-◌, Bool, true, false, [], ◌∷◌, ◌++◌, length, refl, arith}
use Rattle.std.specs.Prelude.{nat_lt, if◌then◌else◌, Option, None, Some}
use Rattle.std.proofs.lemmas.Bool.Decides.{nat_tests}
use Rattle.zy_read.specs.Format.{Step}
use Rattle.zy_read.specs.Fields.{Judged, Fields, IsWrong, IsLawful, Place, refused, grown_by, moved, judged_at, is_full, step_by, step}
use Rattle.zy_read.specs.Fields.Judged.{Then, Gives, Wrong}

chosen : {X : Type 0} (P : X → Type 0) (test : Bool) (x y : X) → P x → P y → P (if test then x else y)
chosen P true x y first second = first
chosen P false x y first second = second

by_fault : {S G F : Type 0} (fields : Fields S G F) (Holds : Step (Place S F) G → Type 0) (p : Place S F) (byte : ℕ) (found : Option F) → p.fault ≡ found → ((fault : F) → p.fault ≡ Some fault → Holds (record { next = p; gave = None })) → Holds (refused p fields.too_long)
    → Holds (record { next = grown_by p (byte ∷ []); gave = None }) → Holds (moved p (judged_at fields p byte)) → Holds (step_by found fields p byte)
by_fault fields Holds p byte None is met full grows moves =
    chosen Holds (is_full fields p) _ _ full (chosen Holds (nat_lt (length p.seen + 1) (fields.width p.state)) _ _ grows moves)
by_fault fields Holds p byte (Some fault) is met full grows moves = met fault is

-- after a fault it does nothing; else it is one too many, or not the last one of its field, or it ends its field
pub step_does : {S G F : Type 0} (fields : Fields S G F) (Holds : Step (Place S F) G → Type 0) (p : Place S F) (byte : ℕ) → ((fault : F) → p.fault ≡ Some fault → Holds (record { next = p; gave = None })) → Holds (refused p fields.too_long)
    → Holds (record { next = grown_by p (byte ∷ []); gave = None }) → Holds (moved p (judged_at fields p byte)) → Holds (step fields p byte)
step_does fields Holds p byte met full grows moves = by_fault fields Holds p byte p.fault refl met full grows moves

wrong_met : {S G F : Type 0} (p : Place S F) (judged : Judged S G F) → IsWrong judged → (fault : F) × ((moved p judged).next.fault ≡ Some fault)
wrong_met p (Then next) wrong = absurd wrong
wrong_met p (Gives next item) wrong = absurd wrong
wrong_met p (Wrong fault) wrong = (fault, refl)

-- where the text may end, and each further byte is wrong, it is a fault
pub end_closes : {S G F : Type 0} (fields : Fields S G F) (lawful : IsLawful fields) (p : Place S F) (byte : ℕ) → p.fault ≡ None → fields.is_end p.state ≡ true → ((at : ℕ) (field : List ℕ) → IsWrong (fields.judge p.state at field)) → (fault : F) × ((step fields p byte).next.fault ≡ Some fault)
end_closes fields lawful p byte none is wrong =
    let one : fields.width p.state ≡ 1 = lawful.one p.state is in
    let last : nat_lt (length p.seen + 1) 1 ≡ false = grind (arith, nat_tests) in
    rw (none, is, one, last) (wrong_met p (judged_at fields p byte) (wrong (p.at - length p.seen) (p.seen ++ byte ∷ [])))
