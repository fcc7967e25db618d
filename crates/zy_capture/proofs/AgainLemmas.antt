-- Outputs to which one was added are outputs that can be written and read again.
use Rattle.std.proofs.Common.{◌≡◌, inl, inr, ℕ, zero, suc, ◌+◌, ◌<◌, List, [], ◌∷◌, ◌++◌, length, set, get_or, refl}
use Rattle.std.proofs.Common.{arith, length-append}
use Rattle.std.specs.Prelude.{◌==◌, false}
use Rattle.std.specs.List.{AllByRecursion, slice_set}
use Rattle.std.proofs.lemmas.List.{length-set}
use Rattle.std.proofs.lemmas.Bool.{eq-eqb}
use Rattle.std.proofs.lemmas.Bool.Decides.{nat_tests}
use Rattle.zy_capture.specs.Outputs.{AllOutputs, AreOutputs, HasSessions, MayAdd, with_session, with_output}
use Rattle.zy_capture.specs.Streams.{sessions_of}

-- ---- what adding keeps

all_append : {X : Type 0} (P : X → Type 0) (xs : List X) (y : X) → AllByRecursion P xs → P y → AllByRecursion P (xs ++ y ∷ [])
all_append P [] y all one = (one, tt)
all_append P (x ∷ xs) y all one = (all.0, all_append P xs y all.1 one)

all_set : {X : Type 0} (P : X → Type 0) (xs : List X) (i : ℕ) (y : X) → AllByRecursion P xs → P y → AllByRecursion P (set xs i y)
all_set P [] i y all one = tt
all_set P (x ∷ xs) zero y all one = (one, all.1)
all_set P (x ∷ xs) (suc i) y all one = (all.0, all_set P xs i y all.1 one)

all_get : {X : Type 0} (P : X → Type 0) (xs : List X) (i : ℕ) (d : X) → i < length xs → AllByRecursion P xs → P (get_or xs i d)
all_get P [] i d within all = absurd (omega (arith, within))
all_get P (x ∷ xs) zero d within all = all.0
all_get P (x ∷ xs) (suc i) d within all = all_get P xs i d (omega (arith, within)) all.1

pub with_output_are : (outputs : AllOutputs) (conn : ℕ) (bytes : List ℕ) → AreOutputs outputs → MayAdd outputs conn → AreOutputs (with_output outputs conn bytes)
with_output_are outputs conn bytes are (inl next) =
    let fresh : HasSessions outputs.version (bytes ∷ []) = record { some = omega arith; few = omega arith; one = λ one. refl } in
    let is : with_session outputs.sessions conn bytes ≡ outputs.sessions ++ (bytes ∷ []) ∷ [] = rw (eq-eqb conn (length outputs.sessions) next.0) refl in
    record {
      known = are.known;
      few = rw is (omega (arith, length-append outputs.sessions ((bytes ∷ []) ∷ []), next.0, next.1));
      sessions = rw is (all_append (HasSessions outputs.version) outputs.sessions (bytes ∷ []) are.sessions fresh);
    }
with_output_are outputs conn bytes are (inr last) =
    let old : List (List ℕ) = sessions_of outputs.sessions conn in
    let had : HasSessions outputs.version old = all_get (HasSessions outputs.version) outputs.sessions conn [] (omega (arith, last.1)) are.sessions in
    let longer : length (old ++ bytes ∷ []) ≡ length old + 1 = length-append old (bytes ∷ []) in
    let has : HasSessions outputs.version (old ++ bytes ∷ []) = record { some = omega (arith, longer); few = omega (arith, longer, last.2); one = λ one. absurd (omega (arith, one, last.0)) } in
    let differs : (conn == length outputs.sessions) ≡ false = grind (arith, nat_tests, last.1) in
    let is : with_session outputs.sessions conn bytes ≡ slice_set outputs.sessions conn (old ++ bytes ∷ []) = rw differs refl in
    record {
      known = are.known;
      few = rw is (omega (arith, length-set outputs.sessions conn (old ++ bytes ∷ []), are.few));
      sessions = rw is (all_set (HasSessions outputs.version) outputs.sessions conn (old ++ bytes ∷ []) are.sessions has);
    }
