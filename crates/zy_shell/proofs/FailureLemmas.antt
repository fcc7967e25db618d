-- Which failure it is, by the arguments and by the bytes that the source reported.
use Rattle.std.proofs.Common.{◌≡◌, ℕ, List, refl, sym, ap, subst, inl, inr}
use Rattle.std.specs.Prelude.{Option, None, Some, Err, IfSome, IsSomeAnd}
use Rattle.zy_input.specs.declared.stop.Refusal.{Refusal as OneRefusal}
use Rattle.zy_read.proofs.SourceLemmas.{told_all}
use Rattle.zy_read.specs.Seen.{Side, Seen, NoneRose, OfGiven}
use Rattle.zy_shell.specs.declared.failure.Failure.{Failure}
use Rattle.zy_shell.specs.declared.failure.Failure.TheVariants.{Usage, Refused, ReadFault, WriteFault, OutOfMemory}
use Rattle.zy_shell.specs.Input.{Input, HasInputFault}
use Rattle.zy_shell.specs.Asked.{Asked, IsFaultOf, IsToldGood, IsToldBad}
use Rattle.zy_shell.specs.Asked.Asked.{Invalid, Nothing, Reading}
use Rattle.zy_shell.specs.Failure.{HasFailed, IsThisOr}
use Rattle.zy_shell.proofs.InputLemmas.{PartsHaveOne, one_fault}

-- invalid arguments are answered by the usage line
pub invalid_fails : (A : Type 0) (call : Seen) (HasPart : Type 0) → (HasPart → ⊥) → (failure : Failure) → HasFailed Invalid call HasPart failure → IsThisOr {A = A} Usage (Err failure)
invalid_fails A call HasPart none Usage failed = inl refl
invalid_fails A call HasPart none (Refused refusal) failed = absurd failed
invalid_fails A call HasPart none ReadFault failed = absurd failed.0
invalid_fails A call HasPart none WriteFault failed = absurd (none failed.0)
invalid_fails A call HasPart none OutOfMemory failed = inr refl

-- a good input is not rejected
not_refused : (asked : Asked) (reported : Option (List ℕ)) (refusal : OneRefusal) → IsToldGood asked reported → IsFaultOf asked reported refusal → ⊥
not_refused Invalid reported refusal good refused = refused
not_refused Nothing reported refusal good refused = refused
not_refused (Reading input) None refusal good refused = good
not_refused (Reading input) (Some bytes) refusal good refused = good refusal refused.1

-- for a good input only memory runs out
pub good_fails : (asked : Asked) (call : Seen) (HasPart : Type 0) (failure : Failure) → IsToldGood asked call.source.before → NoneRose call → HasFailed asked call HasPart failure → failure ≡ OutOfMemory
good_fails asked call HasPart Usage good none failed = absurd (subst (λ a. IsToldGood a call.source.before) failed good)
good_fails asked call HasPart (Refused refusal) good none failed = absurd (not_refused asked call.source.before refusal good failed)
good_fails asked call HasPart ReadFault good none failed = absurd (none.0 failed.1)
good_fails asked call HasPart WriteFault good none failed = absurd (none.1 failed.1)
good_fails asked call HasPart OutOfMemory good none failed = refl

-- an input that is rejected is rejected for its fault
refused_so : PartsHaveOne → (asked : Asked) (reported : Option (List ℕ)) (first second : OneRefusal) → IsToldBad asked reported first → IsFaultOf asked reported second → first ≡ second
refused_so one Invalid reported first second bad refused = absurd bad
refused_so one Nothing reported first second bad refused = absurd bad
refused_so one (Reading input) None first second bad refused = absurd bad
refused_so one (Reading input) (Some bytes) first second bad refused = one_fault one input bytes first second bad refused.1

-- no invalid arguments request an input with a fault
not_invalid : (asked : Asked) (reported : Option (List ℕ)) (refusal : OneRefusal) → IsToldBad asked reported refusal → asked ≡ Invalid → ⊥
not_invalid asked reported refusal bad invalid = subst (λ a. IsToldBad a reported refusal) invalid bad

-- an input with a fault is rejected for it
pub bad_fails : (A : Type 0) → PartsHaveOne → (asked : Asked) (call : Seen) (HasPart : Type 0) (failure : Failure) (refusal : OneRefusal) → IsToldBad asked call.source.before refusal → NoneRose call → HasFailed asked call HasPart failure
    → IsThisOr {A = A} (Refused refusal) (Err failure)
bad_fails A one asked call HasPart Usage refusal bad none failed = absurd (not_invalid asked call.source.before refusal bad failed)
bad_fails A one asked call HasPart (Refused other) refusal bad none failed = inl (ap (λ r. Err (Refused r)) (sym (refused_so one asked call.source.before refusal other bad failed)))
bad_fails A one asked call HasPart ReadFault refusal bad none failed = absurd (none.0 failed.1)
bad_fails A one asked call HasPart WriteFault refusal bad none failed = absurd (none.1 failed.1)
bad_fails A one asked call HasPart OutOfMemory refusal bad none failed = inr refl

-- of reported bytes no two things hold that exclude each other
apart : (reported : Option (List ℕ)) (P Q : List ℕ → Type 0) → ((bytes : List ℕ) → P bytes → Q bytes → ⊥) → IfSome reported P → IsSomeAnd reported Q → ⊥
apart None P Q clash is other = other
apart (Some bytes) P Q clash is other = clash bytes is other

-- nothing holds of the bytes that a source gave that excludes the fault that they were reported to have
pub not_of_bad : (source : Side) (P : List ℕ → Type 0) (input : Input) (refusal : OneRefusal) → OfGiven source P → IsToldBad (Reading input) source.before refusal
    → ((bytes : List ℕ) → P bytes → HasInputFault input refusal bytes → ⊥) → ⊥
not_of_bad source P input refusal has bad clash =
    apart source.before P (λ bytes. HasInputFault input refusal bytes) clash (told_all source.before source.after has.0 P has.1.0 has.1.1 has.2) bad
