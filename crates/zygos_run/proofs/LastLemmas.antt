-- A last text whose writing failed and was not finished.
use Rattle.std.proofs.Common.{ℕ, List}
use Rattle.std.specs.Prelude.{Bool, Option, ⊤, Result, Ok, Err, IsErr}
use Rattle.zy_base.specs.Outside.{Writes, WritesLast}
use Rattle.zy_base.proofs.WritingLemmas.{writes_last_failed}

-- with whatever error it is answered
pub last_failed : {K E : Type 0} {holds : K → Option (List ℕ)} {faults finishes : K → ℕ} {is_finished : K → Bool} {old new : K} {result : Result ⊤ E} {e : E} {x : List ℕ} → IsErr result → Writes holds faults finishes old new (Err e) x → WritesLast holds faults finishes is_finished old new result x
last_failed {result = Ok u} refused failed = absurd (cc)
last_failed {result = Err other} refused failed =
    writes_last_failed (record { whole = tt; part = failed.part; count = failed.count; cause = failed.cause; unfinished = failed.unfinished })
