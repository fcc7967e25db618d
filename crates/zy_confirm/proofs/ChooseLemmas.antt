-- What holds at every key holds at one.
use Rattle.std.proofs.Common.{ℕ, List, Option, None, Some, Result, Ok, Err, IfOk, IfSome}
use Rattle.zy_base.specs.declared.outside.NoMemory.{NoMemory}
use Rattle.zy_confirm.specs.declared.outcome.Outcome.{Outcome}

-- what holds at each key of an outcome, if there is one
pub at_one : (P : List ℕ → Outcome → Type 0) (key : List ℕ) (found : Result (Option Outcome) NoMemory)
    → IfOk found (λ o. IfSome o (λ x. (k : List ℕ) → P k x)) → IfOk found (λ o. IfSome o (P key))
at_one P key (Ok None) each = tt
at_one P key (Ok (Some o)) each = each key
at_one P key (Err refused) each = tt
