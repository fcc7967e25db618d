-- Two expected calls are equal or not.
use Rattle.std.proofs.Common.{ℕ, refl}
use mathlib.Core.HLevel.{×_discrete}
use native.Mathlib.Decide.{ℕ_discrete}
use Rattle.mc_calls.specs.declared.call.Call.{Call}
use Rattle.mc_calls.proofs.SameLemmas.{told_by, call_told}
use Rattle.mc_parse.specs.Calls.{Due}

abbrev DueCode : Type 0
DueCode = ℕ × (ℕ × (ℕ × (ℕ × Call)))

abbrev due_code : Due → DueCode
due_code due = (due.tag.conn, (due.tag.index, (due.tag.part, (due.call.shard, due.call.call))))

abbrev due_by : DueCode → Due
due_by (conn, (index, (part, (shard, call)))) =
    record { tag = record { conn = conn; index = index; part = part }; call = record { shard = shard; call = call } }

pub due_told : Discrete Due
due_told = told_by due_code due_by (λ due. refl) (×_discrete ℕ_discrete (×_discrete ℕ_discrete (×_discrete ℕ_discrete (×_discrete ℕ_discrete call_told))))
