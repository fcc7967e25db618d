use Rattle.std.proofs.Common.{◌≡◌, ℕ, ◌<◌, ◌≤◌, length, vec_len}
use Rattle.std.specs.Prelude.{vec_capacity}
use Rattle.zy_park.specs.Pass.{IsFree}
use Rattle.zy_drive.specs.Resters.{AllAt}
use Rattle.zy_drive.proofs.resters.seat_all.Given as goal

abbrev pub invariant-loop-core : goal.invariant-loop-core
invariant-loop-core l =
    (vec_len l.passes ≡ l.core) × (length l.bells ≤ vec_capacity l.passes)
    × (l.root.bells ≡ l.bells)
    × ((other : ℕ) → l.core ≤ other → other < length l.bells → IsFree l.root other)
    × AllAt l.bells l.passes.items
