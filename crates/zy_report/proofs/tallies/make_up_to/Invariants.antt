use Rattle.std.proofs.Common.{◌≡◌, ℕ, ◌+◌, ◌-◌, length}
use Rattle.std.specs.Prelude.{max}
use Rattle.zy_report.specs.Tally.{kept_at}
use Rattle.zy_report.proofs.tallies.make_up_to.Given as goal

-- further tallies, of no entry, were made
abbrev pub invariant-loop-alloc : goal.invariant-loop-alloc
invariant-loop-alloc l = record {
  size : max (length l.tallies.items) (l.shard + 1) ≡ max (length l.initial.tallies.items) (l.shard + 1);
  kept : (at : ℕ) → kept_at l.tallies.items at ≡ kept_at l.initial.tallies.items at;
}

abbrev pub decreases-loop-alloc : goal.decreases-loop-alloc
decreases-loop-alloc l = l.shard + 1 - length l.tallies.items
