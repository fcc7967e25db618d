use Rattle.std.proofs.Common.{◌≡◌, ◌≤◌, List, map, length}
use Rattle.std.specs.List.{range_with_len}
use Rattle.std.specs.Vec.{vec_capacity}
use Rattle.mc_calls.specs.declared.entry.Entry.{Entry}
use Rattle.mc_calls.specs.Counted.{counted}
use Rattle.mc_calls.specs.Order.{at_shard}
use Rattle.zy_report.specs.Tally.{CountsAll}
use Rattle.zy_report.proofs.tallies.counts_of.Given as goal

-- the counts of the shards before this one
abbrev pub invariant-loop-tally : goal.invariant-loop-tally
invariant-loop-tally l = record {
  value : (es : List Entry) → CountsAll l.tallies es → l.counts.items ≡ map (λ shard. counted (at_shard shard es)) (range_with_len 0 l.tally-index);
  size : length l.counts.items ≡ l.tally-index;
  room : length l.tallies ≤ vec_capacity l.counts;
}
