use Rattle.std.proofs.Common.{◌≡◌, ℕ, ◌<◌, ◌≤◌, true}
use Rattle.zy_table.specs.Member.{is_in}
use Rattle.zygos_bench.proofs.shuffle.ringed.publish_all.Given as goal

abbrev pub invariant-loop-number : goal.invariant-loop-number
invariant-loop-number l = record {
  table : l.home.table ≡ l.fn.home.table;
  label : l.home.label ≡ l.fn.home.label;
  count : l.home.count ≡ l.number;
  hand : (place : ℕ) → l.number ≤ place → place < 64 → is_in place l.home.hand ≡ true;
}
