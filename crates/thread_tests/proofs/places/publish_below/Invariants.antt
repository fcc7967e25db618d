use Rattle.std.proofs.Common.{◌≡◌, ℕ, ◌+◌, ◌<◌, true}
use Rattle.zy_table.specs.Member.{is_in}
use Rattle.thread_tests.proofs.places.publish_below.Given as goal

abbrev pub invariant-loop-k : goal.invariant-loop-k
invariant-loop-k l = record {
  table : l.home.table ≡ l.fn.home.table;
  label : l.home.label ≡ l.fn.home.label;
  out : l.home.out ≡ l.fn.home.out;
  count : l.home.count ≡ l.fn.home.count + l.k;
  hand : (place : ℕ) → place + l.k < l.fn.places → is_in place l.home.hand ≡ true;
}
