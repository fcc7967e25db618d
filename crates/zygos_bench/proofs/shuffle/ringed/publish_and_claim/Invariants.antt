use Rattle.std.proofs.Common.{◌≡◌, true}
use Rattle.zy_table.specs.Member.{is_in}
use Rattle.zy_table.specs.Name.{no_name}
use Rattle.zygos_bench.proofs.shuffle.ringed.publish_and_claim.Given as goal

abbrev pub invariant-loop : goal.invariant-loop
invariant-loop l = record {
  table : l.home.table ≡ l.fn.ring.id;
  label : l.home.label ≡ no_name;
  count : l.home.count ≡ l.counter;
  hand : is_in l.place l.home.hand ≡ true;
}
