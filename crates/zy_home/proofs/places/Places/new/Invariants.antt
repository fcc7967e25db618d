use Rattle.std.proofs.Common.{◌≡◌, ◌≤◌, length}
use Rattle.std.specs.Prelude.{vec_capacity}
use Rattle.zy_home.specs.Own.{IsTable, own_conns}
use Rattle.zy_home.proofs.places.Places.new.Given as goal

-- the connections below this one have their places
abbrev pub invariant-loop-conn : goal.invariant-loop-conn
invariant-loop-conn l = record {
  size : length l.table.items ≡ l.conn;
  next : l.next ≡ length (own_conns l.core l.cores l.conn);
  few : l.next ≤ l.conn;
  table : IsTable (own_conns l.core l.cores l.conn) l.table.items;
  room : vec_capacity l.table ≡ l.count;
}
