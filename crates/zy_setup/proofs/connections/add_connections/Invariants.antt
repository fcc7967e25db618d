use Rattle.std.proofs.Common.{◌≡◌, ◌<◌, ℕ, true}
use Rattle.std.specs.Prelude.{◌↔◌}
use Rattle.zy_table.specs.Member.{is_in}
use Rattle.zy_setup.specs.Make.{AreOwns}
use Rattle.zy_setup.proofs.connections.add_connections.Given as goal

-- the connections below this one are made
abbrev pub invariant-loop-conn : goal.invariant-loop-conn
invariant-loop-conn l = record {
  owns : AreOwns l.store.id l.cores l.conn l.owns.items;
  table : l.root.table ≡ l.fn.root.table;
  joined : l.root.joined ≡ l.fn.root.joined;
  given : (c : ℕ) → (is_in c l.root.given ≡ true) ↔ (c < l.conn);
}
