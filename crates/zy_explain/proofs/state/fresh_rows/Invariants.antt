use Rattle.std.proofs.Common.{◌≤◌, vec_capacity}
use Rattle.zy_explain.specs.Following.{AreFreshRows}
use Rattle.zy_explain.proofs.state.fresh_rows.Given as goal

abbrev pub invariant-loop-conn : goal.invariant-loop-conn
invariant-loop-conn l = record {
  room : l.count ≤ vec_capacity l.rows;
  fresh : AreFreshRows l.sessions l.conn l.rows.items;
}
