use Rattle.std.proofs.Common.{◌≤◌, ℕ, List, length, Option, subst}
use Rattle.zy_home.specs.Own.{own_conns}
use Rattle.zy_home.proofs.TableLemmas.{past_table}
use Rattle.zy_home.proofs.places.Places.place_of.Goals as goal

pub returns-in-None-clause-none : goal.returns-in-None-clause-none
returns-in-None-clause-none c =
    rw (← c.self.view_is) (past_table (own_conns c.self.inside.core c.self.inside.cores c.self.inside.count) c.self.inside.table.items c.self.invariant c.args.conn
    (subst (λ (l : List (Option ℕ)). length l ≤ c.args.conn) c.deref.ensures.value c.in-None.ensures.lookup.3))
