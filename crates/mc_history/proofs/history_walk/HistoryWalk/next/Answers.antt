use Rattle.std.proofs.Common.{sym, ◌∙◌}
use Rattle.mc_history.proofs.WalkLemmas.{next_is}
use Rattle.mc_history.proofs.history_walk.HistoryWalk.next.Goals as goal

pub returns-clause-some : goal.returns-clause-some
returns-clause-some c = sym c.self.view_is ∙ next_is c.self.inside.ledger.now.entries c.self.inside.at c.entry-entry.result c.entry-entry.ensures.value
