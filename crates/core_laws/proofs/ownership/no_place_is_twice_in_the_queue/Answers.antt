use Rattle.std.proofs.Common.{sym, ◌∙◌}
use Rattle.core_laws.proofs.OwnerRuleLemmas.{once_queued}
use Rattle.core_laws.proofs.ownership.no_place_is_twice_in_the_queue.Goals as goal

pub returns : goal.returns
returns g c = record { value = λ s r i j place a b. once_queued g.T.Marked.mark g.T.Marked.label s r i j a.0 a.1 b.0 b.1 (a.2 ∙ sym b.2) }
