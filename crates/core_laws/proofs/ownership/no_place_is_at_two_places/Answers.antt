use Rattle.std.proofs.Common.{length, ap, sym, ◌∙◌}
use Rattle.zy_shuffle.specs.Word.{bell_at}
use Rattle.core_laws.proofs.OwnerRuleLemmas.{hand_apart, queue_apart}
use Rattle.core_laws.proofs.ownership.no_place_is_at_two_places.Goals as goal

pub returns-clause-hand : goal.returns-clause-hand
returns-clause-hand g c = λ s r j place a. let h = hand_apart g.T.Marked.mark g.T.Marked.label s r j place a.0 a.1 a.2 in (h.0, λ k q. h.1 k q.0 q.1 q.2)

pub returns-clause-queue : goal.returns-clause-queue
returns-clause-queue g c = λ s r k place q. ap (bell_at s.words (length s.homes)) (sym q.2) ∙ queue_apart g.T.Marked.mark g.T.Marked.label s r k q.0 q.1
