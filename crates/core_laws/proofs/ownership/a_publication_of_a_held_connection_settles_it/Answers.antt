use Rattle.core_laws.proofs.OwnerArrivalLemmas.{publication_settles, publication_readies}
use Rattle.core_laws.proofs.ownership.a_publication_of_a_held_connection_settles_it.Goals as goal

pub returns-clause-run : goal.returns-clause-run
returns-clause-run g c = λ s t place some h. publication_settles g.T.Marked.mark g.T.Marked.label s t place some h

pub returns-clause-state : goal.returns-clause-state
returns-clause-state g c = λ s t place near some h. publication_readies g.T.Marked.mark g.T.Marked.label s t place near some h
