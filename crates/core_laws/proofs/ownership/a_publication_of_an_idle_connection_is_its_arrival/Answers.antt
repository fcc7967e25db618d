use Rattle.core_laws.proofs.OwnerArrivalLemmas.{publication_grows, publication_arrives}
use Rattle.core_laws.proofs.ownership.a_publication_of_an_idle_connection_is_its_arrival.Goals as goal

pub returns-clause-run : goal.returns-clause-run
returns-clause-run g c = λ s t place h. publication_grows g.T.Marked.mark g.T.Marked.label s t place h

pub returns-clause-state : goal.returns-clause-state
returns-clause-state g c = λ s t place near h. publication_arrives g.T.Marked.mark g.T.Marked.label s t place near h
