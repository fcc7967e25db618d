use Rattle.core_laws.proofs.HomeLemmas.{cuts}
use Rattle.core_laws.proofs.homes.texts_are_cut_at_the_ends_of_sessions.Goals as goal

pub returns : goal.returns
returns c = record { value = λ s entries. cuts 0 s.closed s.current entries }
