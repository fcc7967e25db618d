use Rattle.std.proofs.Common.{sym, ◌∙◌}
use Rattle.core_laws.proofs.ownership.the_first_run_is_empty.Goals as goal

pub returns : goal.returns
returns g c = record { value = λ s none. let l = s.1.follows.known.last in sym l.3 ∙ none l.0 l.1 l.2 }
