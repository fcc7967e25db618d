use Rattle.zy_shuffle.proofs.OwnerLemmas.{runs_sound}
use Rattle.core_laws.proofs.ownership.the_table_shows_a_sound_state.Goals as goal

pub returns : goal.returns
returns g c = record { value = λ s r. runs_sound 0 r.follows.owners r.follows.events r.follows.run }
