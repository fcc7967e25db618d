use Rattle.std.specs.Prelude.{option_map}
use Rattle.zy_park.proofs.bells.Bells.rest.Given as goal

abbrev pub ghosts-rest_as : goal.ghosts-rest_as
ghosts-rest_as g a = record { lent = option_map (λ p. p.now) a._control }
