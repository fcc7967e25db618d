use Rattle.std.proofs.Common.{refl}
use Rattle.zy_frame.specs.Cut.{frames_of, cut_of}
use Rattle.zy_frame.specs.Progress.{StandsFor, goes_on}
use Rattle.zy_frame.proofs.framer.Framer.new.Goals as goal

pub returns-clause-empty : goal.returns-clause-empty
unfolding StandsFor goes_on frames_of cut_of
returns-clause-empty c = λ more. rw c.new.ensures.value refl
