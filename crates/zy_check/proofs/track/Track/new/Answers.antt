use Rattle.zy_check.proofs.TrackLemmas.{at_start}
use Rattle.zy_check.proofs.track.Track.new.Goals as goal

pub returns : goal.returns
returns c = record { none = λ g conn. rw c.none.ensures.none (at_start g conn c.new.result c.new-2.result.items c.new.ensures.none c.new-2.ensures.items) }
