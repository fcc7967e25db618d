use Rattle.zy_explain.specs.Following.{Settles}
use Rattle.zy_explain.proofs.track.Track.settle.Given as goal

abbrev pub invariant-loop : goal.invariant-loop
invariant-loop l = Settles l.rules.shards l.rules.forget l.session l.output l.fn.self l.self
