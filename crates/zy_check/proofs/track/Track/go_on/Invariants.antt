use Rattle.std.proofs.Common.{List}
use Rattle.mc_parse.specs.Calls.{Due}
use Rattle.zy_check.specs.Track.{HasMadeCalls}
use Rattle.zy_check.proofs.track.Track.go_on.Given as goal

abbrev pub invariant-loop : goal.invariant-loop
invariant-loop l = (made : List Due) → HasMadeCalls l.files l.conn l.fn.self made → HasMadeCalls l.files l.conn l.self made
