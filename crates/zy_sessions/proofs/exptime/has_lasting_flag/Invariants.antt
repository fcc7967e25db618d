use Rattle.std.proofs.Common.{◌≡◌, length}
use Rattle.std.specs.List.{list_any}
use Rattle.mc_parse.specs.Words.{words}
use Rattle.zy_verdict.specs.Losses.{is_lasting_flag}
use Rattle.zy_sessions.proofs.exptime.has_lasting_flag.Given as goal

-- the text that is left gets shorter
abbrev pub decreases-loop-split : goal.decreases-loop-split
decreases-loop-split l = length l.rest

-- some word of the text that is left is such a flag if and only if some word of all of it is
abbrev pub invariant-loop-split : goal.invariant-loop-split
invariant-loop-split l = list_any is_lasting_flag (words l.rest) ≡ list_any is_lasting_flag (words l.text)
