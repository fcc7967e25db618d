use Rattle.std.proofs.Common.{◌≡◌, ◌≤◌, ◌++◌, length, take}
use Rattle.mc_parse.specs.Words.{words}
use Rattle.mc_parse.specs.Line.{texts}
use Rattle.mc_parse.proofs.args.Args.of.Given as goal

-- the text that is left gets shorter
abbrev pub decreases-loop-split : goal.decreases-loop-split
decreases-loop-split l = length l.rest

-- the words so far, three at most, and those that are left, are all words
abbrev pub invariant-loop-split : goal.invariant-loop-split
invariant-loop-split l = (length l.words ≡ 3) × (l.count ≤ 3) × (texts (take l.count l.words) ++ words l.rest ≡ words l.text)
