use Rattle.std.proofs.Common.{◌≡◌, drop}
use Rattle.zygos_judge.specs.Words.{IsToldWithin, nothing_told, told_after}
use Rattle.zygos_judge.proofs.words.task_asked.Given as goal

-- the words that are left lead from what was read so far to what all request
abbrev pub invariant-loop-word : goal.invariant-loop-word
invariant-loop-word l = record {
  within : IsToldWithin l.told;
  value : told_after l.told (drop l.word-index l.words) ≡ told_after nothing_told l.words;
}
