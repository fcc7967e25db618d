use Rattle.std.proofs.Common.{◌≡◌, take, length}
use Rattle.std.specs.List.{sum_by}
use Rattle.zy_journal.proofs.journal.count_of.Given as goal

-- the entries of the histories before this one
abbrev pub invariant-loop-history : goal.invariant-loop-history
invariant-loop-history l = l.count ≡ sum_by length (take l.history-index l.histories)
