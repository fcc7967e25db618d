use Rattle.std.proofs.Common.{◌≡◌, take}
use Rattle.zy_report.specs.Report.{sums}
use Rattle.zy_report.proofs.table.sums.Given as goal

-- the sums over those before this one
abbrev pub invariant-loop-one : goal.invariant-loop-one
invariant-loop-one l = l.all ≡ sums (take l.one-index l.counts)
