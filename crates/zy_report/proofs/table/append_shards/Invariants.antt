use Rattle.std.proofs.Common.{◌≡◌, ◌++◌, take}
use Rattle.zy_report.specs.Report.{shards_text}
use Rattle.zy_report.proofs.table.append_shards.Given as goal

-- the lines of the shards before this one
abbrev pub invariant-loop-shard : goal.invariant-loop-shard
invariant-loop-shard l = l.text ≡ l.initial.text ++ shards_text 0 (take l.shard l.counts)
