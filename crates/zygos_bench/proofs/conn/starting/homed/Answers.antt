use Rattle.std.proofs.Common.{◌∙◌}
use Rattle.zy_core.proofs.RunningLemmas.{core_count}
use Rattle.zygos_bench.proofs.conn.starting.homed.Goals as goal

pub serve_run-requires-clause-cores : goal.serve_run-requires-clause-cores
serve_run-requires-clause-cores g c =
    core_count c.in_ok-running.running.shared c.in_ok-running.running.cores c.in_ok-running.ensures.run.cores ∙ c.in_ok-running.ensures.count
