-- What a test run is: generated traffic that was served, and the numbers of its runs.
use Rattle.std.specs.Prelude.{◌≡◌, ℕ, List}
use Rattle.zy_capture.specs.Outputs.{AllOutputs}
use Rattle.zy_journal.specs.declared.journal.Journal.{Journal}
use Rattle.zy_run.specs.Commands.{streams_in}
use Rattle.zy_run.specs.declared.summary.Summary.{Summary}
use Rattle.zy_run.specs.Summary.{summary}
use Rattle.zy_gen.specs.Traffic.{gen_bytes, traffic_records}
use Rattle.zy_command_line.specs.declared.request.Run.{Run}
use Rattle.zy_command_line.specs.declared.request.Traffic.{Traffic}
use Rattle.zy_serving.specs.Headline.{IsServed}

-- the capture of some traffic
abbrev pub traffic_bytes : Traffic → List ℕ
traffic_bytes traffic = gen_bytes traffic.number traffic.conns traffic.commands

-- the numbers that all runs of some traffic have in common: those of the run that makes all calls of connection 0,
-- then all of connection 1, and so on
abbrev pub traffic_summary : ℕ → Traffic → Summary
traffic_summary shards traffic =
    summary shards traffic.conns (streams_in (traffic_records traffic.number traffic.conns traffic.commands))

-- the journal is that of a served run of generated traffic, and the numbers are those of all its runs
pub record IsTested (traffic : Traffic) (run : Run) (journal : Journal) (numbers : Summary) : Type 0 where
  pub outputs : AllOutputs
  pub served : IsServed run (traffic_bytes traffic) journal outputs
  pub numbers_are : numbers ≡ traffic_summary run.shards traffic
