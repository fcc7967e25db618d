-- The numbers of a test run are those of all runs of its traffic.
use Rattle.std.proofs.Common.{◌≡◌, ℕ, List, sym, ◌∙◌, ap₂, subst}
use Rattle.mc_calls.specs.declared.entry.Entry.{Entry}
use Rattle.zy_capture.specs.declared.record.Record.{Record}
use Rattle.zy_capture.specs.Outputs.{AllOutputs}
use Rattle.zy_capture.specs.Verdict.{verdict}
use Rattle.zy_capture.specs.Verdict.Verdict.{Good}
use Rattle.zy_journal.specs.declared.journal.Journal.{Journal}
use Rattle.zy_run.specs.Commands.{streams_in, commands_in}
use Rattle.zy_run.specs.Run.{IsRun}
use Rattle.zy_run.specs.Spans.{Spans}
use Rattle.zy_run.specs.declared.summary.Summary.{Summary}
use Rattle.zy_run.specs.Summary.{summary, summary_of_run}
use Rattle.zy_gen.specs.Traffic.{traffic_records}
use Rattle.zy_command_line.specs.declared.request.Traffic.{Traffic}
use Rattle.zy_command_line.specs.declared.request.Run.{Run}
use Rattle.zy_serving.specs.Headline.{IsServed, outputs_of_records}
use Rattle.zy_self.specs.Tested.{IsTested, traffic_bytes}

good_count : {a b c d : ℕ} {r s : List Record} → Good a b r ≡ Good c d s → b ≡ d
good_count e = cc

good_records : {a b c d : ℕ} {r s : List Record} → Good a b r ≡ Good c d s → r ≡ s
good_records e = cc

pub tested_of : (traffic : Traffic) (run : Run) (records : List Record) (journal : Journal) (outputs : AllOutputs) (numbers : Summary)
    → records ≡ traffic_records traffic.number traffic.conns traffic.commands
    → verdict (traffic_bytes traffic) ≡ Good 1 traffic.conns records
    → ((es : List Entry) → IsRun run.shards es traffic.conns (commands_in records) → summary_of_run traffic.conns (streams_in records) es ≡ summary run.shards traffic.conns (streams_in records))
    → IsServed run (traffic_bytes traffic) journal outputs
    → ((count version : ℕ) (records : List Record) → Spans journal.holds count (commands_in records) → outputs ≡ outputs_of_records version count records journal.entries → numbers ≡ summary_of_run count (streams_in records) journal.entries)
    → IsTested traffic run journal numbers
tested_of traffic run records journal outputs numbers records_are good all served told =
    let same : Good served.version served.count served.records ≡ Good 1 traffic.conns records = sym served.capture ∙ good in
    let count_is : served.count ≡ traffic.conns = good_count same in
    let same_records : served.records ≡ records = good_records same in
    let legal : IsRun run.shards journal.entries traffic.conns (commands_in records) =
    subst (λ (n : ℕ). IsRun run.shards journal.entries n (commands_in records)) count_is
    (subst (λ (r : List Record). IsRun run.shards journal.entries served.count (commands_in r)) same_records served.run) in
    let sums : numbers ≡ summary run.shards traffic.conns (streams_in records) =
    told served.count served.version served.records served.holds served.replies
    ∙ ap₂ (λ (n : ℕ) (r : List Record). summary_of_run n (streams_in r) journal.entries) count_is same_records ∙ all journal.entries legal in
    record {
      outputs = outputs;
      served = served;
      numbers_are = rw records_are at sums;
    }
