-- The verdict on a served run is yes.
use Rattle.std.proofs.Common.{◌≡◌, ℕ, List, ap, subst}
use Rattle.zy_capture.specs.declared.record.Record.{Record}
use Rattle.zy_capture.specs.Outputs.{AllOutputs}
use Rattle.zy_capture.specs.Streams.{no_bytes, with_records}
use Rattle.zy_capture.specs.Verdict.{verdict}
use Rattle.zy_capture.specs.Verdict.Verdict.{Good}
use Rattle.zy_journal.specs.declared.journal.Journal.{Journal}
use Rattle.zy_check.specs.declared.verdict.Verdict.{Verdict}
use Rattle.zy_check.specs.declared.verdict.Verdict.TheVariants.{Yes}
use Rattle.zy_check.specs.Given.{all_given}
use Rattle.zy_check.specs.Cause.{HasVerdict}
use Rattle.zy_check.specs.OfRun.{AreOfRun, given_by_records}
use Rattle.zy_command_line.specs.declared.request.Run.{Run}
use Rattle.zy_serving.specs.Headline.{IsServed}

pub only_yes : (run : Run) (bytes : List ℕ) (streams : List (List (List ℕ))) (journal : Journal) (outputs : AllOutputs) (v : Verdict)
    → ((shards count : ℕ) (records : List Record) (journal : Journal) (outputs : AllOutputs) (v : Verdict) → AreOfRun shards count records journal outputs → HasVerdict (given_by_records shards count records journal outputs) v → v ≡ Yes)
    → ((version count : ℕ) (records : List Record) → verdict bytes ≡ Good version count records → streams ≡ with_records (no_bytes count) records)
    → IsServed run bytes journal outputs → HasVerdict (all_given run.shards streams journal outputs) v → v ≡ Yes
only_yes run bytes streams journal outputs v only of served is =
    only run.shards served.count served.records journal outputs v
    (record { run = served.run; replies = ap (λ (o : AllOutputs). o.sessions) served.replies; holds = served.holds })
    (subst (λ (s : List (List (List ℕ))). HasVerdict (all_given run.shards s journal outputs) v) (of served.version served.count served.records served.capture) is)
