-- An input has one finding.
use Rattle.std.proofs.Common.{◌≡◌, ℕ, List, ◌++◌, ap, sym, ◌∙◌, subst}
use Rattle.zy_capture.specs.declared.record.Record.{Record}
use Rattle.zy_capture.specs.Outputs.{AllOutputs, AreOutputs}
use Rattle.zy_journal.specs.declared.journal.Journal.{Journal}
use Rattle.zy_capture.specs.Verdict as Captures
use Rattle.zy_input.specs.Parts.{HasStreams, IsMadeOfParts}
use Rattle.zy_input.proofs.FormatLemmas.{one_first as first_is}
use Rattle.zy_input.proofs.CaptureLemmas as OfCapture
use Rattle.zy_input.proofs.WholeLemmas.{is_capture}
use Rattle.format_laws.proofs.InputDivisionLemmas.{one_streams, one_journal, one_outputs}
use Rattle.zy_check.specs.declared.verdict.Cause.{Cause}
use Rattle.zy_check.specs.declared.verdict.Verdict.{Verdict}
use Rattle.zy_check.specs.declared.verdict.Verdict.TheVariants.{Yes, No}
use Rattle.zy_check.specs.Given.{Given, all_given}
use Rattle.zy_check.specs.Cause.{HasVerdict}
use Rattle.zy_check.proofs.OneVerdictLemmas.{one_verdict}
use Rattle.zy_times.specs.Recording.{Recording}
use Rattle.zy_times.specs.InTime.{HasTiming}
use Rattle.zy_times.specs.declared.timing.Timing.{Timing}
use Rattle.zy_times.specs.declared.timing.Timing.TheVariants.{InTime, EarlyEnd, OutOfTime}
use Rattle.zygos_linear.specs.declared.finding.Finding.{Finding}
use Rattle.zygos_linear.specs.declared.finding.Finding.TheVariants.{NoRun, Run}
use Rattle.zygos_linear.specs.Finding.{HasFinding, OfRecording, recording_of}
use Rattle.judge_laws.proofs.TimingLemmas.{one_timing}

-- ---- a finding

-- the parts of a finding on a run
run_of : (g : Given) (r : Recording) (count : ℕ) (timing : Timing) → HasFinding g r count (Run timing) → HasVerdict g Yes × HasTiming r count timing
run_of g r count (InTime commands ended) has = (has.run, (has.marks, has.in_time, has.commands_are, has.ended_are))
run_of g r count (EarlyEnd at) has = (has.0, has.1)
run_of g r count (OutOfTime last first) has = (has.0, (has.1, has.2))

no_run_and_run : (g : Given) (cause : Cause) → HasVerdict g (No cause) → HasVerdict g Yes → ⊥
no_run_and_run g cause refuted accepted = let same : No cause ≡ Yes = one_verdict g (No cause) Yes refuted accepted in cc

pub one_finding : (g : Given) (r : Recording) (count : ℕ) (one other : Finding) → HasFinding g r count one → HasFinding g r count other → one ≡ other
one_finding g r count (NoRun cause) (NoRun reason) first second =
    let same : No cause ≡ No reason = one_verdict g (No cause) (No reason) first second in
    let own : cause ≡ reason = cc in
    ap (λ (c : Cause). NoRun c) own
one_finding g r count (NoRun cause) (Run timing) first second = absurd (no_run_and_run g cause first (run_of g r count timing second).0)
one_finding g r count (Run timing) (NoRun cause) first second = absurd (no_run_and_run g cause second (run_of g r count timing first).0)
one_finding g r count (Run timing) (Run later) first second =
    ap (λ (t : Timing). Run t) (one_timing r count timing later (run_of g r count timing first).1 (run_of g r count later second).1)

-- ---- an input

-- two divisions of an input have one capture
record AreOneCapture (count other : ℕ) (records others : List Record) : Type 0 where
  counts : count ≡ other
  records_are : records ≡ others

good_captures : (version version' count other : ℕ) (records others : List Record) → Captures.Verdict.Good version count records ≡ Captures.Verdict.Good version' other others → AreOneCapture count other records others
good_captures version version' count other records others is = record { counts = cc; records_are = cc }

one_capture : (text : List ℕ) (s t : List (List (List ℕ))) (j k : Journal) (o p : AllOutputs) (one : IsMadeOfParts text s j o) (two : IsMadeOfParts text t k p)
    → AreOneCapture one.of_capture.count two.of_capture.count one.of_capture.records two.of_capture.records
one_capture text s t j k o p one two =
    let good = is_capture one.capture_text s one.of_capture in
    let good' = is_capture two.capture_text t two.of_capture in
    let texts : one.capture_text ≡ two.capture_text =
    first_is Captures.captures Captures.is_good OfCapture.once one.capture_text (one.journal_text ++ one.replies_text) two.capture_text (two.journal_text ++ two.replies_text) (sym one.whole ∙ two.whole) good good' in
    good_captures one.of_capture.version two.of_capture.version one.of_capture.count two.of_capture.count one.of_capture.records two.of_capture.records
    (sym one.of_capture.good ∙ ap (λ (l : List ℕ). Captures.verdict l) texts ∙ two.of_capture.good)

-- what is found of an input is one finding
pub input_finding : (shards : ℕ) (bytes : List ℕ) (a b : Finding) → OfRecording shards bytes (λ g r count. HasFinding g r count a) → OfRecording shards bytes (λ g r count. HasFinding g r count b) → a ≡ b
input_finding shards bytes a b x y =
    let streams = one_streams bytes y.streams x.streams y.journal x.journal y.outputs x.outputs y.parts x.parts in
    let journal = one_journal bytes y.streams x.streams y.journal x.journal y.outputs x.outputs y.parts x.parts in
    let outputs = one_outputs bytes y.streams x.streams y.journal x.journal y.outputs x.outputs y.lawful x.lawful y.parts x.parts in
    let capture = one_capture bytes y.streams x.streams y.journal x.journal y.outputs x.outputs y.parts x.parts in
    one_finding (all_given shards x.streams x.journal x.outputs) (recording_of x.parts.of_capture.records x.journal.entries) x.parts.of_capture.count a b x.holds
    (subst (λ (n : ℕ). HasFinding (all_given shards x.streams x.journal x.outputs) (recording_of x.parts.of_capture.records x.journal.entries) n b) capture.counts
    (subst (λ (rs : List Record). HasFinding (all_given shards x.streams x.journal x.outputs) (recording_of rs x.journal.entries) y.parts.of_capture.count b) capture.records_are
    (subst (λ (o : AllOutputs). HasFinding (all_given shards x.streams x.journal o) (recording_of y.parts.of_capture.records x.journal.entries) y.parts.of_capture.count b) outputs
    (subst (λ (j : Journal). HasFinding (all_given shards x.streams j y.outputs) (recording_of y.parts.of_capture.records j.entries) y.parts.of_capture.count b) journal
    (subst (λ (s : List (List (List ℕ))). HasFinding (all_given shards s y.journal y.outputs) (recording_of y.parts.of_capture.records y.journal.entries) y.parts.of_capture.count b) streams y.holds)))))
