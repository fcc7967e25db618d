-- What was served checks, and what checks is of a run.
use Rattle.std.specs.Prelude.{Option, None, Some}
use Rattle.std.proofs.Common.{◌≡◌, ℕ, ◌<◌, ◌≤◌, List, ◌++◌, length, refl, sym, ap, subst, arith}
use Rattle.zy_read.specs.Bytes.{AreBytes}
use Rattle.zy_read.proofs.ByteLemmas.{bytes_front, bytes_back}
use Rattle.zy_capture.specs.Outputs.{AllOutputs, AreOutputs}
use Rattle.zy_capture.specs.Replies.{replies_bytes, replies_limit, items_of}
use Rattle.zy_capture.specs.Streams.{no_bytes, with_records}
use Rattle.zy_capture.proofs.WholeLemmas.{good_spells as capture_spells}
use Rattle.zy_capture.proofs.RepliesWholeLemmas.{good_spells as replies_spell}
use Rattle.format_laws.proofs.RepliesSpelledLemmas.{spells_good as replies_good}
use Rattle.format_laws.proofs.RepliesAgainLemmas.{written_spells}
use Rattle.zy_journal.specs.declared.journal.Journal.{Journal}
use Rattle.zy_journal.specs.Journal.{journal_bytes}
use Rattle.zy_journal_reader.specs.Steps.{journal_limit}
use Rattle.zy_journal_reader.proofs.WholeLemmas.{good_spells as journal_spells}
use Rattle.zy_journal_reader.proofs.SpelledLemmas.{spells_good as journal_good}
use Rattle.zy_input.specs.Parts.{IsMadeOfParts}
use Rattle.format_laws.proofs.InputDivisionLemmas.{one_streams, one_journal, one_outputs}
use Rattle.zy_check.specs.declared.verdict.Verdict.{Verdict}
use Rattle.zy_check.specs.declared.verdict.Verdict.TheVariants.{Yes}
use Rattle.zy_check.specs.Given.{all_given}
use Rattle.zy_check.specs.Cause.{HasVerdict}
use Rattle.zy_check.specs.OfRun.{AreOfRun, given_by_records}
use Rattle.zy_check.proofs.FileVerdictLemmas.{of_records}
use Rattle.run_laws.proofs.FileVerdictLemmas.{of_streams}
use Rattle.zy_check.proofs.OneVerdictLemmas.{one_verdict}
use Rattle.zy_check.proofs.RunVerdictLemmas.{run_is_right}
use Rattle.run_laws.proofs.SizeLemmas.{journal_short, replies_short}
use Rattle.run_laws.proofs.SomeVerdictLemmas.{some_verdict}
use Rattle.zy_command_line.specs.Range.{AreShards, IsRunnable}
use Rattle.zy_command_line.specs.declared.request.Run.{Run}
use Rattle.zy_command_line.specs.declared.request.Out.{Out}
use Rattle.zy_command_line.specs.declared.request.Out.TheVariants.{Both}
use Rattle.zy_command_line.specs.declared.request.Request.{Request}
use Rattle.zy_command_line.specs.declared.request.Request.TheVariants as Requests
use Rattle.zy_read.specs.Seen.{Seen, WasWritten, OfReported, OfTold}
use Rattle.zy_serving.specs.Headline.{IsServed, IsWritten, written}
use Rattle.zygos_run.specs.Checked.{IsChecked}
use Rattle.zygos_run.specs.declared.answer.Answer.TheVariants.{Served}
use Rattle.zygos_run.specs.Served.{HeadlineHolds}
use Rattle.zygos_laws.specs.Certified.{IsInputOfRun, IsCertified}

-- ---- served runs

module _ (asked : Run) (bytes : List ℕ) (journal : Journal) (outputs : AllOutputs) (lawful : AreShards asked.shards) (is : IsServed asked bytes journal outputs) where
  of_run : AreOfRun asked.shards is.count is.records journal outputs
  of_run = record { run = is.run; replies = ap (λ (o : AllOutputs). o.sessions) is.replies; holds = is.holds }

  pub short_journal : length (journal_bytes journal) < journal_limit
  short_journal = journal_short asked.shards is.version is.count bytes is.records journal outputs lawful.1 is.spelled of_run is.readable.valid

  pub short_replies : length (replies_bytes outputs) < replies_limit
  short_replies = replies_short asked.shards is.version is.count bytes is.records journal outputs lawful.1 is.spelled of_run is.readable.valid is.readable.fits

  served_parts : IsMadeOfParts (bytes ++ written Both journal outputs) (with_records (no_bytes is.count) is.records) journal outputs
  served_parts = record {
    capture_text = bytes;
    journal_text = journal_bytes journal;
    replies_text = replies_bytes outputs;
    whole = refl;
    of_capture = record { version = is.version; count = is.count; records = is.records; good = is.capture; joined = refl };
    of_journal = journal_good (journal_bytes journal) journal (record { readable = is.readable; spelled = refl; short = omega (arith, short_journal) });
    of_replies = replies_good (replies_bytes outputs) outputs.version (items_of outputs) (written_spells outputs is.lawful (omega (arith, short_replies)));
  }

  -- they check
  pub served_checks : IsChecked asked.shards (bytes ++ written Both journal outputs) Yes
  served_checks = record {
    streams = with_records (no_bytes is.count) is.records;
    journal = journal;
    outputs = outputs;
    parts = served_parts;
    lawful = is.lawful;
    verdict_is = run_is_right (given_by_records asked.shards is.count is.records journal outputs) (of_records asked.shards is.count is.records journal outputs of_run);
  }

-- the headline is of a run
pub headline_run : (request : Option Request) (call : Seen) (journal : Journal) → HeadlineHolds request call (Served journal)
    → (asked : Run) × (out : Out) × (request ≡ Some (Requests.Run asked out)) × OfTold call.source (λ bytes. IsWritten asked out bytes journal (WasWritten call.sink))
headline_run None call journal holds = absurd holds
headline_run (Some (Requests.Run asked out)) call journal holds = (asked, out, refl, holds)
headline_run (Some request) call journal holds = absurd holds

pub run_headline : (request : Option Request) (call : Seen) (journal : Journal)
    → ((asked : Run) × (out : Out) × (request ≡ Some (Requests.Run asked out)) × OfTold call.source (λ bytes. IsWritten asked out bytes journal (WasWritten call.sink)))
    → HeadlineHolds request call (Served journal)
run_headline request call journal run = subst (λ r. HeadlineHolds r call (Served journal)) (sym run.2) run.3

-- what the headline says of bytes that are reported
written_of : (asked : Run) (out : Out) (call : Seen) (bytes : List ℕ) (journal : Journal) (request : Option Request) → request ≡ Some (Requests.Run asked out) → call.source.before ≡ Some bytes
    → HeadlineHolds request call (Served journal) → IsWritten asked out bytes journal (WasWritten call.sink)
written_of asked out call bytes journal request is told holds =
    let run : HeadlineHolds (Some (Requests.Run asked out)) call (Served journal) = subst (λ r. HeadlineHolds r call (Served journal)) is holds in
    (subst (λ (before : Option (List ℕ)). OfReported before call.source.after (λ b. IsWritten asked out b journal (WasWritten call.sink))) told run).1

pub certified_of : (asked : Run) (out : Out) (call : Seen) (bytes : List ℕ) (journal : Journal) (request : Option Request) → (request ≡ Some (Requests.Run asked out) → IsRunnable asked)
    → request ≡ Some (Requests.Run asked out) → call.source.before ≡ Some bytes → HeadlineHolds request call (Served journal) → IsCertified asked out bytes journal call.sink
certified_of asked out call bytes journal request runnable is told holds =
    let written = written_of asked out call bytes journal request is told holds in
    let range = runnable is in record {
      outputs = written.outputs;
      wrote = written.wrote;
      checks = served_checks asked bytes journal written.outputs (range.some_shards, range.few_shards) written.served;
    }

-- ---- checks

pub one_checked : (shards : ℕ) (bytes : List ℕ) (a b : Verdict) → IsChecked shards bytes a → IsChecked shards bytes b → a ≡ b
one_checked shards bytes a b x y =
    let streams = one_streams bytes y.streams x.streams y.journal x.journal y.outputs x.outputs y.parts x.parts in
    let journal = one_journal bytes y.streams x.streams y.journal x.journal y.outputs x.outputs y.parts x.parts in
    let outputs = one_outputs bytes y.streams x.streams y.journal x.journal y.outputs x.outputs y.lawful x.lawful y.parts x.parts in
    one_verdict (all_given shards x.streams x.journal x.outputs) a b x.verdict_is
    (subst (λ (o : AllOutputs). HasVerdict (all_given shards x.streams x.journal o) b) outputs
    (subst (λ (j : Journal). HasVerdict (all_given shards x.streams j y.outputs) b) journal
    (subst (λ (s : List (List (List ℕ))). HasVerdict (all_given shards s y.journal y.outputs) b) streams y.verdict_is)))

pub some_checked : (shards : ℕ) (bytes : List ℕ) (streams : List (List (List ℕ))) (journal : Journal) (outputs : AllOutputs) → IsMadeOfParts bytes streams journal outputs → AreOutputs outputs
    → (v : Verdict) × IsChecked shards bytes v
some_checked shards bytes streams journal outputs parts lawful =
    let found = some_verdict (all_given shards streams journal outputs) in
    (found.0, record { streams = streams; journal = journal; outputs = outputs; parts = parts; lawful = lawful; verdict_is = found.1 })

pub checked_run : (shards : ℕ) (bytes : List ℕ) → 1 ≤ shards → AreBytes bytes → IsChecked shards bytes Yes → IsInputOfRun shards bytes
checked_run shards bytes some small is =
    let p = is.parts in
    let c = p.of_capture in
    let all : AreBytes (p.capture_text ++ (p.journal_text ++ p.replies_text)) = subst AreBytes p.whole small in
    let rest : AreBytes (p.journal_text ++ p.replies_text) = bytes_back p.capture_text (p.journal_text ++ p.replies_text) all in
    let journal = journal_spells p.journal_text is.journal (bytes_front p.journal_text p.replies_text rest) p.of_journal in
    record {
      capture_text = p.capture_text;
      journal_text = p.journal_text;
      replies_text = p.replies_text;
      version = c.version;
      count = c.count;
      records = c.records;
      journal = is.journal;
      outputs = is.outputs;
      whole = p.whole;
      of_capture = capture_spells p.capture_text c.version c.count c.records (bytes_front p.capture_text (p.journal_text ++ p.replies_text) all) c.good;
      of_journal = journal;
      of_replies = replies_spell p.replies_text is.outputs.version (items_of is.outputs) (bytes_back p.journal_text p.replies_text rest) p.of_replies;
      run = of_streams shards c.count c.records is.journal is.outputs some journal.readable.valid is.lawful
          (subst (λ (s : List (List (List ℕ))). HasVerdict (all_given shards s is.journal is.outputs) Yes) c.joined is.verdict_is);
    }
