-- What each command of the program does: one row for each request.
use Rattle.std.specs.Prelude.{ℕ, List, Option, None, Some, ⊤}
use Rattle.zy_journal.specs.declared.journal.Journal.{Journal}
use Rattle.zy_run.specs.declared.summary.Summary.{Summary}
use Rattle.zy_check.specs.declared.verdict.Verdict.{Verdict as Certified}
use Rattle.zy_command_line.specs.declared.request.Request.{Request}
use Rattle.zy_command_line.specs.declared.request.Request.TheVariants.{Run, Check, Gen, Pcap, Report, SelfTest}
use Rattle.zy_serving.specs.Headline.{IsWritten}
use Rattle.zy_self.specs.Tested.{IsTested, traffic_bytes}
use Rattle.zy_shell.specs.Asked.{Asked}
use Rattle.zy_shell.specs.Asked.Asked.{Invalid, Nothing, Reading}
use Rattle.zy_shell.specs.Input.{Input}
use Rattle.zy_shell.specs.Input.Input.{CaptureInput, CheckInput, PacketsInput, JournalInput}
use Rattle.zy_shell.specs.VerdictLine.{verdict_line}
use Rattle.zygos_run.specs.declared.answer.Answer.{Answer}
use Rattle.zygos_run.specs.declared.answer.Answer.TheVariants.{Served, Checked, Made, Tested}
use Rattle.zygos_run.specs.Lines.{summary_line}
use Rattle.zygos_run.specs.Checked.{IsChecked}
use Rattle.zygos_run.specs.Recorded.{IsOfRecordedPackets}
use Rattle.zygos_run.specs.Reported.{IsReported}

-- ---- what an answer has

-- the journal of a served run
abbrev pub journal_served : Answer → Option Journal
journal_served (Served journal) = Some journal
journal_served answer = None

-- the verdict of a check
abbrev pub verdict_checked : Answer → Option Certified
verdict_checked (Checked verdict) = Some verdict
verdict_checked answer = None

-- only that something was made
abbrev pub only_made : Answer → Option ⊤
only_made Made = Some tt
only_made answer = None

-- the journal and the numbers of a test run
abbrev pub run_tested : Answer → Option (Journal × Summary)
run_tested (Tested journal numbers) = Some (journal, numbers)
run_tested answer = None

-- ---- tasks

-- a task: what is read, what is found, and what is written
pub record Task : Type 1 where
  -- the kind of its input, if it reads one
  pub reads : Option Input
  -- what it finds
  pub Found : Type 0
  -- what this answer says that it found, if it is the answer when the task is done
  pub found_in : Answer → Option Found
  -- for an input of these bytes it finds this, and this holds of the text that it writes
  pub Does : List ℕ → Found → (List ℕ → Type 0) → Type 0

-- the task of each command; one that reads nothing has an input of no bytes
abbrev pub task_of : Request → Task
task_of (Run run out) = record {
  reads = Some CaptureInput;
  Found = Journal;
  found_in = journal_served;
  Does = λ bytes journal Writes. IsWritten run out bytes journal Writes;
}
task_of (Check shards) = record {
  reads = Some CheckInput;
  Found = Certified;
  found_in = verdict_checked;
  Does = λ bytes verdict Writes. IsChecked shards bytes verdict × Writes (verdict_line verdict);
}
task_of (Gen traffic) = record {
  reads = None;
  Found = ⊤;
  found_in = only_made;
  Does = λ bytes found Writes. Writes (traffic_bytes traffic);
}
task_of (SelfTest traffic run) = record {
  reads = None;
  Found = Journal × Summary;
  found_in = run_tested;
  Does = λ bytes found Writes. IsTested traffic run found.0 found.1 × Writes (summary_line found.1);
}
task_of (Pcap port) = record {
  reads = Some (PacketsInput port);
  Found = ⊤;
  found_in = only_made;
  Does = λ bytes found Writes. IsOfRecordedPackets port bytes Writes;
}
task_of Report = record {
  reads = Some JournalInput;
  Found = ⊤;
  found_in = only_made;
  Does = λ bytes found Writes. IsReported bytes Writes;
}

-- what valid arguments request, if their command reads this
abbrev pub reads_this : Option Input → Asked
reads_this None = Nothing
reads_this (Some input) = Reading input

-- what the arguments request to be read
abbrev pub input_asked : Option Request → Asked
input_asked None = Invalid
input_asked (Some request) = reads_this (task_of request).reads
