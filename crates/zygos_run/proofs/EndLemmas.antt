-- What follows from how a call ends: of the bytes that its source reported, and of answers that must come.
use Rattle.std.proofs.Common.{◌≡◌, ℕ, List, ◌++◌, refl, sym, ◌∙◌, ap, subst, inl, inr}
use Rattle.std.specs.Prelude.{Option, None, Some, Result, Ok, Err, IfOk, IfSome, IsSome, IsSomeAnd}
use Rattle.std.specs.Io.KnownBytes.{Consumes, IsAtEnd}
use Rattle.std.proofs.lemmas.List.{append-nil}
use Rattle.zy_capture.specs.declared.record.Record.{Record}
use Rattle.zy_capture.specs.Verdict as Captures
use Rattle.zy_journal.specs.declared.journal.Journal.{Journal as OneJournal}
use Rattle.zy_input.specs.declared.stop.Refusal.{Refusal}
use Rattle.zy_input.specs.declared.stop.Refusal.TheVariants.{Capture, Journal, Pcap}
use Rattle.zy_command_line.specs.declared.request.Request.{Request}
use Rattle.zy_command_line.specs.declared.request.Request.TheVariants.{Run, Check, Gen, Pcap as PcapOf, Report, SelfTest}
use Rattle.zy_pcap.specs.Packet.{Packet}
use Rattle.zy_pcap.specs.Packets as Recorded
use Rattle.zy_journal_reader.specs.Verdict as Journals
use Rattle.zy_read.specs.Seen.{Side, Seen, NoneRose, WasWritten, OfGiven, OfReported, OfTold}
use Rattle.zy_shell.specs.declared.failure.Failure.{Failure}
use Rattle.zy_shell.specs.declared.failure.Failure.TheVariants.{Usage, Refused}
use Rattle.zy_shell.specs.Asked.{IsToldGood, IsToldBad}
use Rattle.zy_shell.specs.Asked.Asked.{Invalid}
use Rattle.zy_shell.specs.Failure.{IsThisOr}
use Rattle.zy_shell.specs.Input.{Input, HasInputFault, IsFaultless}
use Rattle.zy_shell.specs.Input.Input.{CaptureInput, PacketsInput, JournalInput}
use Rattle.zy_shell.proofs.InputLemmas.{PartsHaveNone, PartsHaveOne}
use Rattle.zy_shell.proofs.FailureLemmas.{invalid_fails, good_fails, bad_fails, not_of_bad}
use Rattle.zygos_run.specs.declared.answer.Answer.{Answer}
use Rattle.zygos_run.specs.Task.{Task, task_of, reads_this, input_asked}
use Rattle.zygos_run.specs.Ends.{OfInput, DoneHolds, HasPart, Ends}
use Rattle.zygos_run.specs.Served.{HeadlineHolds, IsDone, IsDoneOr}

-- ---- inputs

-- a capture, recorded packets and a journal have no fault as such
capture_faultless : (bytes : List ℕ) (version count : ℕ) (records : List Record) → Captures.verdict bytes ≡ Captures.Verdict.Good version count records → (refusal : Refusal) → HasInputFault CaptureInput refusal bytes → ⊥
capture_faultless bytes version count records good (Capture fault) bad = let both : Captures.Verdict.Good version count records ≡ Captures.Verdict.Bad fault = sym good ∙ bad in cc
capture_faultless bytes version count records good refusal bad = bad

packets_faultless : (port : ℕ) (bytes : List ℕ) (given : List Packet) → Recorded.packets port bytes ≡ Recorded.FoundPackets.Packets given → (refusal : Refusal) → HasInputFault (PacketsInput port) refusal bytes → ⊥
packets_faultless port bytes given good (Pcap fault) bad = let both : Recorded.FoundPackets.Packets given ≡ Recorded.FoundPackets.Bad fault = sym good ∙ bad in cc
packets_faultless port bytes given good refusal bad = bad

journal_faultless : (bytes : List ℕ) (journal : OneJournal) → Journals.journal_verdict bytes ≡ Journals.JournalVerdict.Good journal → (refusal : Refusal) → HasInputFault JournalInput refusal bytes → ⊥
journal_faultless bytes journal good (Journal fault) bad = let both : Journals.JournalVerdict.Good journal ≡ Journals.JournalVerdict.Bad fault = sym good ∙ bad in cc
journal_faultless bytes journal good refusal bad = bad

-- what is done is done of an input without a fault: a line for each row
faultless : PartsHaveNone → (asked : Request) (bytes : List ℕ) (found : (task_of asked).Found) (Writes : List ℕ → Type 0) → (task_of asked).Does bytes found Writes → IfSome (task_of asked).reads (λ input. IsFaultless input bytes)
faultless parts (Run run out) bytes found Writes does = capture_faultless bytes does.served.version does.served.count does.served.records does.served.capture
faultless parts (Check shards) bytes found Writes does = λ refusal bad. parts bytes does.0.streams does.0.journal does.0.outputs refusal does.0.parts bad
faultless parts (Gen traffic) bytes found Writes does = tt
faultless parts (SelfTest traffic run) bytes found Writes does = tt
faultless parts (PcapOf port) bytes found Writes does = packets_faultless port bytes does.given does.are
faultless parts Report bytes found Writes does = journal_faultless bytes does.journal does.good

-- ---- bytes that are reported

-- what is so of the bytes that a source gave to its end is so of all that it reported
reported : (before after : Option (List ℕ)) (bytes : List ℕ) (P : List ℕ → Type 0) → Consumes before after bytes → IsAtEnd after → P bytes → OfReported before after P
reported None after bytes P consumed end holds = tt
reported (Some u) None bytes P consumed end holds = absurd consumed
reported (Some u) (Some v) bytes P consumed end holds = (ap Some end, subst P (sym (consumed ∙ ap (λ (l : List ℕ). bytes ++ l) end ∙ append-nil bytes)) holds)

told : (source : Side) (reads : Option Input) (P : List ℕ → Type 0) → OfInput reads (OfGiven source) P → OfInput reads (OfTold source) P
told source None P given = given
told source (Some input) P given = reported source.before source.after given.0 P given.1.0 given.1.1 given.2

told_found : (call : Seen) (task : Task) (found : Option task.Found) → IsSomeAnd found (λ f. OfInput task.reads (OfGiven call.source) (λ bytes. task.Does bytes f (WasWritten call.sink)))
    → IsSomeAnd found (λ f. OfInput task.reads (OfTold call.source) (λ bytes. task.Does bytes f (WasWritten call.sink)))
told_found call task None has = has
told_found call task (Some f) has = told call.source task.reads (λ bytes. task.Does bytes f (WasWritten call.sink)) has

-- what was carried out of the bytes that the source gave was carried out of all that it reported
told_of : (request : Option Request) (call : Seen) (answer : Answer) → DoneHolds request call answer → HeadlineHolds request call answer
told_of None call answer has = has
told_of (Some asked) call answer has = told_found call (task_of asked) ((task_of asked).found_in answer) has

pub headline_of : (request : Option Request) (call : Seen) (answer : Result Answer Failure) → Ends request call answer → IfOk answer (λ a. HeadlineHolds request call a)
headline_of request call (Ok answer) ends = told_of request call answer ends
headline_of request call (Err failure) ends = tt

-- after a success the command was carried out
pub done_of : (request : Option Request) (call : Seen) (answer : Result Answer Failure) → Ends request call answer → IfOk answer (λ a. DoneHolds request call a)
done_of request call (Ok answer) ends = ends
done_of request call (Err failure) ends = tt

-- ---- words that are not lawful

reads_something : (reads : Option Input) → reads_this reads ≡ Invalid → ⊥
reads_something None invalid = cc
reads_something (Some input) invalid = cc

-- what valid arguments request is not nothing at all
pub invalid_of : (request : Option Request) → input_asked request ≡ Invalid → request ≡ None
invalid_of None invalid = refl
invalid_of (Some asked) invalid = absurd (reads_something (task_of asked).reads invalid)

pub unlawful_of : (call : Seen) (answer : Result Answer Failure) → Ends None call answer → IsThisOr Usage answer
unlawful_of call (Ok answer) ends = absurd ends
unlawful_of call (Err failure) ends = invalid_fails Answer call (HasPart None call) (λ part. part) failure ends

-- ---- input that is good

found_some : {T : Type 0} (found : Option T) (P : T → Type 0) → IsSomeAnd found P → IsSome found
found_some None P has = absurd has
found_some (Some f) P has = refl

done : (request : Option Request) (call : Seen) (answer : Answer) → DoneHolds request call answer → IsDone request answer
done None call answer has = has
done (Some asked) call answer has =
    found_some ((task_of asked).found_in answer) (λ f. OfInput (task_of asked).reads (OfGiven call.source) (λ bytes. (task_of asked).Does bytes f (WasWritten call.sink))) has

pub completed_of : (request : Option Request) (call : Seen) (answer : Result Answer Failure) → IsToldGood (input_asked request) call.source.before → NoneRose call → Ends request call answer → IsDoneOr request answer
completed_of request call (Ok answer) good none ends = inl (done request call answer ends)
completed_of request call (Err failure) good none ends = inr (ap (λ f. Err f) (good_fails (input_asked request) call (HasPart request call) failure good none ends))

-- ---- input that has a fault

module _ (parts : PartsHaveNone) (call : Seen) (refusal : Refusal) where
  -- of such an input nothing is done
  bad_input : (reads : Option Input) (P : List ℕ → Type 0) → ((bytes : List ℕ) → P bytes → IfSome reads (λ input. IsFaultless input bytes)) → IsToldBad (reads_this reads) call.source.before refusal → OfInput reads (OfGiven call.source) P → ⊥
  bad_input None P clean bad has = bad
  bad_input (Some input) P clean bad has = not_of_bad call.source P input refusal has bad (λ bytes holds fault. clean bytes holds refusal fault)

  bad_found : (asked : Request) (found : Option (task_of asked).Found) → IsToldBad (reads_this (task_of asked).reads) call.source.before refusal
      → IsSomeAnd found (λ f. OfInput (task_of asked).reads (OfGiven call.source) (λ bytes. (task_of asked).Does bytes f (WasWritten call.sink))) → ⊥
  bad_found asked None bad has = has
  bad_found asked (Some f) bad has =
      bad_input (task_of asked).reads (λ bytes. (task_of asked).Does bytes f (WasWritten call.sink)) (λ bytes does. faultless parts asked bytes f (WasWritten call.sink) does) bad has

  not_done : (request : Option Request) (answer : Answer) → IsToldBad (input_asked request) call.source.before refusal → DoneHolds request call answer → ⊥
  not_done None answer bad has = bad
  not_done (Some asked) answer bad has = bad_found asked ((task_of asked).found_in answer) bad has

  -- and it is refused for this fault
  pub refused_of : PartsHaveOne → (request : Option Request) (answer : Result Answer Failure) → IsToldBad (input_asked request) call.source.before refusal → NoneRose call → Ends request call answer → IsThisOr (Refused refusal) answer
  refused_of one request (Ok answer) bad none ends = absurd (not_done request answer bad ends)
  refused_of one request (Err failure) bad none ends = bad_fails Answer one (input_asked request) call (HasPart request call) failure refusal bad none ends
