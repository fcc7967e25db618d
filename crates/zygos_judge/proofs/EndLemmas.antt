-- What follows from how the call ends: of invalid arguments, and of an input that is good or has an error.
use Rattle.std.proofs.Common.{◌≡◌, ℕ, Bool, true, false, ◌||◌, List, refl, ap, inl, inr, subst}
use Rattle.std.specs.Prelude.{Option, None, Some, Result, Ok, Err, ⊤}
use Rattle.zy_input.specs.declared.stop.Refusal.{Refusal}
use Rattle.zy_input.proofs.FaultLemmas.{one_fault}
use Rattle.zy_input.proofs.RecordingLemmas.{no_fault}
use Rattle.zy_input.proofs.WindowLemmas.{no_fault as no_window_fault}
use Rattle.zy_items.specs.Items.{items_bytes}
use Rattle.zy_items.specs.Standing.{Standing, standing_of, nothing_standing}
use Rattle.zy_read.specs.Seen.{Side, Seen, NoneRose, WasWritten, OfGiven}
use Rattle.zy_shell.specs.declared.failure.Failure.{Failure}
use Rattle.zy_shell.specs.declared.failure.Failure.TheVariants.{Usage, Refused}
use Rattle.zy_shell.specs.Asked.{IsToldGood, IsToldBad}
use Rattle.zy_shell.specs.Asked.Asked.{Invalid}
use Rattle.zy_shell.specs.Failure.{IsThisOr}
use Rattle.zy_shell.specs.Input.{HasInputFault}
use Rattle.zy_shell.proofs.FailureLemmas.{invalid_fails, good_fails, bad_fails, not_of_bad}
use Rattle.zy_explain.specs.declared.rules.Rules.{Rules}
use Rattle.zy_explain.specs.declared.window.Window.{Window as Led}
use Rattle.zy_explain.specs.Judged.{judged, judged_after}
use Rattle.zy_verdict.specs.Between.{IsExplainedBetweenWith}
use Rattle.zy_verdict.specs.Numbers.{IsExplainedWith}
use Rattle.zy_verdict.specs.Recorded.{Recorded}
use Rattle.zygos_judge.specs.declared.finding.Finding.{Finding}
use Rattle.zygos_judge.specs.declared.finding.Finding.TheVariants.{Explained, Refuted, Unknown}
use Rattle.zygos_judge.specs.declared.finding.Reason.{Reason}
use Rattle.zygos_judge.specs.declared.finding.Open.{Open}
use Rattle.zygos_judge.specs.declared.judged.Judged.{Judged}
use Rattle.zygos_judge.specs.declared.judged.Judged.TheVariants.{Window, Plain}
use Rattle.zygos_judge.specs.declared.words.Task.{Task}
use Rattle.zygos_judge.specs.Finding.{HasFinding, IsLed, OfRequested, text_with}
use Rattle.zygos_judge.specs.Ends.{input_with, recording_with, Finds, WritesLine, WritesFirst, HasFound, JudgesAs, LeadsOn, HasCause, JudgesPart, IsJudgedOr}
use Rattle.zygos_judge.specs.Input.{finding_in, judged_text, IsJudged, FindsIn}
use Rattle.zygos_judge.specs.Lines.{finding_line}
use Rattle.zygos_judge.specs.Words.{is_window}

or_false : (a b : Bool) → (a || b) ≡ false → b ≡ false
or_false true b is = absurd (cc)
or_false false b is = is

-- ---- what is found

given_so : (source : Side) (P Q : List ℕ → Type 0) → ((bytes : List ℕ) → P bytes → Q bytes) → OfGiven source P → OfGiven source Q
given_so source P Q implies has = (has.0, has.1, implies has.0 has.2)

-- what follows from what holds of the recording and of what its server had at first holds of them
input_so : (third : Bool) (rules : Rules) (bytes : List ℕ) (P Q : Recorded → Standing → Type 0) → ((r : Recorded) (from : Standing) → P r from → Q r from) → OfRequested third rules bytes P → OfRequested third rules bytes Q
input_so true rules bytes P Q implies has = record {
  streams = has.streams;
  outputs = has.outputs;
  from = has.from;
  made = has.made;
  lawful = has.lawful;
  valid = has.valid;
  holds = implies (judged_after has.from.lasting rules has.made.of_capture.count has.made.of_capture.records has.outputs.sessions) has.from has.holds;
}
input_so false rules bytes P Q implies has = record {
  streams = has.streams;
  outputs = has.outputs;
  made = has.made;
  lawful = has.lawful;
  holds = implies (judged rules has.made.of_capture.count has.made.of_capture.records has.outputs.sessions) nothing_standing has.holds;
}

-- what holds whatever the recording is
input_holds : (third : Bool) (rules : Rules) (bytes : List ℕ) (W : Type 0) → OfRequested third rules bytes (λ r from. W) → W
input_holds true rules bytes W has = has.holds
input_holds false rules bytes W has = has.holds

finds_one : (task : Task) (source : Side) (P : Recorded → Standing → Type 0) (Q : Recorded → Type 0) (W : Type 0) → ((r : Recorded) (from : Standing) → P r from → Q r × W)
    → OfGiven source (λ bytes. OfRequested task.from task.rules bytes P) → OfGiven source (λ bytes. OfRequested task.from task.rules bytes (λ r from. Q r) × W)
finds_one task source P Q W implies has =
    given_so source (λ bytes. OfRequested task.from task.rules bytes P) (λ bytes. OfRequested task.from task.rules bytes (λ r from. Q r) × W)
    (λ bytes of. (
      input_so task.from task.rules bytes P (λ r from. Q r) (λ r from holds. (implies r from holds).0) of,
      input_holds task.from task.rules bytes W (input_so task.from task.rules bytes P (λ r from. W) (λ r from holds. (implies r from holds).1) of),
    ))
    has

-- what follows from a refutation is found
pub refuted_so : (asked : Option Task) (source sink : Side) (reason : Reason) (Q : Recorded → Type 0) → ((r : Recorded) → HasFinding r (Refuted reason) → Q r)
    → JudgesAs asked (OfGiven source) (WasWritten sink) (Refuted reason) → Finds asked (OfGiven source) Q (WasWritten sink (finding_line (Refuted reason)))
refuted_so None source sink reason Q implies has = absurd has
refuted_so (Some task) source sink reason Q implies has =
    finds_one task source (HasFound (Refuted reason) (is_window task) task.to (WasWritten sink)) Q (WasWritten sink (finding_line (Refuted reason))) (λ r from holds. (implies r holds.0, holds.1)) has

pub unknown_so : (asked : Option Task) (source sink : Side) (why : Open) → JudgesAs asked (OfGiven source) (WasWritten sink) (Unknown why)
    → Finds asked (OfGiven source) (λ r. ⊤) (WasWritten sink (finding_line (Unknown why)))
unknown_so None source sink why has = absurd has
unknown_so (Some task) source sink why has =
    finds_one task source (HasFound (Unknown why) (is_window task) task.to (WasWritten sink)) (λ r. ⊤) (WasWritten sink (finding_line (Unknown why))) (λ r from holds. (tt, holds.1)) has

-- ---- windows

-- a recording that is explained from and to something is explained
with_some : (r : Recorded) (from to : Standing) (commands ended : ℕ) → IsExplainedBetweenWith r from to commands ended → IsExplainedWith r commands ended
with_some r from to commands ended is = record { cuts = is.cuts; entries = is.entries; explained = is.explained; commands_are = is.commands_are; ended_are = is.ended_are }

led_line : (sink : Side) (line : List ℕ) (asked : Bool) (to : Standing) → WasWritten sink (text_with asked line to) → WritesLine asked sink line
led_line sink line true to written = (items_bytes to, written)
led_line sink line false to written = written

plain_line : (sink : Side) (line : List ℕ) (asked : Bool) → asked ≡ false → WasWritten sink line → WritesLine asked sink line
plain_line sink line true not written = absurd (cc)
plain_line sink line false not written = written

-- if a recording is no window, nothing is asked for at its end
none_asked : (task : Task) → is_window task ≡ false → task.to ≡ false
none_asked task is = or_false task.from task.to is

module _ (task : Task) (sink : Side) (commands ended : ℕ) where
  abbrev line : List ℕ
  line = finding_line (Explained commands ended)

  yes_one : (r : Recorded) (from : Standing) (window : Bool) → is_window task ≡ window → HasFound (Explained commands ended) window task.to (WasWritten sink) r from
      → IsExplainedWith r commands ended × WritesLine task.to sink line
  yes_one r from true is has = (with_some r from has.to commands ended has.explained, led_line sink line task.to has.to has.written)
  yes_one r from false is has = (has.0, plain_line sink line task.to (none_asked task is) has.1)

pub yes_so : (asked : Option Task) (source sink : Side) (commands ended : ℕ) → JudgesAs asked (OfGiven source) (WasWritten sink) (Explained commands ended)
    → Finds asked (OfGiven source) (λ r. IsExplainedWith r commands ended) (WritesFirst asked sink (finding_line (Explained commands ended)))
yes_so None source sink commands ended has = absurd has
yes_so (Some task) source sink commands ended has =
    finds_one task source (HasFound (Explained commands ended) (is_window task) task.to (WasWritten sink)) (λ r. IsExplainedWith r commands ended) (WritesLine task.to sink (finding_line (Explained commands ended)))
    (λ r from holds. yes_one task sink commands ended r from (is_window task) refl holds) has

-- a window that is explained leads on
pub between_so : (asked : Option Task) (source sink : Side) (commands ended : ℕ) → JudgesAs asked (OfGiven source) (WasWritten sink) (Explained commands ended)
    → LeadsOn asked (OfGiven source) (WasWritten sink) commands ended
between_so None source sink commands ended has = absurd has
between_so (Some task) source sink commands ended has = λ is.
    given_so source (λ bytes. OfRequested task.from task.rules bytes (HasFound (Explained commands ended) (is_window task) task.to (WasWritten sink)))
    (λ bytes. OfRequested task.from task.rules bytes (λ r from. IsLed task.to (WasWritten sink) (finding_line (Explained commands ended)) r from commands ended))
    (λ bytes of.
    input_so task.from task.rules bytes (HasFound (Explained commands ended) (is_window task) task.to (WasWritten sink)) (λ r from. IsLed task.to (WasWritten sink) (finding_line (Explained commands ended)) r from commands ended)
    (λ r from holds. subst (λ (window : Bool). HasFound (Explained commands ended) window task.to (WasWritten sink) r from) is holds) of)
    has

-- ---- what was judged

module _ (task : Task) (W : List ℕ → Type 0) (r : Recorded) (from : Standing) where
  led_found : (led : Led) (window : Bool) → is_window task ≡ window → W (judged_text task.to (Window led)) → IsJudged window (Window led) r from → HasFound (finding_in (Window led)) window task.to W r from
  led_found led true is written has = record { to = standing_of led.to; valid = has.0; explained = has.1; written = written }
  led_found led false is written has = (
    with_some r from (standing_of led.to) led.numbers.commands led.numbers.ended has.1,
    subst (λ (to : Bool). W (text_with to (finding_line (finding_in (Window led))) (standing_of led.to))) (none_asked task is) written,
  )

  plain_found : (finding : Finding) (window : Bool) → W (finding_line finding) → IsJudged window (Plain finding) r from → HasFound finding window task.to W r from
  plain_found (Explained commands ended) true written has = let both : true ≡ false = has.0 in absurd (cc)
  plain_found (Explained commands ended) false written has = (has.1, written)
  plain_found (Refuted reason) window written has = (has.1, written)
  plain_found (Unknown why) window written has = (has.1, written)

  found_one : (judged : Judged) → W (judged_text task.to judged) → IsJudged (is_window task) judged r from → HasFound (finding_in judged) (is_window task) task.to W r from
  found_one (Window led) written has = led_found led (is_window task) refl written has
  found_one (Plain finding) written has = plain_found finding (is_window task) written has

-- what was judged and written is found
pub found_so : (task : Task) (source : Side) (W : List ℕ → Type 0) (judged : Judged) → W (judged_text task.to judged) → FindsIn task source (Ok judged) → JudgesAs (Some task) (OfGiven source) W (finding_in judged)
found_so task source W judged written has =
    given_so source (λ bytes. OfRequested task.from task.rules bytes (IsJudged (is_window task) judged)) (λ bytes. OfRequested task.from task.rules bytes (HasFound (finding_in judged) (is_window task) task.to W))
    (λ bytes of.
    input_so task.from task.rules bytes (IsJudged (is_window task) judged) (HasFound (finding_in judged) (is_window task) task.to W)
    (λ r from holds. found_one task W r from judged written holds) of)
    has

-- ---- answers

-- a recording is asked for, if the arguments are valid
pub invalid_with : (asked : Option Task) → recording_with asked ≡ Invalid → asked ≡ None
invalid_with None invalid = refl
invalid_with (Some task) invalid = absurd (cc)

pub unlawful_for : (call : Seen) (answer : Result Finding Failure) → HasCause None call answer → IsThisOr Usage answer
unlawful_for call (Ok finding) ends = absurd ends
unlawful_for call (Err failure) ends = invalid_fails Finding call (JudgesPart None call) (λ part. part.1) failure ends

pub judged_for : (asked : Option Task) (call : Seen) (answer : Result Finding Failure) → IsToldGood (recording_with asked) call.source.before → NoneRose call → HasCause asked call answer → IsJudgedOr answer
judged_for asked call (Ok finding) good none ends = inl (finding, refl)
judged_for asked call (Err failure) good none ends = inr (ap (λ f. Err f) (good_fails (recording_with asked) call (JudgesPart asked call) failure good none ends))

-- what was read has no error
faultless : (third : Bool) (rules : Rules) (bytes : List ℕ) (Holds : Recorded → Standing → Type 0) (refusal : Refusal) → OfRequested third rules bytes Holds → HasInputFault (input_with third) refusal bytes → ⊥
faultless true rules bytes Holds refusal of fault = no_window_fault bytes of.streams of.from of.outputs refusal of.made fault
faultless false rules bytes Holds refusal of fault = no_fault bytes of.streams of.outputs refusal of.made fault

-- nothing is found of an input with an error
not_judged : (asked : Option Task) (call : Seen) (refusal : Refusal) (finding : Finding) → IsToldBad (recording_with asked) call.source.before refusal → HasCause asked call (Ok finding) → ⊥
not_judged None call refusal finding bad has = bad
not_judged (Some task) call refusal finding bad has =
    not_of_bad call.source (λ bytes. OfRequested task.from task.rules bytes (HasFound finding (is_window task) task.to (WasWritten call.sink))) (input_with task.from) refusal has bad
    (λ bytes of fault. faultless task.from task.rules bytes (HasFound finding (is_window task) task.to (WasWritten call.sink)) refusal of fault)

pub refused_for : (asked : Option Task) (call : Seen) (answer : Result Finding Failure) (refusal : Refusal)
    → IsToldBad (recording_with asked) call.source.before refusal → NoneRose call → HasCause asked call answer → IsThisOr (Refused refusal) answer
refused_for asked call (Ok finding) refusal bad none ends = absurd (not_judged asked call refusal finding bad ends)
refused_for asked call (Err failure) refusal bad none ends = bad_fails Finding one_fault (recording_with asked) call (JudgesPart asked call) failure refusal bad none ends
