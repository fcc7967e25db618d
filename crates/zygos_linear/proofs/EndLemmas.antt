-- What follows from how the call ends: of invalid arguments, and of an input that is good or has an error.
use Rattle.std.proofs.Common.{◌≡◌, ℕ, refl, ap, inl, inr}
use Rattle.std.specs.Prelude.{Option, None, Some, Result, Ok, Err}
use Rattle.zy_input.specs.declared.stop.Refusal.{Refusal}
use Rattle.zy_read.specs.Seen.{Seen, NoneRose, WasWritten}
use Rattle.zy_shell.specs.declared.failure.Failure.{Failure}
use Rattle.zy_shell.specs.declared.failure.Failure.TheVariants.{Usage, Refused}
use Rattle.zy_shell.specs.Asked.{IsToldGood, IsToldBad}
use Rattle.zy_shell.specs.Asked.Asked.{Invalid}
use Rattle.zy_shell.specs.Failure.{IsThisOr}
use Rattle.zy_shell.specs.Input.Input.{CheckInput}
use Rattle.zy_shell.proofs.InputLemmas.{PartsHaveNone, PartsHaveOne}
use Rattle.zy_shell.proofs.FailureLemmas.{invalid_fails, good_fails, bad_fails, not_of_bad}
use Rattle.zygos_linear.specs.declared.finding.Finding.{Finding}
use Rattle.zygos_linear.specs.Finding.{HasFinding, OfRecording}
use Rattle.zygos_linear.specs.Ends.{check_with, HasCause, JudgesPart, IsJudgedOr}
use Rattle.zygos_linear.specs.Lines.{finding_line}

-- what is asked is a check, if the arguments are valid
pub invalid_with : (shards : Option ℕ) → check_with shards ≡ Invalid → shards ≡ None
invalid_with None invalid = refl
invalid_with (Some shards) invalid = absurd (cc)

pub unlawful_for : (call : Seen) (answer : Result Finding Failure) → HasCause None call answer → IsThisOr Usage answer
unlawful_for call (Ok finding) ends = absurd ends
unlawful_for call (Err failure) ends = invalid_fails Finding call (JudgesPart None call) (λ part. part.1) failure ends

pub judged_for : (shards : Option ℕ) (call : Seen) (answer : Result Finding Failure) → IsToldGood (check_with shards) call.source.before → NoneRose call → HasCause shards call answer → IsJudgedOr answer
judged_for shards call (Ok finding) good none ends = inl (finding, refl)
judged_for shards call (Err failure) good none ends = inr (ap (λ f. Err f) (good_fails (check_with shards) call (JudgesPart shards call) failure good none ends))

-- nothing is found of an input with an error
not_judged : PartsHaveNone → (shards : Option ℕ) (call : Seen) (refusal : Refusal) (finding : Finding) → IsToldBad (check_with shards) call.source.before refusal → HasCause shards call (Ok finding) → ⊥
not_judged parts None call refusal finding bad has = bad
not_judged parts (Some shards) call refusal finding bad has =
    not_of_bad call.source (λ bytes. OfRecording shards bytes (λ g r count. HasFinding g r count finding) × WasWritten call.sink (finding_line finding)) CheckInput refusal has bad
    (λ bytes of fault. parts bytes of.0.streams of.0.journal of.0.outputs refusal of.0.parts fault)

pub refused_for : (shards : Option ℕ) (call : Seen) (answer : Result Finding Failure) (refusal : Refusal)
    → PartsHaveNone → PartsHaveOne → IsToldBad (check_with shards) call.source.before refusal → NoneRose call → HasCause shards call answer → IsThisOr (Refused refusal) answer
refused_for shards call (Ok finding) refusal parts one bad none ends = absurd (not_judged parts shards call refusal finding bad ends)
refused_for shards call (Err failure) refusal parts one bad none ends = bad_fails Finding one (check_with shards) call (JudgesPart shards call) failure refusal bad none ends
