-- A record ends only after the count.
use Rattle.std.proofs.Common.{◌≡◌, ℕ, ◌-◌, List, [], ◌∷◌, ◌++◌, length}
use Rattle.std.specs.Prelude.{nat_lt, Some}
use Rattle.zy_read.specs.declared.magic.MagicStep.{MagicStep}
use Rattle.zy_read.specs.declared.magic.MagicStep.TheVariants.{Next, Whole, Wrong}
use Rattle.zy_read.specs.Magic.{magic_step}
use Rattle.zy_read.specs.Fields.{moved, step}
use Rattle.zy_read.proofs.StepLemmas.{step_does}
use Rattle.zy_capture.specs.declared.record.Record.{Record}
use Rattle.zy_capture.specs.declared.due.Due.{Due}
use Rattle.zy_capture.specs.declared.due.Due.TheVariants.{Magic, Count}
use Rattle.zy_capture.specs.Capture.{letters, connection_limit}
use Rattle.zy_capture.specs.Steps.{CaptureProgress, CaptureStep, Judgement, number, byte, judge_magic, judged, fields}
use Rattle.zy_capture.proofs.ByteLemmas.{chosen}
use Rattle.zy_capture.proofs.TellLemmas.{IsPastCount}

-- no byte of a magic ends a record
magic_gave : (p : CaptureProgress) (at : ℕ) (m : MagicStep) (r : Record) → (moved p (judge_magic p.state at m)).gave ≡ Some r → ⊥
magic_gave p at (Next next) r gave = cc
magic_gave p at (Whole version) r gave = cc
magic_gave p at Wrong r gave = cc

judged_gave : (due : Due) (p : CaptureProgress) (at : ℕ) (field : List ℕ) (r : Record) → (moved p (judged due p.state at field)).gave ≡ Some r → IsPastCount due
judged_gave (Magic part) p at field r gave = absurd (magic_gave p at (magic_step part letters at (byte field)) r gave)
judged_gave Count p at field r gave =
    let GaveNone : Judgement → Type 0 = λ j. (moved p j).gave ≡ Some r → ⊥ in
    absurd (chosen GaveNone (nat_lt connection_limit (number field)) _ _ (λ over e. cc) (λ few e. cc) gave)
judged_gave due p at field r gave = tt

pub step_gave : (p : CaptureProgress) (byte : ℕ) (r : Record) → (step fields p byte).gave ≡ Some r → IsPastCount p.state.due
step_gave p byte r gave =
    step_does fields (λ (s : CaptureStep). s.gave ≡ Some r → IsPastCount p.state.due) p byte (λ fault met e. cc) (λ e. cc) (λ e. cc)
    (λ e. judged_gave p.state.due p (p.at - length p.seen) (p.seen ++ byte ∷ []) r e) gave
