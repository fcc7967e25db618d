-- Whether the sink was finished, and how often.
use Rattle.std.specs.Prelude.{◌≡◌, ◌⊎◌, ℕ, Bool, true, Result, Ok, Err}
use Rattle.zy_base.specs.Outside.{one_more}
use Rattle.zy_shell.specs.declared.failure.Failure.{Failure}
use Rattle.zy_shell.specs.declared.failure.Failure.TheVariants.{WriteFault}

-- the sink was finished once more; that was its last call, and it succeeded
abbrev pub EndsFinished : ℕ → ℕ → Bool → Type 0
EndsFinished before after is_finished = (after ≡ one_more before) × (is_finished ≡ true)

-- the sink was finished once, at the end, if all was written, and at most once if writing failed; otherwise it
-- was not finished
abbrev pub FinishesOnce : {A : Type 0} → Result A Failure → ℕ → ℕ → Bool → Type 0
FinishesOnce (Ok answer) before after is_finished = EndsFinished before after is_finished
FinishesOnce (Err WriteFault) before after is_finished = (after ≡ before) ⊎ (after ≡ one_more before)
FinishesOnce (Err failure) before after is_finished = after ≡ before
