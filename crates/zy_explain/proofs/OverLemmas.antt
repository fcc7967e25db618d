-- Commands that are answered, or ask for no answer.
use mathlib.Core.Logic.{dite}
use native.Mathlib.Decide.{dec_lt}
use Rattle.std.proofs.Common.{◌≡◌, ℕ, ◌+◌, ◌<◌, ◌≤◌, Bool, List, length, subst, arith}
use Rattle.std.proofs.lemmas.Option.{slice_get_within}
use Rattle.mc_parse.specs.declared.command.Command.{Command}
use Rattle.zy_explain.specs.Over.{IsDoneAt, AreAnsweredOrQuiet}

module _ (commands : List Command) (answered : List Bool) where
  -- the first commands are answered, or ask for no answer
  abbrev pub AreDoneTo : ℕ → Type 0
  AreDoneTo index = (i : ℕ) → i < index → IsDoneAt commands answered i

  pub done_more : (index : ℕ) → AreDoneTo index → IsDoneAt commands answered index → AreDoneTo (index + 1)
  done_more index done here i below = dite (dec_lt i index)
      (λ before. done i before)
      (λ past. subst (IsDoneAt commands answered) (let same : index ≡ i = omega (arith, below, past) in same) here)

  pub done_to_end : (index : ℕ) → length commands ≤ index → AreDoneTo index → AreAnsweredOrQuiet commands answered
  done_to_end index past done i command is none = done i (let below = slice_get_within commands i command is in omega (arith, below, past)) command is none
