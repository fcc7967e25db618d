-- A proper beginning of an answer.
use Rattle.std.proofs.Common.{◌≡◌, ℕ, ◌<◌, Bool, true, List, ◌++◌, length, drop, Result, Ok, Err, IfOk, ap, subst, arith}
use Rattle.std.proofs.lemmas.List.{length-drop}
use Rattle.zy_base.specs.declared.outside.NoMemory.{NoMemory}
use Rattle.mc_allows.specs.declared.said.Said.{Said}
use Rattle.mc_answers.specs.Answer.{IsAnswer}
use Rattle.mc_answers.specs.Output.{BeginsAnswer}
use Rattle.mc_parse.specs.declared.command.Command.{Command}

begins_one : (command : Command) (saids : List Said) (bytes whole : List ℕ) → whole ≡ bytes ++ drop (length bytes) whole → length bytes < length whole → IsAnswer command saids whole → BeginsAnswer command saids bytes
begins_one command saids bytes whole is longer answer = record {
  missing = drop (length bytes) whole;
  some = λ none.
      let left = length-drop (length bytes) whole in
      let zero = ap (λ (l : List ℕ). length l) none in
      absurd (omega (arith, left, zero, longer));
  whole = subst (IsAnswer command saids) is answer;
}

-- if the whole is the answer, its proper beginning begins it
pub begins_by : (command : Command) (saids : List Said) (bytes whole : List ℕ) → whole ≡ bytes ++ drop (length bytes) whole → length bytes < length whole → (found : Result Bool NoMemory)
    → IfOk found (λ b. b ≡ true → IsAnswer command saids whole) → IfOk found (λ b. b ≡ true → BeginsAnswer command saids bytes)
begins_by command saids bytes whole is longer (Ok b) answer = λ yes. begins_one command saids bytes whole is longer (answer yes)
begins_by command saids bytes whole is longer (Err refused) answer = tt
