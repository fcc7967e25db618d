use Rattle.std.proofs.Common.{◌≡◌, ℕ, ◌+◌, drop}
use Rattle.mc_meta.specs.Words.{words_at}
use Rattle.mc_meta.proofs.word.count_spaces.Given as goal

-- the words that are left are all words, wherever the text begins
abbrev pub invariant-loop-count : goal.invariant-loop-count
invariant-loop-count l = (at : ℕ) → words_at (at + l.count) (drop l.count l.text) ≡ words_at at l.text
