use Rattle.std.proofs.Common.{◌≡◌, ◌<◌, ℕ, List}
use Rattle.std.specs.Prelude.{slice_get, Some}
use Rattle.mc_shown.proofs.keyed.is_once.Given as goal

-- the keys so far are others
abbrev pub invariant-loop-j : goal.invariant-loop-j
invariant-loop-j l = (k : ℕ) → k < l.j → (key : List ℕ) → slice_get l.keys l.i ≡ Some key → slice_get l.keys k ≡ Some key → k ≡ l.i
