use Rattle.std.proofs.Common.{◌≡◌, ◌<◌, ◌≤◌, ℕ}
use Rattle.std.specs.Prelude.{slice_get, option_map}
use Rattle.zy_shuffle.specs.Pass.{newly_given}
use Rattle.zy_setup.specs.Make.{with_further_pass}
use Rattle.zy_setup.proofs.making_rings.give_passes.Given as goal

-- the cores before this one have their passes, and the others what they had
abbrev pub invariant-loop-other : goal.invariant-loop-other
invariant-loop-other l = record {
  table : l.home.table ≡ l.ring.id;
  home : l.home ≡ record l.fn.home { out = l.home.out };
  done : (k : ℕ) → k < l.other → slice_get l.passes k ≡ option_map (with_further_pass l.core (newly_given l.fn.home) k) (slice_get l.fn.passes k);
  rest : (k : ℕ) → l.other ≤ k → slice_get l.passes k ≡ slice_get l.fn.passes k;
}
