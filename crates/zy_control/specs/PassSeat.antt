-- The seats of roots and passes between two calls. No public clause cites this module.
use Rattle.std.specs.Prelude.{◌≡◌, ℕ, [], Bool, false}
use Rattle.zy_control.specs.declared.view.Role.{Role}
use Rattle.zy_control.specs.declared.view.Role.TheVariants.{Root, Core, Watcher}
use Rattle.zy_control.specs.Step.{Seated}

-- the seat of a root
abbrev pub IsRootSeat : ℕ → ℕ → Seated → Type 0
IsRootSeat given cores m = (m.1 ≡ []) × (m.0.role ≡ Root given) × (m.0.cores ≡ cores)

-- the role is that of a watcher, or of the core with this number, and `has` says whether it has
-- counted itself
abbrev pub IsPassRole : ℕ → Bool → Role → Type 0
IsPassRole number has (Root given) = ⊥
IsPassRole number has (Core n counted announced) = (number ≡ n) × (has ≡ counted)
IsPassRole number has Watcher = (number ≡ 0) × (has ≡ false)

-- the seat of a pass
abbrev pub IsPassSeat : ℕ → ℕ → Bool → Seated → Type 0
IsPassSeat number cores has m = (m.1 ≡ []) × IsPassRole number has m.0.role × (m.0.cores ≡ cores)
