-- The steps at a seat whose parts are known.
use Rattle.std.proofs.Common.{◌≡◌, ℕ, ◌+◌, ◌%◌, ◌^◌, ◌<◌, Bool, [], sym, ap, ◌∙◌, subst, arith, w64}
use Rattle.std.specs.Int.{bit_at}
use Rattle.std.proofs.lemmas.Nat.Bits.{bit_at_set_same, bit_at_clear_same}
use Rattle.std.specs.Int.Bits.{bit_or, bit_and}
use Rattle.atomic_table.specs.Table.{Allows, Splits}
use Rattle.zy_control.specs.declared.view.Role.TheVariants.{Root, Core, Watcher}
use Rattle.zy_control.specs.declared.view.Role.{Role}
use Rattle.zy_control.specs.declared.view.View.{View}
use Rattle.zy_control.specs.View.{view, number_of, HasBit, IsUncounted, gave, newcomer}
use Rattle.zy_control.specs.ControlRule.{ControlRule}
use Rattle.zy_control.specs.Step.{Seated, counts, sees_done, sees_stop, stops, announces, withdraws, sees_sleepers}
use Rattle.zy_control.specs.PassSeat.{IsPassRole}
use Rattle.zy_control.proofs.SleepLemmas.{bit_of, others, IsNumbered, announces_allowed, withdraws_allowed, sees_sleepers_allowed}
use Rattle.zy_control.proofs.MoveLemmas.{counts_allowed, sees_done_allowed, sees_stop_allowed, stops_allowed, gives_allowed}

pub counts_as : (n slots id : ℕ) (m : Seated) → m.1 ≡ [] → IsUncounted m.0.role → Allows (ControlRule n) slots id m 0 (λ y. (y + 1) % 2 ^ 64) (λ r w. counts m r w)
counts_as n slots id m e is = subst (λ l. Allows (ControlRule n) slots id (m.0, l) 0 (λ y. (y + 1) % 2 ^ 64) (λ r w. counts (m.0, l) r w)) (sym e) (counts_allowed n slots id m.0 is)

pub sees_done_as : (n slots id : ℕ) (m : Seated) → m.1 ≡ [] → Allows (ControlRule n) slots id m 0 (λ y. y) (λ r w. sees_done m r w)
sees_done_as n slots id m e = subst (λ l. Allows (ControlRule n) slots id (m.0, l) 0 (λ y. y) (λ r w. sees_done (m.0, l) r w)) (sym e) (sees_done_allowed n slots id m.0)

pub sees_stop_as : (n slots id : ℕ) (m : Seated) → m.1 ≡ [] → Allows (ControlRule n) slots id m 1 (λ y. y) (λ r w. sees_stop m r w)
sees_stop_as n slots id m e = subst (λ l. Allows (ControlRule n) slots id (m.0, l) 1 (λ y. y) (λ r w. sees_stop (m.0, l) r w)) (sym e) (sees_stop_allowed n slots id m.0)

pub stops_as : (n slots id mask : ℕ) (m : Seated) → m.1 ≡ [] → Allows (ControlRule n) slots id m 1 (λ y. bit_or y mask) (λ r w. stops mask m r w)
stops_as n slots id mask m e = subst (λ l. Allows (ControlRule n) slots id (m.0, l) 1 (λ y. bit_or y mask) (λ r w. stops mask (m.0, l) r w)) (sym e) (stops_allowed n slots id mask m.0)

pub gives_as : (n id given : ℕ) (v : View) → v.role ≡ Root given → given < n → Splits (ControlRule n) id v (gave v) (newcomer v)
gives_as n id given v e lt = subst (λ r. Splits (ControlRule n) id (view r v.cores v.trace) (gave (view r v.cores v.trace)) (newcomer (view r v.cores v.trace))) (sym e) (gives_allowed n id given v.cores v.trace lt)

-- a pass whose core has a bit is of the core with its number
numbered : (number : ℕ) (has : Bool) (r : Role) → IsPassRole number has r → HasBit r → IsNumbered number r × (number < 64)
numbered number has (Root given) of bit = absurd of
numbered number has (Core n counted announced) of bit = let same = of.0 in (of.0, omega arith)
numbered number has Watcher of bit = absurd bit

pub announces_as : (n slots id number : ℕ) (has : Bool) (m : Seated) → m.1 ≡ [] → IsPassRole number has m.0.role → HasBit m.0.role
    → Allows (ControlRule n) slots id m 2 (λ y. bit_or y (bit_of number)) (λ r w. announces (bit_of number) m r w)
announces_as n slots id number has m e of bit =
    let is = numbered number has m.0.role of bit in
    subst (λ l. Allows (ControlRule n) slots id (m.0, l) 2 (λ y. bit_or y (bit_of number)) (λ r w. announces (bit_of number) (m.0, l) r w)) (sym e)
    (announces_allowed n slots id number m.0 is.0 is.1)

pub withdraws_as : (n slots id number : ℕ) (has : Bool) (m : Seated) → m.1 ≡ [] → IsPassRole number has m.0.role → HasBit m.0.role
    → Allows (ControlRule n) slots id m 2 (λ y. bit_and y (others number)) (λ r w. withdraws (others number) m r w)
withdraws_as n slots id number has m e of bit =
    let is = numbered number has m.0.role of bit in
    subst (λ l. Allows (ControlRule n) slots id (m.0, l) 2 (λ y. bit_and y (others number)) (λ r w. withdraws (others number) (m.0, l) r w)) (sym e)
    (withdraws_allowed n slots id number m.0 is.0 is.1)

pub sees_sleepers_as : (n slots id : ℕ) (m : Seated) → m.1 ≡ [] → Allows (ControlRule n) slots id m 2 (λ y. y) (λ r w. sees_sleepers m r w)
sees_sleepers_as n slots id m e = subst (λ l. Allows (ControlRule n) slots id (m.0, l) 2 (λ y. y) (λ r w. sees_sleepers (m.0, l) r w)) (sym e) (sees_sleepers_allowed n slots id m.0)

-- the own bit after these steps
pub set_own : (y number : ℕ) (has : Bool) (r : Role) → IsPassRole number has r → HasBit r → bit_at (bit_or y (bit_of number)) (number_of r) ≡ 1
set_own y number has (Root given) of bit = absurd of
set_own y number has (Core n counted announced) of bit = let same = of.0 in
    ap (bit_at (bit_or y (bit_of number))) (sym same) ∙ bit_at_set_same w64 y number (omega arith)
set_own y number has Watcher of bit = absurd bit

pub cleared_own : (y number : ℕ) (has : Bool) (r : Role) → IsPassRole number has r → HasBit r → bit_at (bit_and y (others number)) (number_of r) ≡ 0
cleared_own y number has (Root given) of bit = absurd of
cleared_own y number has (Core n counted announced) of bit = let same = of.0 in
    ap (bit_at (bit_and y (others number))) (sym same) ∙ bit_at_clear_same w64 y number (omega arith)
cleared_own y number has Watcher of bit = absurd bit
