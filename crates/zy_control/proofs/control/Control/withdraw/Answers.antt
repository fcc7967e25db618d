use Rattle.std.proofs.Common.{◌≡◌, arith, rules, sym, ap, ◌∙◌, subst}
use Rattle.std.specs.Int.{bit_at}
use Rattle.std.specs.Int.Bits.{bit_and}
use Rattle.zy_control.specs.declared.view.Role.{Role}
use Rattle.zy_control.specs.View.{number_of, HasBit}
use Rattle.zy_control.specs.Pass.{Held}
use Rattle.zy_control.specs.Step.{Seated}
use Rattle.zy_control.proofs.SleepLemmas.{others}
use Rattle.zy_control.proofs.SeatLemmas.{withdraws_as, cleared_own}
use Rattle.zy_control.proofs.control.Control.withdraw.Goals as goal

pub fetch_and-requires : goal.fetch_and-requires
fetch_and-requires c =
    let wide = c.self.invariant.0 in
    (search rules, omega arith, withdraws_as _ _ _ c.pass.inside.number c.pass.inside.counted c.pass.inside.seat.me c.pass.invariant.0 c.pass.invariant.1 (search rules))

pub returns-clause-cleared : goal.returns-clause-cleared
returns-clause-cleared c =
    let role = ap (λ (h : Held). h.role) c.pass.view_is in
    ap (λ (m : Seated). bit_at m.0.trace.sleepers.value (number_of c.args.pass.now.role)) c.fetch_and.ensures.2
    ∙ subst (λ (r : Role). bit_at (bit_and c.fetch_and.result (others c.pass.inside.number)) (number_of r) ≡ 0) role
    (cleared_own c.fetch_and.result c.pass.inside.number c.pass.inside.counted c.pass.inside.seat.me.0.role c.pass.invariant.1 (subst HasBit (sym role) c.requires.core))
