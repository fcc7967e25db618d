use Rattle.std.proofs.Common.{◌+◌, ◌<◌, List, [], ◌∷◌, ◌++◌, sym, ap, ◌∙◌, subst, arith}
use Rattle.mc_calls.specs.declared.hold.Hold.{Hold}
use Rattle.zy_conn.specs.Work.{Mark, Worked}
use Rattle.zy_conn.specs.Block.{Blocked}
use Rattle.zy_conn.specs.Hold.{hold_by}
use Rattle.zy_conn.proofs.HoldLemmas.{holds_more}
use Rattle.zy_conn.proofs.block.Block.hold.Goals as goal

pub invariant_of-self-then-count-gt0 : goal.invariant_of-self-then-count-gt0
invariant_of-self-then-count-gt0 g c =
    let same = ap (λ (m : Mark). m.0) c.carry_out-count.ensures.goes.mark ∙ ap (λ (w : Worked). w.conn) c.deref_mut.ensures.value in
    let count = c.carry_out-count.ensures.count ∙ ap (λ (w : Worked). w.finished + c.carry_out-count.result.0) c.deref_mut.ensures.value in
    let limit = c.carry_out-count.ensures.limit in
    let some = c.if-count-gt0.true in
    let core = subst (λ (b : Blocked). c.args.core < b.cores) (sym c.self.view_is) c.requires.core in
    holds_more c.self.inside.cores c.self.inside.work.value.conn c.carry_out-count.new.work.conn c.self.inside.work.value.finished c.carry_out-count.new.work.finished c.self.inside.holds.items c.push_reserved.new.self.items
    (hold_by c.args.core c.conn-conn.result c.carry_out-count.result.0) c.self.invariant same
    (◌∙◌ {A = List Hold} c.push_reserved.ensures.items (ap (λ (l : List Hold). l ++ hold_by c.args.core c.conn-conn.result c.carry_out-count.result.0 ∷ []) c.reserve.ensures.items))
    count (record { some = omega arith; limit = limit; core_is = core; conn_is = c.conn-conn.ensures.value ∙ ap (λ (w : Worked). w.conn) c.deref.ensures })
