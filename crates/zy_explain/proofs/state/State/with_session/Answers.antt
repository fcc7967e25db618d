use Rattle.std.proofs.Common.{◌≡◌, ℕ, List, true, subst, sym, arith}
use Rattle.zy_explain.specs.Ending.{EndsRight}
use Rattle.zy_explain.proofs.NumberLemmas.{adds_by}
use Rattle.zy_explain.proofs.state.State.with_session.Goals as goal

pub returns : goal.returns
returns c =
    let s = c.in_ok-session.session.now in
    let t = c.in_ok-track.track.now in
    let is : c.is_at_end.result ≡ true = let f = c.if-not-is_at_end.false in grind (arith, f) in
    record {
      value = adds_by c.args.sessions.now c.args.outputs.now.sessions c.args.self.now.rows.items c.args.conn c.args.number c.args.before c.own_numbers.result s t
          (sym c.in_ok-session.ensures.value) (sym c.in_ok-track.ensures.value)
          (subst (λ (o : List ℕ). EndsRight s o t) c.output_of-output.ensures.value (c.is_at_end.ensures.end is))
          c.own_numbers.ensures.commands c.own_numbers.ensures.ended c.both.result c.both.ensures.value;
    }
