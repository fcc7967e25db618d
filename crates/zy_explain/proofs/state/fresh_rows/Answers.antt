use Rattle.std.proofs.Common.{rules, ℕ, subst}
use Rattle.zy_explain.specs.Following.{IsFreshRow}
use Rattle.zy_explain.proofs.StateLemmas.{fresh_more}
use Rattle.zy_explain.proofs.state.fresh_rows.Goals as goal

pub loop-conn-preserved : goal.loop-conn-preserved
loop-conn-preserved c = record {
  room = search rules;
  fresh = fresh_more c.args.sessions.now c.loop-conn.conn c.loop-conn.rows.items c.push_reserved.new.self.items c.in_ok-new.field-0 c.push_reserved.ensures.items c.loop-conn.invariant.fresh
      (subst (λ (n : ℕ). IsFreshRow n c.in_ok-new.field-0) c.sessions_on.ensures.value c.in_ok-new.ensures.fresh);
}
