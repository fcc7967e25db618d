use Rattle.zy_explain.proofs.NumberLemmas.{all_more}
use Rattle.zy_explain.proofs.state.State.numbers.Goals as goal

pub loop-conn-preserved : goal.loop-conn-preserved
loop-conn-preserved c =
    all_more c.args.sessions.now c.args.outputs.now.sessions c.args.self.now.rows.items c.loop-conn.conn c.loop-conn.all c.in_ok-line.line c.in_ok-more.more c.loop-conn.invariant c.in_ok-line.ensures.value c.in_ok-more.ensures.value
