use Rattle.std.proofs.Common.{ℕ, List, subst, sym, refl, length, arith}
use Rattle.std.proofs.lemmas.Option.{slice_get_read}
use Rattle.zy_explain.specs.Following.{RowSettles}
use Rattle.zy_explain.proofs.ByLemmas.{ended_some}
use Rattle.zy_explain.proofs.state.State.settle_one.Goals as goal

pub returns : goal.returns
returns c =
    let old = c.args.self.now in
    let rows = old.rows.items in
    let s = c.in-Some.session.now in
    let row = c.index_mut.result.now in
    let other = c.settle.new.self in
    let within = c.if-conn-len.false in
    let long = c.len.ensures in
    record {
      stands = λ done lasting began stands. ended_some c.args.rules lasting c.args.sessions.now c.args.outputs.now.sessions began old _ c.args.conn c.args.number s row other
          (sym c.in-Some.ensures.value)
          (slice_get_read rows (length rows) c.args.conn row refl (omega (arith, within, long)) c.index_mut.ensures.value)
          (subst (λ (o : List ℕ). RowSettles c.args.rules s o row other c.args.number) c.output_of-output.ensures.value (c.in_ok-done.ensures.settled done))
          refl refl refl stands;
    }
