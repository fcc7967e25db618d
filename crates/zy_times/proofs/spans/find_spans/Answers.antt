use Rattle.std.specs.List.{slice_get}
use Rattle.std.proofs.Common.{rules, ◌≡◌, ◌+◌, ℕ, List, Some, length, sym, ◌∙◌, subst, arith}
use Rattle.zy_run.specs.Commands.{commands_in}
use Rattle.zy_times.specs.Fitting.{FoundUnfitConnection}
use Rattle.zy_times.specs.Spans.{AreSpansBelow}
use Rattle.zy_times.proofs.FirstLemmas.{each_next}
use Rattle.zy_times.proofs.FitLemmas.{unfit_connections}
use Rattle.zy_times.proofs.SpanLemmas.{line_there}
use Rattle.zy_times.proofs.spans.find_spans.Goals as goal

pub walk_sessions-requires : goal.walk_sessions-requires
walk_sessions-requires c =
    let h = c.requires.kept in
    let there = line_there h.0 h.1 c.args.times.now c.args.answered.now h.2 c.loop-conn.conn c.index.result.now c.of.result.now (omega (arith, c.len-conn-end.ensures, c.loop-conn-test.true)) c.index.ensures c.of.ensures.value in
    record { holds = (h.0, c.loop-conn.conn, there.0, there.1) }

pub loop-conn-preserved : goal.loop-conn-preserved
loop-conn-preserved c =
    let inv = c.loop-conn.invariant in
    let conn = c.loop-conn.conn in
    let low = c.loop-conn-test.true in
    let len = c.len-conn-end.ensures in
    record {
      size = search rules;
      room = search rules;
      within = omega (arith, low, len);
      each = λ r count kept at line is.
          let there = line_there r count c.args.times.now c.args.answered.now kept conn c.index.result.now c.of.result.now (omega (arith, low, len)) c.index.ensures c.of.ensures.value in
          let here = c.in_ok-found.ensures.spans r conn there.0 there.1 in
          each_next (λ n l. AreSpansBelow r n (length (commands_in r.records n)) l.items) c.loop-conn.lines.items c.in_ok-found.found.spans (inv.each r count kept)
          (subst (λ (n : ℕ). AreSpansBelow r n (length (commands_in r.records n)) c.in_ok-found.found.spans.items) (sym inv.size) here) at line
          (subst (λ (l : List _). slice_get l at ≡ Some line) c.push_reserved.ensures.items is);
      unfit = λ r count kept.
          let there = line_there r count c.args.times.now c.args.answered.now kept conn c.index.result.now c.of.result.now (omega (arith, low, len)) c.index.ensures c.of.ensures.value in
          let here = c.in_ok-found.ensures.unfit r conn there.0 there.1 in
          subst (FoundUnfitConnection r (conn + 1)) (sym c.earlier-unfit.ensures.value) (unfit_connections r conn c.loop-conn.unfit c.in_ok-found.found.unfit (inv.unfit r count kept) here);
    }

pub returns : goal.returns
returns c = record {
  spans = λ r count kept.
      let inv = c.loop-conn.invariant in
      let all : c.loop-conn.conn ≡ count = omega (arith, inv.within, c.len-conn-end.ensures, c.loop-conn-test.false, kept.times_hold.count_is) in
      record {
        size = inv.size ∙ all;
        each = inv.each r count kept;
        unfit = subst (λ (n : ℕ). FoundUnfitConnection r n c.loop-conn.unfit) all (inv.unfit r count kept);
      };
}
