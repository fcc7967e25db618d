use Rattle.std.proofs.Common.{rules, ◌+◌, ℕ, refl, sym, subst, arith}
use Rattle.std.proofs.lemmas.Option.{slice_get_read}
use Rattle.zy_times.specs.Fitting.{FoundUnfitBelow}
use Rattle.zy_times.specs.Spans.{AreSpansBelow}
use Rattle.zy_times.proofs.NumberLemmas.{first_all}
use Rattle.zy_times.proofs.SpanLemmas.{spans_none}
use Rattle.zy_times.proofs.FitLemmas.{unfit_all}
use Rattle.zy_times.proofs.WalkLemmas.{IsPart, held, own_within, own_is, next_is, unfit_next, spans_next}
use Rattle.zy_times.proofs.walk.walk_sessions.Goals as goal

pub loop-at-init : goal.loop-at-init
loop-at-init c = λ r conn h is. record {
  first = refl;
  spans = spans_none r conn _ (search rules);
  unfit = λ moment session low. absurd (omega arith);
}

pub slice_bounds-own-end : goal.slice_bounds-own-end
slice_bounds-own-end c =
    let h = c.requires.holds in
    let s = c.index-session.result.now in
    let p : IsPart h.0 h.1 c.args.line.now c.args.answered.now c.loop-at.at s c.loop-at.first (c.loop-at.first + c.len.result) = record {
      lines = h.2;
      flags = h.3;
      there = slice_get_read c.args.line.now.sessions.items _ c.loop-at.at s refl (omega (arith, c.len-at-end.ensures, c.loop-at-test.true)) c.index-session.ensures;
      begins = (c.loop-at.invariant h.0 h.1 h.2 h.3).first;
      ends = omega (arith, c.len.ensures);
    } in
    own_within p

pub loop-at-preserved : goal.loop-at-preserved
loop-at-preserved c = λ r conn h is.
    let inv = c.loop-at.invariant r conn h is in
    let s = c.index-session.result.now in
    let at = c.loop-at.at in
    let p : IsPart r conn c.args.line.now c.args.answered.now at s c.loop-at.first (c.loop-at.first + c.len.result) = record {
      lines = h;
      flags = is;
      there = slice_get_read c.args.line.now.sessions.items _ at s refl (omega (arith, c.len-at-end.ensures, c.loop-at-test.true)) c.index-session.ensures;
      begins = inv.first;
      ends = omega (arith, c.len.ensures);
    } in
    record {
      first = next_is p;
      spans = spans_next p c.add_spans.new.spans.items (c.in_ok-add_spans.ensures.more r conn at (held p) (own_is p) inv.spans);
      unfit = subst (FoundUnfitBelow r conn (at + 1)) (sym c.earlier-unfit.ensures.value) (unfit_next p c.loop-at.unfit c.first_unfit.result inv.unfit (c.first_unfit.ensures.found r.records conn at (held p)));
    }

pub returns-clause-spans : goal.returns-clause-spans
returns-clause-spans c = λ r conn h is.
    let size = h.count in
    let past = c.loop-at-test.false in
    let all = first_all r conn c.loop-at.at (omega (arith, size, past, c.len-at-end.ensures)) in
    subst (λ (n : ℕ). AreSpansBelow r conn n c.loop-at.spans.items) all (c.loop-at.invariant r conn h is).spans

pub returns-clause-unfit : goal.returns-clause-unfit
returns-clause-unfit c = λ r conn h is.
    let size = h.count in
    let past = c.loop-at-test.false in
    unfit_all r conn c.loop-at.at c.loop-at.unfit (omega (arith, size, past, c.len-at-end.ensures)) (c.loop-at.invariant r conn h is).unfit
