use Rattle.std.proofs.Common.{rules, ◌≡◌, List, [], Some, refl, subst, arith}
use Rattle.std.specs.List.{slice_get}
use Rattle.zy_sessions.specs.declared.line.Line.{Line}
use Rattle.zy_sessions.specs.Sessions.{LineHolds}
use Rattle.zy_sessions.proofs.NoteLemmas.{sessions_none}
use Rattle.zy_check.proofs.ListLemmas.{each_pushed}
use Rattle.zy_sessions.proofs.sessions.Sessions.new.Goals as goal

pub loop-preserved : goal.loop-preserved
loop-preserved c = record {
  size = search rules;
  room = search rules;
  each = λ conn line is.
      each_pushed (λ n. λ y. LineHolds [] n y) c.loop.lines.items c.in_ok-new.field-0 c.loop.invariant.each c.in_ok-new.ensures.none conn line
      (subst (λ (l : List Line). slice_get l conn ≡ Some line) c.push_reserved.ensures.items is);
}

pub returns : goal.returns
returns c = record {
  none =
      let size = c.loop.invariant.size in
      let end = c.loop.auto.counter-end in
      let past = c.loop-test.false in
      sessions_none (record { alloc = c.args.alloc; moment = 0; lines = c.loop.lines; lasting = c.new-2.result }) c.args.count (omega (arith, size, end, past)) refl
      c.loop.invariant.each c.new-2.ensures.empty;
}
