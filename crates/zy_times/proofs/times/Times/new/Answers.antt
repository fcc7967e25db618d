use Rattle.std.proofs.Common.{rules, ◌≡◌, List, [], Some, subst}
use Rattle.std.specs.List.{slice_get}
use Rattle.zy_times.specs.declared.line.Line.{Line}
use Rattle.zy_times.specs.Line.{LineHolds}
use Rattle.zy_check.proofs.ListLemmas.{each_pushed}
use Rattle.zy_times.proofs.times.Times.new.Goals as goal

pub loop-preserved : goal.loop-preserved
loop-preserved c = record {
  size = search rules;
  room = search rules;
  each = λ conn line is.
      each_pushed (λ n. λ y. LineHolds [] n y) c.loop.lines.items c.in_ok-new.field-0 c.loop.invariant.each c.in_ok-new.ensures.none conn line
      (subst (λ (l : List Line). slice_get l conn ≡ Some line) c.push_reserved.ensures.items is);
}
