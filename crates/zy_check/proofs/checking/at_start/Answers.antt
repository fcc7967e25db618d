use Rattle.std.proofs.Common.{rules, ◌≡◌, List, [], Some, subst}
use Rattle.std.specs.List.{slice_get}
use Rattle.zy_check.specs.declared.track.Track.{Track}
use Rattle.zy_check.specs.Track.{HasMadeCalls}
use Rattle.zy_check.proofs.ListLemmas.{each_pushed}
use Rattle.zy_check.proofs.checking.at_start.Goals as goal

pub loop-preserved : goal.loop-preserved
loop-preserved c = record {
  size = search rules;
  room = search rules;
  each = λ g. λ conn. λ t. λ is.
      each_pushed (λ n. λ y. HasMadeCalls g n y []) c.loop.tracks.items c.new.result (c.loop.invariant.each g) (c.new.ensures.none g) conn t
      (subst (λ (l : List Track). slice_get l conn ≡ Some t) c.push_reserved.ensures.items is);
}
