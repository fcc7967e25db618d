use Rattle.std.proofs.Common.{rules, ◌≡◌, Some, subst}
use Rattle.std.specs.List.{slice_get}
use Rattle.zy_check.proofs.ListLemmas.{each_pushed}
use Rattle.zy_explain.specs.Following.{IsFreshTrack}
use Rattle.zy_explain.proofs.row.Row.new.Goals as goal

pub loop-preserved : goal.loop-preserved
loop-preserved c = record {
  size = search rules;
  room = search rules;
  fresh = λ session t is.
      each_pushed (λ n. IsFreshTrack) c.loop.tracks.items _ c.loop.invariant.fresh (λ k. c.new.ensures.none) session t
      (subst (λ l. slice_get l session ≡ Some t) c.push_reserved.ensures.items is);
}
