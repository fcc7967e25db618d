use Rattle.std.proofs.Common.{sym, ◌∙◌, subst}
use Rattle.std.specs.Vec.Iter.{into_iter_items}
use Rattle.zy_setup.specs.Progress.{HasMadeCores}
use Rattle.zy_setup.proofs.ListLemmas.{none_left}
use Rattle.zy_setup.proofs.MakeLemmas.{made_none, first_left, next_home, next_passes, made_next, made_all}
use Rattle.zy_setup.proofs.making.Making.add_all.Goals as goal

pub loop-home-init : goal.loop-home-init
loop-home-init c = (
  tt,
  tt,
  subst (λ l. HasMadeCores c.args.shared.now c.args.homes.items c.args.passes.items c.args.self.now l c.args.passes.items) (sym c.into_iter-home-iterator.ensures.into_iter_gives.0)
      (made_none c.args.shared.now c.args.homes.items c.args.passes.items c.args.self.now c.requires.none.0 c.requires.none.1 c.requires.root c.requires.ready),
)

pub add-requires-clause-home : goal.add-requires-clause-home
add-requires-clause-home c =
    next_home c.args.shared.now c.args.homes.items c.args.passes.items c.loop-home.self c.in-Some.home _ c.remove-own.result c.remove-own.new.self.items
    (first_left c.args.shared.now c.args.homes.items c.args.passes.items c.loop-home.self _ _ c.in-Some.home c.loop-home.passes.items c.remove-own.new.self.items c.remove-own.result
    c.loop-home.invariant.2 c.in-Some.ensures.steps.0 c.remove-own.ensures.value c.remove-own.ensures.items) c.requires.ready

pub add-requires-clause-passes : goal.add-requires-clause-passes
add-requires-clause-passes c =
    next_passes c.args.shared.now c.args.homes.items c.args.passes.items c.loop-home.self c.in-Some.home _ c.remove-own.result c.remove-own.new.self.items
    (first_left c.args.shared.now c.args.homes.items c.args.passes.items c.loop-home.self _ _ c.in-Some.home c.loop-home.passes.items c.remove-own.new.self.items c.remove-own.result
    c.loop-home.invariant.2 c.in-Some.ensures.steps.0 c.remove-own.ensures.value c.remove-own.ensures.items) c.requires.ready

pub loop-home-preserved : goal.loop-home-preserved
loop-home-preserved c = (
  tt,
  tt,
  made_next c.args.shared.now c.args.homes.items c.args.passes.items c.loop-home.self c.in-Some.home _ c.remove-own.result c.remove-own.new.self.items
      (first_left c.args.shared.now c.args.homes.items c.args.passes.items c.loop-home.self _ _ c.in-Some.home c.loop-home.passes.items c.remove-own.new.self.items c.remove-own.result
      c.loop-home.invariant.2 c.in-Some.ensures.steps.0 c.remove-own.ensures.value c.remove-own.ensures.items) c.add.new.self c.in_ok-add.ensures.ok,
)

pub returns : goal.returns
returns c =
    let none = none_left (into_iter_items c.loop-home.home-iterator) (sym c.loop-home.home-iterator.rest.ok.0 ∙ c.in-None.ensures.steps.0) in
    record {
      ok = made_all c.args.shared.now c.args.homes.items c.args.passes.items c.loop-home.self c.loop-home.passes.items c.requires.ready
          (subst (λ l. HasMadeCores c.args.shared.now c.args.homes.items c.args.passes.items c.loop-home.self l c.loop-home.passes.items) none c.loop-home.invariant.2);
    }
