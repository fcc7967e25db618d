use Rattle.std.proofs.Common.{◌≡◌, List, length, ap, arith, rules}
use Rattle.std.specs.Vec.Iter.{into_iter_items}
use Rattle.zy_home.specs.Home.{Homed}
use Rattle.zy_setup.specs.declared.own_connections.OwnConnections.{OwnConnections}
use Rattle.zy_setup.specs.Make.{IsOwnOf}
use Rattle.zy_setup.proofs.MadeLemmas.{made_none, first_left, others_left, all_left}
use Rattle.zy_setup.proofs.core_parts.CoreParts.add_all.Goals as goal

pub loop-own-init : goal.loop-own-init
loop-own-init c =
    let all : into_iter_items c.into_iter-own-iterator.result ≡ c.args.owns.items = search rules in
    let none : length c.args.self.now.homes.items ≡ 0 = ap (λ (l : List Homed). length l) c.requires.none.0 in
    let size = ap (λ (l : List OwnConnections). length l) all in
    let count = c.requires.owns.count in (
      tt,
      tt,
      made_none c.args.store.now.id c.args.cores c.args.count c.args.self.now c.requires.none.0 c.requires.none.1 c.requires.passes,
      (omega arith),
      all_left (λ n own. IsOwnOf c.args.store.now.id n c.args.cores c.args.count own) c.args.owns.items (into_iter_items c.into_iter-own-iterator.result) (length c.args.self.now.homes.items)
          all none c.requires.owns.each,
    )

pub add-requires-clause-own : goal.add-requires-clause-own
add-requires-clause-own c =
    first_left (λ n own. IsOwnOf c.args.store.now.id n c.args.cores c.args.count own) (into_iter_items c.loop-own.own-iterator) (into_iter_items c.next.new.self) c.in-Some.own
    (length c.loop-own.self.homes.items) c.in-Some.ensures.steps.0 c.loop-own.invariant.4

pub loop-own-preserved : goal.loop-own-preserved
loop-own-preserved c =
    let size = ap (λ (l : List OwnConnections). length l) c.in-Some.ensures.steps.0 in
    let one = c.in_ok-add.ensures.one in
    let sum = c.loop-own.invariant.3 in (
      tt,
      tt,
      c.in_ok-add.ensures.made,
      (omega arith),
      others_left (λ n own. IsOwnOf c.args.store.now.id n c.args.cores c.args.count own) (into_iter_items c.loop-own.own-iterator) (into_iter_items c.next.new.self) c.in-Some.own
          (length c.loop-own.self.homes.items) (length c.add.new.self.homes.items) c.in-Some.ensures.steps.0 one c.loop-own.invariant.4,
    )
