use Rattle.std.proofs.Common.{rules, ◌≡◌, ◌<◌, ◌/◌, List, length, slice_index_or, slice_set, ◌+◌, arith, refl, subst, ◌∙◌, ap}
use Rattle.std.specs.List.{slice_get}
use Rattle.mc_calls.specs.declared.entry.Entry.{Entry}
use Rattle.zy_journal.specs.Walk.{rests_of, AreHeads, AreQuads, IsTakenAt}
use Rattle.zy_journal.proofs.WalkLemmas.{list_there, entry_there, taken_at, heads_taken, bests_taken, quad_of, group_of}
use Rattle.zy_journal.proofs.rests.Rests.take.Goals as goal

pub bounds-self-inside-shard-2 : goal.bounds-self-inside-shard-2
bounds-self-inside-shard-2 c =
    list_there c.self.inside.histories.now c.self.inside.at c.args.shard c.requires.some.first (rw c.self.view_is c.requires.some.is)

pub overflow_add-self : goal.overflow_add-self
overflow_add-self c =
    let there = entry_there c.self.inside.histories.now c.self.inside.at c.args.shard c.requires.some.first c.index-self-shard.result (rw c.self.view_is c.requires.some.is) in
    let inside : slice_index_or c.self.inside.at c.args.shard 0 < length (slice_index_or c.self.inside.histories.now c.args.shard c.index-self-shard.result) = there.1 in
    search rules

pub overflow_add-at : goal.overflow_add-at
overflow_add-at c =
    let there = entry_there c.self.inside.histories.now c.self.inside.at c.args.shard c.requires.some.first c.index-self-shard.result (rw c.self.view_is c.requires.some.is) in
    let inside : slice_index_or c.self.inside.at c.args.shard 0 < length (slice_index_or c.self.inside.histories.now c.args.shard c.index-self-shard.result) = there.1 in
    search rules

pub entry-requires : goal.entry-requires
entry-requires c =
    let there = entry_there c.self.inside.histories.now c.self.inside.at c.args.shard c.requires.some.first c.index-self-shard.result (rw c.self.view_is c.requires.some.is) in
    record { within = there.1 }

pub invariant_of-self : goal.invariant_of-self
invariant_of-self c =
    let hs = c.self.inside.histories.now in
    let h : List Entry = slice_index_or hs c.args.shard c.index-self-shard.result in
    let there = entry_there hs c.self.inside.at c.args.shard c.requires.some.first c.index-self-shard.result (rw c.self.view_is c.requires.some.is) in
    let at = slice_index_or c.self.inside.at c.args.shard 0 in
    let new = rests_of hs (slice_set c.self.inside.at c.args.shard (at + 1)) in
    let heads : AreHeads new (slice_set c.self.inside.heads c.args.shard c.stamp_at.result) =
    heads_taken hs c.self.inside.at c.args.shard at c.self.inside.heads h c.stamp_at.result c.self.invariant.1 (search rules) (search rules) there.0 c.stamp_at.ensures.value in
    let taken : IsTakenAt c.args.shard (rests_of hs c.self.inside.at) new c.entry.result =
    taken_at hs c.self.inside.at c.args.shard at c.entry.result refl (search rules) (ap (λ (l : List Entry). slice_get l at) there.0 ∙ c.entry.ensures.value) in
    let old = rests_of hs c.self.inside.at in
    let within = c.requires.within in
    let quad = quad_of c.args.shard in
    let few_quads : c.args.shard / 4 < 64 = omega (arith, quad.0, within) in
    let quad_size : length c.self.inside.quads ≡ 64 = search rules in
    let quads : AreQuads new (slice_set c.self.inside.quads (c.args.shard / 4) c.quad_of.result) =
    bests_taken 4 64 old new c.args.shard (c.args.shard / 4) c.entry.result c.self.inside.quads c.quad_of.result c.self.invariant.2 taken (λ g low high. omega (arith, low, high, quad.0, quad.1)) (omega (arith, quad_size, few_quads)) (c.quad_of.ensures.value new heads) in
    let group = group_of c.args.shard in
    let few : c.args.shard / 16 < 16 = omega (arith, group.0, within) in
    let size : length c.self.inside.bests ≡ 16 = search rules in (
      c.self.invariant.0,
      heads,
      quads,
      bests_taken 16 16 old new c.args.shard (c.args.shard / 16) c.entry.result c.self.inside.bests c.best_of.result c.self.invariant.3 taken (λ g low high. omega (arith, low, high, group.0, group.1)) (omega (arith, size, few)) (c.best_of.ensures.value new quads),
    )

pub returns : goal.returns
returns c =
    let hs = c.self.inside.histories.now in
    let at = slice_index_or c.self.inside.at c.args.shard 0 in
    let there = entry_there hs c.self.inside.at c.args.shard c.requires.some.first c.index-self-shard.result (rw c.self.view_is c.requires.some.is) in
    record {
      value = subst (λ old. IsTakenAt c.args.shard old (rests_of hs (slice_set c.self.inside.at c.args.shard (at + 1))) c.entry.result) c.self.view_is
          (taken_at hs c.self.inside.at c.args.shard at c.entry.result refl (search rules) (ap (λ (l : List Entry). slice_get l at) there.0 ∙ c.entry.ensures.value));
    }
