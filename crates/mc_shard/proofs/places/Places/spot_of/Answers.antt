use Rattle.std.proofs.Common.{◌≡◌, ◌<◌, List, length, set, slice_get, sym, ap, subst, ◌∙◌, arith}
use Rattle.std.specs.Prelude.{Some, is_some, IfOk}
use Rattle.mc_shard.specs.Places.{Held, Table, table, place_in, marked_at, AreLines, HasRoom, IsSpot}
use Rattle.mc_shard.proofs.PlaceLemmas.{got_at, marked_some}
use Rattle.mc_shard.proofs.TableLemmas.{room_slot, spot_slot, spot_tree, spot_none, room_table, room_same, room_new, spot_new}
use Rattle.mc_shard.proofs.places.Places.spot_of.Goals as goal
use Rattle.mc_shard.proofs.places.Places.spot_of.Goals.{in-Ok, in-Err}

pub returns-in-Some-clause-room : goal.returns-in-Some-clause-room
returns-in-Some-clause-room g c =
    let stored = g.S.Stored.stored c.args.stored.now in
    let shift = c.self.inside.shift in
    let lines : List Held = c.self.inside.lines.items in
    let tree = c.self.inside.tree.entries in
    let n = c.line-at.result in
    let are : AreLines stored lines = subst (λ (t : Table). AreLines stored t.lines) (sym c.self.view_is) c.requires.lines in
    let below : n < length lines = omega (arith, c.if-at-len.false, c.len.ensures, c.self.inside.lines.ok.0) in
    let line : Held = c.index-line.result.now in
    let there : slice_get lines n ≡ Some line = got_at lines n line below c.index-line.ensures in
    rw (← c.self.view_is) (room_slot stored shift lines tree c.args.key.now are c.self.invariant n line c.line-at.ensures.value there c.in-Some.slot below c.in-Some.ensures.within)

pub returns-in-Some-clause-spot : goal.returns-in-Some-clause-spot
returns-in-Some-clause-spot g c =
    let stored = g.S.Stored.stored c.args.stored.now in
    let shift = c.self.inside.shift in
    let lines : List Held = c.self.inside.lines.items in
    let tree = c.self.inside.tree.entries in
    let n = c.line-at.result in
    let are : AreLines stored lines = subst (λ (t : Table). AreLines stored t.lines) (sym c.self.view_is) c.requires.lines in
    let below : n < length lines = omega (arith, c.if-at-len.false, c.len.ensures, c.self.inside.lines.ok.0) in
    let line : Held = c.index-line.result.now in
    let there : slice_get lines n ≡ Some line = got_at lines n line below c.index-line.ensures in
    rw (← c.self.view_is) (spot_slot stored shift lines tree c.args.key.now are c.self.invariant n line c.line-at.ensures.value there c.in-Some.slot c.in-Some.ensures.within c.in-Some.ensures.some)

pub in_tree-requires : goal.in_tree-requires
in_tree-requires g c =
    let stored = g.S.Stored.stored c.args.stored.now in
    let shift = c.self.inside.shift in
    let lines : List Held = c.self.inside.lines.items in
    let tree = c.self.inside.tree.entries in
    let n = c.line-at.result in
    let are : AreLines stored lines = subst (λ (t : Table). AreLines stored t.lines) (sym c.self.view_is) c.requires.lines in
    let below : n < length lines = omega (arith, c.if-at-len.false, c.len.ensures, c.self.inside.lines.ok.0) in
    let line : Held = c.index-line.result.now in
    let there : slice_get lines n ≡ Some line = got_at lines n line below c.index-line.ensures in
    rw (← c.self.view_is) (record { mark = c.is_marked-marked.ensures.value ∙ sym (marked_some lines n line there) ∙ ap (marked_at lines) c.line-at.ensures.value })

pub returns-then-is_some-clause-spot : goal.returns-then-is_some-clause-spot
returns-then-is_some-clause-spot g c =
    let stored = g.S.Stored.stored c.args.stored.now in
    let shift = c.self.inside.shift in
    let lines : List Held = c.self.inside.lines.items in
    let tree = c.self.inside.tree.entries in
    let n = c.line-at.result in
    let are : AreLines stored lines = subst (λ (t : Table). AreLines stored t.lines) (sym c.self.view_is) c.requires.lines in
    let below : n < length lines = omega (arith, c.if-at-len.false, c.len.ensures, c.self.inside.lines.ok.0) in
    let line : Held = c.index-line.result.now in
    let there : slice_get lines n ≡ Some line = got_at lines n line below c.index-line.ensures in
    let found = c.in_tree.ensures.value ∙ ap (λ (t : Table). place_in t.tree c.args.key.now) (sym c.self.view_is) in
    rw (← c.self.view_is) (spot_tree stored shift lines tree c.args.key.now are c.self.invariant n line c.line-at.ensures.value there c.in_default.ensures.none (ap is_some (sym found) ∙ sym c.is_some.ensures ∙ c.if-is_some.true))

pub invariant_of-self : goal.invariant_of-self
invariant_of-self g c =
    let stored = g.S.Stored.stored c.args.stored.now in
    let shift = c.self.inside.shift in
    let lines : List Held = c.self.inside.lines.items in
    let tree = c.self.inside.tree.entries in
    let n = c.line-at.result in
    let are : AreLines stored lines = subst (λ (t : Table). AreLines stored t.lines) (sym c.self.view_is) c.requires.lines in
    let below : n < length lines = omega (arith, c.if-at-len.false, c.len.ensures, c.self.inside.lines.ok.0) in
    let mine : Held = c.index_mut.result.now in
    let here : slice_get lines n ≡ Some mine = got_at lines n mine below c.index_mut.ensures.value in
    room_table stored shift n lines mine c.make_room.new.line tree c.make_room.new.tree.entries c.self.invariant here c.make_room.ensures.same

pub returns-clause-same : goal.returns-clause-same
returns-clause-same g c =
    let stored = g.S.Stored.stored c.args.stored.now in
    let shift = c.self.inside.shift in
    let lines : List Held = c.self.inside.lines.items in
    let tree = c.self.inside.tree.entries in
    let n = c.line-at.result in
    let are : AreLines stored lines = subst (λ (t : Table). AreLines stored t.lines) (sym c.self.view_is) c.requires.lines in
    let below : n < length lines = omega (arith, c.if-at-len.false, c.len.ensures, c.self.inside.lines.ok.0) in
    let mine : Held = c.index_mut.result.now in
    let here : slice_get lines n ≡ Some mine = got_at lines n mine below c.index_mut.ensures.value in
    rw (← c.self.view_is) (room_same stored shift n lines mine c.make_room.new.line tree c.make_room.new.tree.entries c.self.invariant here c.make_room.ensures.same are)

pub returns-clause-room : goal.returns-clause-room
returns-clause-room g c =
    let stored = g.S.Stored.stored c.args.stored.now in
    let shift = c.self.inside.shift in
    let lines : List Held = c.self.inside.lines.items in
    let tree = c.self.inside.tree.entries in
    let n = c.line-at.result in
    let are : AreLines stored lines = subst (λ (t : Table). AreLines stored t.lines) (sym c.self.view_is) c.requires.lines in
    let below : n < length lines = omega (arith, c.if-at-len.false, c.len.ensures, c.self.inside.lines.ok.0) in
    let mine : Held = c.index_mut.result.now in
    let here : slice_get lines n ≡ Some mine = got_at lines n mine below c.index_mut.ensures.value in
    let after : Table = table shift (set lines n c.make_room.new.line) c.make_room.new.tree.entries in
    elim c.match-make_room.branch [
      | in-Ok w ↦ subst (λ r. IfOk r (HasRoom after c.args.key.now)) (sym w.result-is) (room_new stored shift n lines mine c.make_room.new.line tree c.make_room.new.tree.entries c.self.invariant here c.make_room.ensures.same c.args.key.now c.line-at.ensures.value below w.in-Ok.ensures.room)
      | in-Err w ↦ subst (λ r. IfOk r (HasRoom after c.args.key.now)) (sym w.result-is) tt
    ]

pub returns-clause-spot : goal.returns-clause-spot
returns-clause-spot g c =
    let stored = g.S.Stored.stored c.args.stored.now in
    let shift = c.self.inside.shift in
    let lines : List Held = c.self.inside.lines.items in
    let tree = c.self.inside.tree.entries in
    let n = c.line-at.result in
    let are : AreLines stored lines = subst (λ (t : Table). AreLines stored t.lines) (sym c.self.view_is) c.requires.lines in
    let below : n < length lines = omega (arith, c.if-at-len.false, c.len.ensures, c.self.inside.lines.ok.0) in
    let line : Held = c.index-line.result.now in
    let there : slice_get lines n ≡ Some line = got_at lines n line below c.index-line.ensures in
    let mine : Held = c.index_mut.result.now in
    let here : slice_get lines n ≡ Some mine = got_at lines n mine below c.index_mut.ensures.value in
    let found = c.in_tree.ensures.value ∙ ap (λ (t : Table). place_in t.tree c.args.key.now) (sym c.self.view_is) in
    let none = spot_none stored shift lines tree c.args.key.now are c.self.invariant n line c.line-at.ensures.value there c.in_default.ensures.none (ap is_some (sym found) ∙ sym c.is_some.ensures ∙ c.if-is_some.false) in
    let after : Table = table shift (set lines n c.make_room.new.line) c.make_room.new.tree.entries in
    elim c.match-make_room.branch [
      | in-Ok w ↦ subst (λ r. IfOk r (IsSpot stored after c.args.key.now)) (sym w.result-is) (spot_new stored shift n lines mine c.make_room.new.line tree c.make_room.new.tree.entries c.self.invariant here c.make_room.ensures.same c.args.key.now are none)
      | in-Err w ↦ subst (λ r. IfOk r (IsSpot stored after c.args.key.now)) (sym w.result-is) tt
    ]
