use Rattle.std.proofs.Common.{◌≡◌, ◌<◌, ◌≤◌, List, length, slice_get, sym, subst, arith}
use Rattle.std.specs.Prelude.{Some}
use Rattle.mc_shard.specs.Places.{Held, Table, table, all_keys, AreLines}
use Rattle.mc_shard.proofs.PlaceLemmas.{got_at}
use Rattle.mc_shard.proofs.TableLemmas.{place_out, out_table, out_with, without}
use Rattle.mc_shard.proofs.places.Places.remove.Goals as goal

pub invariant_of-self : goal.invariant_of-self
invariant_of-self g c =
    let stored = g.S.Stored.stored c.args.stored.now in
    let shift = c.self.inside.shift in
    let lines : List Held = c.self.inside.lines.items in
    let tree = c.self.inside.tree.entries in
    let n = c.line-at.result in
    let are : AreLines stored lines = subst (λ (t : Table). AreLines stored t.lines) (sym c.self.view_is) c.requires.lines in
    let below : n < length lines = omega (arith, c.if-at-len.true, c.len.ensures, c.self.inside.lines.ok.0) in
    let mine : Held = c.index_mut.result.now in
    let here : slice_get lines n ≡ Some mine = got_at lines n mine below c.index_mut.ensures.value in
    out_table stored shift n lines mine c.clear_of.new.line tree c.remove.new.self.entries c.args.key.now c.self.invariant c.line-at.ensures.value here c.clear_of.ensures.mark c.clear_of.ensures.own c.remove.ensures.updates.0

pub returns-then-at-len-clause-value : goal.returns-then-at-len-clause-value
returns-then-at-len-clause-value g c =
    let stored = g.S.Stored.stored c.args.stored.now in
    let shift = c.self.inside.shift in
    let lines : List Held = c.self.inside.lines.items in
    let tree = c.self.inside.tree.entries in
    let n = c.line-at.result in
    let are : AreLines stored lines = subst (λ (t : Table). AreLines stored t.lines) (sym c.self.view_is) c.requires.lines in
    let below : n < length lines = omega (arith, c.if-at-len.true, c.len.ensures, c.self.inside.lines.ok.0) in
    let mine : Held = c.index_mut.result.now in
    let here : slice_get lines n ≡ Some mine = got_at lines n mine below c.index_mut.ensures.value in
    rw (← c.self.view_is) (out_with stored shift n lines mine c.clear_of.new.line tree c.remove.new.self.entries c.args.key.now c.self.invariant c.line-at.ensures.value here c.clear_of.ensures.mark c.clear_of.ensures.own c.remove.ensures.updates.0 are c.clear_of.ensures.slots c.clear_of.ensures.value)

pub returns-else-at-len-clause-value : goal.returns-else-at-len-clause-value
returns-else-at-len-clause-value g c =
    let stored = g.S.Stored.stored c.args.stored.now in
    let shift = c.self.inside.shift in
    let lines : List Held = c.self.inside.lines.items in
    let tree = c.self.inside.tree.entries in
    let n = c.line-at.result in
    let are : AreLines stored lines = subst (λ (t : Table). AreLines stored t.lines) (sym c.self.view_is) c.requires.lines in
    let out : length lines ≤ n = omega (arith, c.if-at-len.false, c.len.ensures, c.self.inside.lines.ok.0) in
    rw (← c.self.view_is) (without (all_keys stored (table shift lines tree)) c.args.key.now (place_out stored shift lines tree c.args.key.now are c.self.invariant n c.line-at.ensures.value out))
