use Rattle.std.proofs.Common.{◌≡◌, ◌<◌, ◌≤◌, List, length, get_or, slice_get, sym, ap, subst, ◌∙◌}
use Rattle.std.specs.Prelude.{Some}
use Rattle.mc_shard.specs.Places.{Held, Table, place_in, marked_at, AreLines}
use Rattle.mc_shard.proofs.PlaceLemmas.{first_of, got_at, marked_some}
use Rattle.mc_shard.proofs.TableLemmas.{place_got, place_out}
use Rattle.mc_shard.proofs.places.Places.get.Goals as goal

pub in_tree-requires : goal.in_tree-requires
in_tree-requires g c =
    let lines : List Held = c.self.inside.lines.items in
    let n = c.line.result in
    let line : Held = c.in-Some.line.now in
    let there : slice_get lines n ≡ Some line = got_at lines n line
    (subst (λ (l : List Held). n < length l) c.deref.ensures.value c.in-Some.ensures.lookup.3.0)
    (c.in-Some.ensures.lookup.1 ∙ ap (λ (l : List Held). get_or l n line) c.deref.ensures.value) in
    rw (← c.self.view_is) (record { mark = c.is_marked.ensures.value ∙ sym (marked_some lines n line there) ∙ ap (marked_at lines) c.line.ensures.value })

pub returns-in-Some-place_of : goal.returns-in-Some-place_of
returns-in-Some-place_of g c =
    let stored = g.S.Stored.stored c.args.stored.now in
    let lines : List Held = c.self.inside.lines.items in
    let tree = c.self.inside.tree.entries in
    let n = c.line.result in
    let line : Held = c.in-Some.line.now in
    let there : slice_get lines n ≡ Some line = got_at lines n line
    (subst (λ (l : List Held). n < length l) c.deref.ensures.value c.in-Some.ensures.lookup.3.0)
    (c.in-Some.ensures.lookup.1 ∙ ap (λ (l : List Held). get_or l n line) c.deref.ensures.value) in
    rw (← c.self.view_is) (record {
      value = sym (place_got stored c.self.inside.shift lines tree c.args.key.now (subst (λ (t : Table). AreLines stored t.lines) (sym c.self.view_is) c.requires.lines) c.self.invariant
          n line c.line.ensures.value there ∙ ap (λ o. first_of o (place_in tree c.args.key.now)) (sym c.in-Some-place_of.ensures.value));
    })

pub returns-in-None-place_of : goal.returns-in-None-place_of
returns-in-None-place_of g c =
    let stored = g.S.Stored.stored c.args.stored.now in
    let lines : List Held = c.self.inside.lines.items in
    let tree = c.self.inside.tree.entries in
    let n = c.line.result in
    let line : Held = c.in-Some.line.now in
    let there : slice_get lines n ≡ Some line = got_at lines n line
    (subst (λ (l : List Held). n < length l) c.deref.ensures.value c.in-Some.ensures.lookup.3.0)
    (c.in-Some.ensures.lookup.1 ∙ ap (λ (l : List Held). get_or l n line) c.deref.ensures.value) in
    rw (← c.self.view_is) (record {
      value = c.in_tree.ensures.value ∙ ap (λ (t : Table). place_in t.tree c.args.key.now) (sym c.self.view_is)
          ∙ sym (place_got stored c.self.inside.shift lines tree c.args.key.now (subst (λ (t : Table). AreLines stored t.lines) (sym c.self.view_is) c.requires.lines) c.self.invariant
          n line c.line.ensures.value there ∙ ap (λ o. first_of o (place_in tree c.args.key.now)) (sym c.in-None-place_of.ensures.value));
    })

pub returns-in-None : goal.returns-in-None
returns-in-None g c =
    let stored = g.S.Stored.stored c.args.stored.now in
    let lines : List Held = c.self.inside.lines.items in
    rw (← c.self.view_is) (record {
      value = sym (place_out stored c.self.inside.shift lines c.self.inside.tree.entries c.args.key.now
          (subst (λ (t : Table). AreLines stored t.lines) (sym c.self.view_is) c.requires.lines) c.self.invariant c.line.result c.line.ensures.value
          (subst (λ (l : List Held). length l ≤ c.line.result) c.deref.ensures.value c.in-None.ensures.lookup.3));
    })
