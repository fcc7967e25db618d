use Rattle.std.proofs.Common.{rules, ap, ◌∙◌, arith, refl, subst, ◌∷◌, ◌*◌, ◌+◌}
use Rattle.std.specs.Prelude as std
use Rattle.std.specs.Int.{trailing_zeros}
use mir.Syntax.{w64}
use Rattle.zy_shuffle.proofs.BellLemmas.{bell_slot, collects_as, loads_bells_as, place_is, took}
use Rattle.zy_shuffle.specs.Pass.{LookedAt, held}
use Rattle.atomic_table.specs.Table.{rest}
use Rattle.zy_shuffle.proofs.ring.Ring.look_at.Goals as goal

pub load-bits-requires : goal.load-bits-requires
load-bits-requires g c =
    let i = c.self.invariant in
    let own = ap (λ v. v.places) c.self.view_is in
    let word = c.requires.word in (search rules, omega arith, loads_bells_as g.T.Marked.mark g.T.Marked.label _ _ _ _ c.args.word c.self.inside.places c.args.seat.now.me c.requires.home i.0 refl)

pub fetch_and-requires : goal.fetch_and-requires
fetch_and-requires g c =
    let i = c.self.invariant in
    let own = ap (λ v. v.places) c.self.view_is in
    let word = c.requires.word in (
      search rules,
      omega arith,
      collects_as g.T.Marked.mark g.T.Marked.label c.args.seat.now.table_id.slots _ _ _ c.args.word c.load-bits.result _ c.self.inside.places c.args.seat.now.me c.load-bits.new.seat.me c.requires.home i.0 refl c.load-bits.ensures.2 c.if-bits-eq0.false c.load-bits.type_inv refl,
    )

pub exchange-old-requires : goal.exchange-old-requires
exchange-old-requires g c =
    let i = c.self.invariant in
    let at = place_is g.T.Marked.mark g.T.Marked.label c.args.seat.now.table_id.slots c.self.inside.table.shared.table_id.slots _ c.args.word c.load-bits.result c.self.inside.places c.args.seat.now.me c.load-bits.new.seat.me c.requires.home i.0 refl c.load-bits.ensures.2 in
    (search rules, bell_slot g.T.Marked.mark g.T.Marked.label c.self.inside.table.shared.table_id.slots 0 _ 0 c.load-bits.new.seat.me c.fetch_and.new.seat.me c.fetch_and.ensures.2 (at ∙ (omega arith)))

pub returns-clause-value : goal.returns-clause-value
returns-clause-value g c =
    let i = c.self.invariant in
    let own = ap (λ v. v.places) c.self.view_is in
    let id = ap (λ v. v.id.slots) c.self.view_is in
    let asked = ap (λ z. z.slots) c.requires.within in
    let ex = c.exchange-old.ensures in
    let all = took g.T.Marked.mark g.T.Marked.label c.args.seat.now.table_id.slots c.exchange-old.new.seat.table_id.slots c.self.inside.table.shared.table_id.slots (32 + c.self.inside.places + c.args.word) c.args.word c.load-bits.result 0 c.self.inside.places _ c.args.self.now.id
    c.args.seat.now.me c.load-bits.new.seat.me c.fetch_and.new.seat.me c.exchange-old.new.seat.me c.in-Some.block
    (ap (λ z. z.slots) (ex.0 ∙ c.fetch_and.ensures.0 ∙ c.load-bits.ensures.0)) (omega arith) c.requires.home i.0 refl c.if-bits-eq0.false c.load-bits.type_inv c.load-bits.ensures.2 c.fetch_and.ensures.2 refl
    (ex.2 ∙ ap (λ y. (c.args.word * 64 + trailing_zeros w64 c.load-bits.result, y) ∷ rest c.fetch_and.new.seat.me.1) c.in-Some.is) ex.3 in
    subst (λ n. LookedAt g.T.Marked.mark g.T.Marked.label n (held c.args.self.now.id c.args.seat.now.me.0) (held c.args.self.now.id c.exchange-old.new.seat.me.0) c.args.word (std.Some (c.args.word * 64 + trailing_zeros w64 c.load-bits.result, c.in-Some.block))) own all.1
