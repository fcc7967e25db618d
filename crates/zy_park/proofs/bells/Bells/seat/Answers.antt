use Rattle.std.proofs.Common.{◌≡◌, map, set, None, true, refl, sym, ap, ◌∙◌}
use Rattle.std.proofs.lemmas.List.{map-set}
use Rattle.zy_park.specs.Pass.{Rooted, rooted, passed, new_pass}
use Rattle.zy_park.specs.Bell.{tables_of, views_of, given_of, is_given, new_seat}
use Rattle.zy_park.proofs.SeatLemmas.{new_tables, new_views, parker_at, parkers_out, others_free}
use Rattle.zy_park.proofs.bells.Bells.seat.Goals as goal

pub invariant_of-result : goal.invariant_of-result
invariant_of-result c =
    let bells = ap (λ (r : Rooted). r.bells) c.root.view_is in
    rw (c.in_ok-seats.ensures.value, new_tables c.self.inside.items.items, c.self.view_is, sym c.requires.bells, sym bells)
    (parker_at (tables_of c.root.inside.seats.items) c.root.inside.sleepers.items c.args.core c.take_sleeper-sleeper.result c.root.invariant c.take_sleeper-sleeper.ensures.value)

pub invariant_of-root : goal.invariant_of-root
invariant_of-root c =
    rw c.take_sleeper-sleeper.ensures.after
    (parkers_out (tables_of c.root.inside.seats.items) c.root.inside.sleepers.items c.args.core c.root.invariant)

pub returns-clause-value : goal.returns-clause-value
returns-clause-value c =
    ap (λ seats. passed (tables_of seats) c.args.core (views_of seats)) c.in_ok-seats.ensures.value
    ∙ ap (λ ids. passed ids c.args.core (views_of (map new_seat c.self.inside.items.items))) (new_tables c.self.inside.items.items)
    ∙ ap (λ views. passed c.self.inside.items.items c.args.core views) (new_views c.self.inside.items.items)
    ∙ ap (λ ids. new_pass ids c.args.core) c.self.view_is

pub returns-clause-ok : goal.returns-clause-ok
returns-clause-ok c =
    let bells = ap (λ (r : Rooted). r.bells) c.root.view_is in
    let given = ap (λ (r : Rooted). r.given) c.root.view_is in
    ap (λ ss. rooted (tables_of c.root.inside.seats.items) (given_of ss) (views_of c.root.inside.seats.items)) c.take_sleeper-sleeper.ensures.after
    ∙ ap (λ gs. rooted (tables_of c.root.inside.seats.items) gs (views_of c.root.inside.seats.items)) (map-set is_given c.root.inside.sleepers.items c.args.core None)
    ∙ rw (sym c.requires.bells, sym c.root.view_is) refl

pub returns-clause-others : goal.returns-clause-others
returns-clause-others c =
    let given = ap (λ (r : Rooted). r.given) c.root.view_is in
    let after : given_of c.take_sleeper-sleeper.new.sleepers.items ≡ set c.args.root.now.given c.args.core true =
    ap given_of c.take_sleeper-sleeper.ensures.after ∙ map-set is_given c.root.inside.sleepers.items c.args.core None ∙ ap (λ gs. set gs c.args.core true) given in
    others_free c.args.root.now (rooted (tables_of c.root.inside.seats.items) (given_of c.take_sleeper-sleeper.new.sleepers.items) (views_of c.root.inside.seats.items)) c.args.core after
