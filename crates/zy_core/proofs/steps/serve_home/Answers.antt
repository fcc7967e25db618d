use Rattle.std.proofs.Common.{sym, ap, ◌∙◌, subst}
use Rattle.atomic_table.specs.Seated.{TableId}
use Rattle.zy_home.specs.Place.{OwnsTo}
use Rattle.zy_core.specs.Turn.{CollectsAll}
use Rattle.zy_core.proofs.ItemLemmas.{receives_to}
use Rattle.zy_core.proofs.steps.serve_home.Goals as goal

pub returns-clause-value : goal.returns-clause-value
returns-clause-value g c =
    let first = ap (λ (z : TableId). z.slots) c.receive_all.ensures.same.table in record {
      received = c.receive_all.new.self;
      collected = c.collect_all.new.home;
      receives = receives_to _ _ _ _ c.in_ok-received.field-0 c.in_ok-received.ensures.value;
      collects = subst (λ n. CollectsAll n c.receive_all.new.self c.collect_all.new.home c.in_ok-collected.collected) first c.in_ok-collected.ensures.value;
      claims = subst (λ n. OwnsTo n c.collect_all.new.home c.own.new.self c.in_ok-own.own) (sym c.places-places.ensures.value ∙ c.places-places.ensures.count ∙ ap (λ (z : TableId). z.slots) (sym c.requires.table)) c.in_ok-own.ensures.value;
    }
