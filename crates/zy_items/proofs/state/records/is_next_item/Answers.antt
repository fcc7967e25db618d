use Rattle.std.proofs.Common.{◌≡◌, ◌-◌, List, length, sym, ◌∙◌, ap}
use Rattle.std.specs.Prelude.{Option, Some, slice_get}
use Rattle.zy_items.specs.declared.standing.KeptItem.{KeptItem}
use Rattle.zy_items.proofs.KeyLemmas.{is_above, key_of, next_item_by}
use Rattle.zy_items.proofs.state.records.is_next_item.Goals as goal

pub returns-in-Some : goal.returns-in-Some
returns-in-Some c =
    let all : List KeptItem = c.args.items.now.items in
    let got : Some c.in-Some.kept.now ≡ slice_get all (length all - 1) = c.in-Some.ensures.value ∙ ap (λ (l : List KeptItem). slice_get l (length l - 1)) c.deref.ensures.value in
    record { value = c.lt.ensures ∙ ap (λ (o : Option KeptItem). is_above (key_of o) c.args.key.now) got ∙ sym (next_item_by all c.args.key.now) }
