use Rattle.std.proofs.Common.{ℕ, List, Option, IfSome, option_copied, subst}
use Rattle.mc_calls.specs.declared.item.Item.{Item}
use Rattle.zy_confirm.specs.declared.outcome.Outcome.{Outcome}
use Rattle.zy_confirm.specs.Choosing.{IsChosen, IsAnyChosen}
use Rattle.zy_confirm.specs.Store.{store_shards, IsOnItsShard}
use Rattle.zy_confirm.proofs.MakeLemmas.{made_at}
use Rattle.zy_confirm.proofs.making.make_at.Goals as goal

pub returns-in-Ok-true : goal.returns-in-Ok-true
returns-in-Ok-true c = record {
  made =
      let old = c.args.store.now in
      let call = c.args.call.now in
      let o = c.in-Some.field-0 in
      made_at old c.change.new.self call c.args.key.now c.args.unique o c.requires.key
      (subst (λ (k : Option (List ℕ)). IsOnItsShard (store_shards old) k call.shard) c.requires.key c.requires.own)
      (subst (λ (i : Option Item). IsChosen i call.call c.args.unique o) c.found-found.ensures.value
      (subst (λ (f : Option Outcome). IfSome f (IsAnyChosen (option_copied c.found-found.result) call.call)) c.in-Some.is c.in_ok-said.ensures.chosen c.args.unique))
      (c.in-Ok-true.ensures.changed c.in-Ok-true.field-0-test);
}
