-- A store with what a server had at first. No public clause cites this module.
use Rattle.std.specs.Prelude.{◌≡◌, ℕ, ◌+◌, false, List, []}
use Rattle.zy_confirm.specs.declared.store.Store.{Store}
use Rattle.zy_confirm.specs.Store.{store_shards, held_at}
use Rattle.zy_explain.specs.declared.rules.Rules.{Rules}
use Rattle.zy_explain.specs.Following.{HoldsItsOwn}
use Rattle.zy_items.specs.declared.standing.KeptItem.{KeptItem}
use Rattle.zy_items.specs.Standing.{Standing}
use Rattle.zy_verdict.specs.Between.{item_in}

-- a store of this many shards with these items, whose uniques were given
pub record HoldsItems (shards : ℕ) (items : List KeptItem) (store : Store) : Type 0 where
  pub count : store_shards store ≡ shards
  pub held : (key : List ℕ) → held_at store key ≡ item_in items key
  pub own : HoldsItsOwn store

-- a store with what a server had, which gives only greater uniques from here on
pub record Begins (shards : ℕ) (from : Standing) (store : Store) : Type 0 where
  pub holds : HoldsItems shards from.items store
  pub least : store.least ≡ from.bound + 1
  pub most : store.most ≡ from.bound

-- a server that may not have begun with items has none
abbrev pub MayBegin : Rules → List KeptItem → Type 0
MayBegin rules items = rules.warm ≡ false → items ≡ []
