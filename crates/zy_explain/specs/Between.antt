-- What a server has when an order was followed to its end. No public clause cites this module.
use Rattle.std.specs.Prelude.{◌≡◌, ℕ, ◌≤◌, List}
use Rattle.std.specs.BTreeSet.{BTreeSet}
use Rattle.zy_confirm.specs.declared.store.Store.{Store}
use Rattle.zy_confirm.specs.Store.{held_at}
use Rattle.zy_items.specs.declared.standing.KeptItem.{KeptItem}
use Rattle.zy_items.specs.Standing.{Standing}
use Rattle.zy_verdict.specs.Between.{item_in}

-- the unique of an item is within a bound
abbrev pub HasUniqueUpTo : ℕ → KeptItem → Type 0
HasUniqueUpTo bound kept = kept.item.unique ≤ bound

-- this is what a server has that has the items of a store, and whose keys of a set may lose theirs
pub record StandsAt (store : Store) (lasting : BTreeSet (List ℕ)) (to : Standing) : Type 0 where
  pub items : (key : List ℕ) → item_in to.items key ≡ held_at store key
  pub lasting_is : to.lasting ≡ lasting.keys
  pub bound : store.most ≤ to.bound
