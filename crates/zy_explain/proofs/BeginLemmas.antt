-- A store with what a server had when a window began.
use Rattle.std.specs.List.{slice_get}
use Rattle.std.specs.BTreeMap.{BTreeMap}
use Rattle.std.proofs.Common.{◌≡◌, ℕ, Bool, true, false, if◌then◌else◌, List, [], ◌∷◌, length, Option, Some, refl, sym, ap, ◌∙◌, subst}
use Rattle.mc_allows.specs.Steps.{is_same, first_uniques}
use Rattle.mc_calls.specs.declared.item.Item.{Item}
use Rattle.mc_calls.specs.Key.{shard_of}
use Rattle.zy_confirm.specs.declared.store.Store.{Store}
use Rattle.zy_confirm.specs.declared.outcome.After.TheVariants.{Put}
use Rattle.zy_confirm.specs.Store.{item_on_shard, held_at, AreUsed, ChangesAt, HoldsNothing, BeginsAbove}
use Rattle.zy_confirm.proofs.MakeLemmas.{same_key}
use Rattle.zy_confirm.proofs.StoreLemmas.{losses_same, used_same}
use Rattle.zy_explain.specs.declared.rules.Rules.{Rules}
use Rattle.zy_explain.specs.Beginning.{HoldsItems, MayBegin}
use Rattle.zy_explain.specs.Following.{IsFirstStore}
use Rattle.zy_explain.proofs.StateLemmas.{used_on, own_more}
use Rattle.zy_items.specs.declared.standing.KeptItem.{KeptItem}
use Rattle.zy_items.specs.Standing.{Standing}
use Rattle.zy_verdict.specs.Between.{item_in}

module _ (shards : ℕ) (old new : Store) (kept : KeptItem) (rest : List KeptItem) (holds : HoldsItems shards rest old)
    (changes : ChangesAt old new kept.key kept.item.unique (Put kept.item.flags kept.item.value)) where
  held_by : (key : List ℕ) (b : Bool) → is_same key kept.key ≡ b → held_at new key ≡ (if b then Some kept.item else item_in rest key)
  held_by key true same = ap (held_at new) (same_key key kept.key same) ∙ changes.here
  held_by key false differ = changes.others key differ ∙ holds.held key

  -- one item more
  pub holds_more : HoldsItems shards (kept ∷ rest) new
  holds_more = record {
    count = changes.shards ∙ holds.count;
    held = λ key. held_by key (is_same key kept.key) refl;
    own = own_more old new kept.key kept.item holds.own changes;
  }

-- a store with items with which the server may have begun
pub first_with : (rules : Rules) (items : List KeptItem) (store : Store) → HoldsItems rules.shards items store → MayBegin rules items → IsFirstStore rules store
first_with rules items store holds may = record {
  shards = holds.count;
  own = holds.own;
  cold = λ cold key. holds.held key ∙ ap (λ (l : List KeptItem). item_in l key) (may cold);
}
