-- The items at the places of their keys: what a change of the places, and of what was stored, changes.
use Rattle.std.proofs.Common.{◌≡◌, ◌≢◌, ◌⊎◌, inl, inr, eqb, ℕ, zero, suc, ◌+◌, ◌<◌, ◌≤◌, Bool, true, false, cond, List, [], ◌∷◌, ◌++◌, length, set, get_or, refl, sym, ap, subst, ◌∙◌, arith, length-append, length-set, get_or-set_same}
use Rattle.std.specs.Prelude.{Option, Some, None, IfSome, is_some}
use Rattle.std.proofs.lemmas.Bool.Decides.{eqb_tells}
use Rattle.std.specs.BTreeMap.{is_at}
use Rattle.std.specs.FinMap.{get, insert, remove, contains_key}
use Rattle.std.proofs.Math.ListN.{get_or-append}
use Rattle.std.proofs.Math.Seq.{get_or-append_seam}
use Rattle.mc_calls.specs.declared.item.Item.{Item}
use Rattle.mc_calls.specs.Counted.{CallCounts}
use Rattle.mc_calls.specs.Shard.{State, Items}
use Rattle.mc_stats.specs.declared.counts.Counts.{Counts}
use Rattle.mc_stats.specs.Counts as stats
use Rattle.mc_history.specs.declared.stored_item.StoredItem.{StoredItem}
use Rattle.mc_history.specs.Recorded.{item_at, keyed, nothing}
use Rattle.mc_shard.specs.declared.contents.Contents.{Contents}
use Rattle.mc_shard.specs.Contents.{hashed_cmp, item_in, call_counts_in, with_item, without_item, without_items}
use Rattle.mc_calls.specs.Key.{hash_of}
use Rattle.mc_shard.specs.declared.slot.Slot.{Slot}
use Rattle.mc_shard.specs.declared.slot.Spot.{Spot}
use Rattle.mc_shard.specs.declared.slot.Spot.TheVariants as Spots
use Rattle.mc_shard.specs.Places.{Keyed, Held, Table, place_in, key_at, keys_in, keys_among, all_keys, no_places, slots_of, had_by, IsFirstAt, IsFor, IsWith, AreSlots, AreLines, IsAt, IsSpot, IsPut}
use Rattle.mc_shard.specs.Index.{seen, items_at, ArePlaces, found_at, place_at, contents_in, no_contents, IsIndex}
use Rattle.mc_shard.proofs.PlaceLemmas.{are_at}
use Rattle.mc_shard.proofs.MapLemmas.{get-items_in, items_in-stored, items_in-removed, items_in-same, same_at, at_itself}
use Rattle.mc_shard.proofs.CountLemmas.{counts_none, counts_put, counts_removed, counts_cleared, calls-put, calls-removed, some_items}

-- ---- an item by its key

mapped : (stored : List StoredItem) (found : Bool) (place : ℕ) (rest : Option Item) (other : Option ℕ) → rest ≡ found_at stored other
    → cond found (Some (item_at stored place).item) rest ≡ found_at stored (cond found (Some place) other)
mapped stored true place rest other is = refl
mapped stored false place rest other is = is

-- the item that is seen at a key is the one at its place
pub item_seen : (stored : List StoredItem) (places : Keyed) (key : List ℕ) → item_in (seen stored places) key ≡ found_at stored (place_in places key)
item_seen stored [] key = refl
item_seen stored (e ∷ places) key =
    mapped stored (is_at (hashed_cmp key) e.0) e.1 (item_in (seen stored places) key) (place_in places key) (item_seen stored places key)

pub item_got : (stored : List StoredItem) (places : Keyed) (key : List ℕ) → get (items_at stored places) key ≡ found_at stored (place_in places key)
item_got stored places key = get-items_in (seen stored places) key ∙ item_seen stored places key

some_found : (stored : List StoredItem) (place : Option ℕ) → is_some (found_at stored place) ≡ is_some place
some_found stored None = refl
some_found stored (Some place) = refl

-- a key has an item if it has a place
pub has_item : (stored : List StoredItem) (places : Keyed) (key : List ℕ) → contains_key (items_at stored places) key ≡ is_some (place_in places key)
has_item stored places key = ap is_some (item_got stored places key) ∙ some_found stored (place_in places key)

-- ---- a place of a key is a place of that key

pub is_for : (stored : List StoredItem) (places : Keyed) (key : List ℕ) (place : Option ℕ) → place ≡ place_in places key → ArePlaces stored places → IfSome place (IsFor stored key)
is_for stored places key place is are = subst (λ (p : Option ℕ). IfSome p (IsFor stored key)) (sym is) (are key)

-- ---- the same places

pub same_items : (stored : List StoredItem) (old new : Keyed) → ((q : List ℕ) → place_in new q ≡ place_in old q) → items_at stored new ≡ items_at stored old
same_items stored old new same = items_in-same (seen stored old) (seen stored new) (λ q. item_seen stored new q ∙ ap (found_at stored) (same q) ∙ sym (item_seen stored old q))

pub same_places : (stored : List StoredItem) (old new : Keyed) → ((q : List ℕ) → place_in new q ≡ place_in old q) → ArePlaces stored old → ArePlaces stored new
same_places stored old new same are key = subst (λ (p : Option ℕ). IfSome p (IsFor stored key)) (sym (same key)) (are key)

-- ---- what was stored goes on, at other places than a key's

-- each place of other keys has what it had
pub record GoesOn (old new : List StoredItem) (places : Keyed) (key : List ℕ) : Type 0 where
  pub same : (q : List ℕ) → is_at (hashed_cmp key) q ≡ false → found_at new (place_in places q) ≡ found_at old (place_in places q)
  pub are : (q : List ℕ) → is_at (hashed_cmp key) q ≡ false → IfSome (place_in places q) (IsFor new q)

-- ---- a key gets a place

by_key : {X : Type 0} (b : Bool) (x y z : X) → (b ≡ false → y ≡ z) → cond b x y ≡ cond b x z
by_key true x y z other = refl
by_key false x y z other = other refl

found_by : (stored : List StoredItem) (b : Bool) (place : ℕ) (other : Option ℕ) → found_at stored (cond b (Some place) other) ≡ cond b (Some (item_at stored place).item) (found_at stored other)
found_by stored true place other = refl
found_by stored false place other = refl

-- the items then differ at this key
pub items_put : (old new : List StoredItem) (places places' : Keyed) (key : List ℕ) (place : ℕ) → GoesOn old new places key → IsWith places key (Some place) places'
    → items_at new places' ≡ insert (items_at old places) key (item_at new place).item
items_put old new places places' key place on changed =
    items_in-stored (seen old places) (seen new places') key (item_at new place).item (λ q.
    item_seen new places' q
    ∙ ap (found_at new) (changed q)
    ∙ found_by new (is_at (hashed_cmp key) q) place (place_in places q)
    ∙ by_key (is_at (hashed_cmp key) q) (Some (item_at new place).item) (found_at new (place_in places q)) (item_in (seen old places) q)
    (λ other. on.same q other ∙ sym (item_seen old places q)))

are_by : (stored : List StoredItem) (q : List ℕ) (b : Bool) (place : ℕ) (other : Option ℕ) → (b ≡ true → IsFor stored q place) → (b ≡ false → IfSome other (IsFor stored q))
    → IfSome (cond b (Some place) other) (IsFor stored q)
are_by stored q true place other here there = here refl
are_by stored q false place other here there = there refl

pub places_put : (old new : List StoredItem) (places places' : Keyed) (key : List ℕ) (place : ℕ) → GoesOn old new places key → IsWith places key (Some place) places' → IsFor new key place
    → ArePlaces new places'
places_put old new places places' key place on changed is q =
    subst (λ (p : Option ℕ). IfSome p (IsFor new q)) (sym (changed q))
    (are_by new q (is_at (hashed_cmp key) q) place (place_in places q) (λ same. subst (λ (k : List ℕ). IsFor new k place) (same_at key q same) is) (on.are q))

-- ---- a key loses its place

none_found : (stored : List StoredItem) (b : Bool) (other : Option ℕ) → found_at stored (cond b None other) ≡ cond b None (found_at stored other)
none_found stored true other = refl
none_found stored false other = refl

pub items_out : (stored : List StoredItem) (places places' : Keyed) (key : List ℕ) → IsWith places key None places' → items_at stored places' ≡ remove (items_at stored places) key
items_out stored places places' key changed =
    items_in-removed (seen stored places) (seen stored places') key (λ q.
    item_seen stored places' q ∙ ap (found_at stored) (changed q) ∙ none_found stored (is_at (hashed_cmp key) q) (place_in places q)
    ∙ ap (λ (o : Option Item). cond (is_at (hashed_cmp key) q) None o) (sym (item_seen stored places q)))

none_by : (stored : List StoredItem) (q : List ℕ) (b : Bool) (other : Option ℕ) → IfSome other (IsFor stored q) → IfSome (cond b None other) (IsFor stored q)
none_by stored q true other is = tt
none_by stored q false other is = is

pub places_out : (stored : List StoredItem) (places places' : Keyed) (key : List ℕ) → IsWith places key None places' → ArePlaces stored places → ArePlaces stored places'
places_out stored places places' key changed are q =
    subst (λ (p : Option ℕ). IfSome p (IsFor stored q)) (sym (changed q)) (none_by stored q (is_at (hashed_cmp key) q) (place_in places q) (are q))

-- ---- something more is stored

kept_at : (stored : List StoredItem) (x : StoredItem) (place : Option ℕ) (q : List ℕ) → IfSome place (IsFor stored q) → found_at (stored ++ x ∷ []) place ≡ found_at stored place
kept_at stored x None q is = refl
kept_at stored x (Some place) q is = ap (λ (y : StoredItem). Some y.item) (get_or-append stored (x ∷ []) nothing place is.below)

kept_for : (stored : List StoredItem) (x : StoredItem) (place : Option ℕ) (q : List ℕ) → IfSome place (IsFor stored q) → IfSome place (IsFor (stored ++ x ∷ []) q)
kept_for stored x None q is = tt
kept_for stored x (Some place) q is = record {
  below = (let below = is.below in omega (arith, below, length-append stored (x ∷ [])));
  key_is = ap (λ (y : StoredItem). y.key) (get_or-append stored (x ∷ []) nothing place is.below) ∙ is.key_is;
}

pub goes_on : (stored : List StoredItem) (x : StoredItem) (places : Keyed) (key : List ℕ) → ArePlaces stored places → GoesOn stored (stored ++ x ∷ []) places key
goes_on stored x places key are = record {
  same = λ q other. kept_at stored x (place_in places q) q (are q);
  are = λ q other. kept_for stored x (place_in places q) q (are q);
}

pub new_for : (stored : List StoredItem) (x : StoredItem) → IsFor (stored ++ x ∷ []) x.key (length stored)
new_for stored x = record {
  below = omega (arith, length-append stored (x ∷ []));
  key_is = ap (λ (y : StoredItem). y.key) (get_or-append_seam stored x [] nothing);
}

-- what was stored last has this key
pub last_key : (stored stored' : List StoredItem) (x : StoredItem) (place : ℕ) → stored' ≡ stored ++ x ∷ [] → place ≡ length stored → (item_at stored' place).key ≡ x.key
last_key stored stored' x place is at =
    ap (λ (s : List StoredItem). (item_at s place).key) is ∙ ap (λ (n : ℕ). (item_at (stored ++ x ∷ []) n).key) at ∙ (new_for stored x).key_is

-- ---- the contents

abbrev state : Items → ℕ → CallCounts → State
state items count calls = record { items = items; count = count; calls = calls }

pub index_none : IsIndex [] no_contents
index_none = record { lines = tt; places = λ key. tt; counts_are = counts_none }

-- a shard without contents has nothing stored, whatever was stored before
pub index_cleared : (old stored : List StoredItem) (contents contents' : Contents) → contents' ≡ record contents { places = no_places; counts = stats.without_items contents.counts }
    → IsIndex old contents → IsIndex stored contents' × (contents_in stored contents' ≡ without_items (contents_in old contents))
index_cleared old stored contents contents' is index =
    rw (is) (record { lines = tt; places = λ key. tt; counts_are = counts_cleared contents.counts contents.count (items_at old (all_keys old contents.places)) index.counts_are }, refl)

-- the item of a key is put at this place
module _ (old new : List StoredItem) (c c' : Contents) (key : List ℕ) (place : ℕ) (item : Item) (before : Option ℕ)
    (on : GoesOn old new (all_keys old c.places) key) (index : IsIndex old c) (lines : AreLines new c'.places.lines) (is : IsFor new key place) (item_is : (item_at new place).item ≡ item)
    (changed : IsWith (all_keys old c.places) key (Some place) (all_keys new c'.places)) (count_is : c'.count ≡ c.count + 1)
    (counts_are : c'.counts ≡ cond (is_some before) c.counts (stats.with_item c.counts)) (before_is : before ≡ place_in (all_keys old c.places) key) where
  items_are : items_at new (all_keys new c'.places) ≡ insert (items_at old (all_keys old c.places)) key item
  items_are = items_put old new (all_keys old c.places) (all_keys new c'.places) key place on changed ∙ ap (insert (items_at old (all_keys old c.places)) key) item_is

  had : contains_key (items_at old (all_keys old c.places)) key ≡ is_some before
  had = has_item old (all_keys old c.places) key ∙ ap is_some (sym before_is)

  pub index_put : IsIndex new c'
  index_put = record {
    lines = lines;
    places = places_put old new (all_keys old c.places) (all_keys new c'.places) key place on changed is;
    counts_are = rw (counts_are, count_is, items_are) (counts_put c.counts c.count (items_at old (all_keys old c.places)) key item (is_some before) had index.counts_are);
  }

  pub contents_put : contents_in new c' ≡ with_item (contents_in old c) (Some key) item
  contents_put =
      ap (λ (items : Items). state items c'.count (call_counts_in c'.counts)) items_are
      ∙ ap (λ (n : ℕ). state (insert (items_at old (all_keys old c.places)) key item) n (call_counts_in c'.counts)) count_is
      ∙ ap (λ (calls : CallCounts). state (insert (items_at old (all_keys old c.places)) key item) (c.count + 1) calls) (ap call_counts_in counts_are ∙ calls-put c.counts (is_some before))

-- the item of a key is removed
module _ (stored : List StoredItem) (c c' : Contents) (key : List ℕ) (index : IsIndex stored c) (lines : AreLines stored c'.places.lines)
    (changed : IsWith (all_keys stored c.places) key None (all_keys stored c'.places)) (count_is : c'.count ≡ c.count)
    (counts_are : c'.counts ≡ cond (is_some (place_in (all_keys stored c.places) key)) (stats.without_item c.counts) c.counts) where
  pub index_out : IsIndex stored c'
  index_out = record {
    lines = lines;
    places = places_out stored (all_keys stored c.places) (all_keys stored c'.places) key changed index.places;
    counts_are = rw (counts_are, count_is, items_out stored (all_keys stored c.places) (all_keys stored c'.places) key changed)
        (counts_removed c.counts c.count (items_at stored (all_keys stored c.places)) key (is_some (place_in (all_keys stored c.places) key)) (has_item stored (all_keys stored c.places) key) index.counts_are);
  }

  pub contents_out : contents_in stored c' ≡ without_item (contents_in stored c) (Some key)
  contents_out =
      ap (λ (items : Items). state items c'.count (call_counts_in c'.counts)) (items_out stored (all_keys stored c.places) (all_keys stored c'.places) key changed)
      ∙ ap (λ (n : ℕ). state (remove (items_at stored (all_keys stored c.places)) key) n (call_counts_in c'.counts)) count_is
      ∙ ap (λ (calls : CallCounts). state (remove (items_at stored (all_keys stored c.places)) key) c.count calls) (ap call_counts_in counts_are ∙ calls-removed c.counts (is_some (place_in (all_keys stored c.places) key)))

pub some_counted : (stored : List StoredItem) (c : Contents) (key : List ℕ) → IsIndex stored c → is_some (place_in (all_keys stored c.places) key) ≡ true → 1 ≤ c.counts.items
some_counted stored c key index has = some_items c.counts c.count (items_at stored (all_keys stored c.places)) key (has_item stored (all_keys stored c.places) key ∙ has) index.counts_are

-- the places are what they were
module _ (stored : List StoredItem) (c c' : Contents) (index : IsIndex stored c) (lines : AreLines stored c'.places.lines)
    (same : (q : List ℕ) → place_in (all_keys stored c'.places) q ≡ place_in (all_keys stored c.places) q) (count_is : c'.count ≡ c.count) (counts_are : c'.counts ≡ c.counts) where
  pub index_same : IsIndex stored c'
  index_same = record {
    lines = lines;
    places = same_places stored (all_keys stored c.places) (all_keys stored c'.places) same index.places;
    counts_are = rw (counts_are, count_is, same_items stored (all_keys stored c.places) (all_keys stored c'.places) same) (index.counts_are);
  }

  pub contents_same : contents_in stored c' ≡ contents_in stored c
  contents_same =
      ap (λ (items : Items). state items c'.count (call_counts_in c'.counts)) (same_items stored (all_keys stored c.places) (all_keys stored c'.places) same)
      ∙ ap (λ (n : ℕ). state (items_at stored (all_keys stored c.places)) n (call_counts_in c'.counts)) count_is
      ∙ ap (λ (counts : Counts). state (items_at stored (all_keys stored c.places)) c.count (call_counts_in counts)) counts_are

-- ---- the keys stay when more is stored

-- what was stored has the keys that it had
pub record Keeps (old new : List StoredItem) : Type 0 where
  pub long : length old ≤ length new
  pub same : (place : ℕ) → place < length old → (item_at new place).key ≡ (item_at old place).key

module _ (old new : List StoredItem) (keeps : Keeps old new) where
  keys_kept : (slots : List Slot) → AreSlots old slots → keys_in new slots ≡ keys_in old slots
  keys_kept [] are = refl
  keys_kept (s ∷ slots) are =
      ap (λ (k : List ℕ). (k, s.place) ∷ keys_in new slots) (keeps.same s.place are.0.below)
      ∙ ap (λ (l : Keyed). key_at old s ∷ l) (keys_kept slots are.1)

  among_kept : (lines : List Held) → AreLines old lines → keys_among new lines ≡ keys_among old lines
  among_kept [] are = refl
  among_kept (line ∷ lines) are =
      ap (λ (l : Keyed). l ++ keys_among new lines) (keys_kept line.slots are.0)
      ∙ ap (λ (l : Keyed). keys_in old line.slots ++ l) (among_kept lines are.1)

  all_kept : (t : Table) → AreLines old t.lines → all_keys new t ≡ all_keys old t
  all_kept t are = ap (λ (l : Keyed). l ++ t.tree) (among_kept t.lines are)

  slots_kept : (slots : List Slot) → AreSlots old slots → AreSlots new slots
  slots_kept [] are = tt
  slots_kept (s ∷ slots) are = (
    record {
      below = (let below = are.0.below in let long = keeps.long in omega (arith, below, long));
      hash = are.0.hash ∙ ap hash_of (sym (keeps.same s.place are.0.below));
    },
    slots_kept slots are.1,
  )

  lines_kept : (lines : List Held) → AreLines old lines → AreLines new lines
  lines_kept [] are = tt
  lines_kept (line ∷ lines) are = (slots_kept line.slots are.0, lines_kept lines are.1)

  at_kept : (t : Table) (key : List ℕ) (spot : Spot) → AreLines old t.lines → IsAt old t key spot → IsAt new t key spot
  at_kept t key (Spots.Slot at) are is = subst (λ (l : Keyed). IsFirstAt l key at) (sym (keys_kept (slots_of t key) (are_at old t.lines _ are))) is
  at_kept t key Spots.Tree are is = (ap (λ (l : Keyed). place_in l key) (keys_kept (slots_of t key) (are_at old t.lines _ are)) ∙ is.0, is.1)
  at_kept t key Spots.New are is = tt

  spot_kept : (t : Table) (key : List ℕ) (spot : Spot) → AreLines old t.lines → IsSpot old t key spot → IsSpot new t key spot
  spot_kept t key spot are is = record {
    had = ap (λ (l : Keyed). is_some (place_in l key)) (all_kept t are) ∙ is.had;
    there = at_kept t key spot are is.there;
  }

keeps_more : (stored : List StoredItem) (x : StoredItem) → Keeps stored (stored ++ x ∷ [])
keeps_more stored x = record {
  long = omega (arith, length-append stored (x ∷ []));
  same = λ place below. ap (λ (y : StoredItem). y.key) (get_or-append stored (x ∷ []) nothing place below);
}

-- ---- the item of a key is stored after all others

module _ (stored stored' : List StoredItem) (c c' : Contents) (key : List ℕ) (place : ℕ) (x : StoredItem) (spot : Spot)
    (index : IsIndex stored c) (is : IsSpot stored c.places key spot) (stored_is : stored' ≡ stored ++ x ∷ []) (place_is : place ≡ length stored) (key_is : x.key ≡ key)
    (put : IsPut c.places key spot place c'.places) (count_is : c'.count ≡ c.count + 1)
    (counts_are : c'.counts ≡ cond (had_by spot) c.counts (stats.with_item c.counts)) where
  abbrev more : List StoredItem
  more = stored ++ x ∷ []

  placed_for : IsFor more key place
  placed_for =
      subst (λ (n : ℕ). IsFor more key n) (sym place_is) (subst (λ (k : List ℕ). IsFor more k (length stored)) key_is (new_for stored x))

  placed_item : (item_at more place).item ≡ x.item
  placed_item = ap (λ (n : ℕ). (item_at more n).item) place_is ∙ ap (λ (y : StoredItem). y.item) (get_or-append_seam stored x [] nothing)

  placed : AreLines more c'.places.lines × IsWith (all_keys more c.places) key (Some place) (all_keys more c'.places)
  placed =
      put more (lines_kept stored more (keeps_more stored x) c.places.lines index.lines) (spot_kept stored more (keeps_more stored x) c.places key spot index.lines is) placed_for

  placed_changed : IsWith (all_keys stored c.places) key (Some place) (all_keys more c'.places)
  placed_changed = subst (λ (l : Keyed). IsWith l key (Some place) (all_keys more c'.places)) (all_kept stored more (keeps_more stored x) c.places index.lines) placed.1

  placed_counts : c'.counts ≡ cond (is_some (place_in (all_keys stored c.places) key)) c.counts (stats.with_item c.counts)
  placed_counts = counts_are ∙ ap (λ (b : Bool). cond b c.counts (stats.with_item c.counts)) (sym is.had)

  pub placed_index : IsIndex stored' c'
  placed_index =
      subst (λ (s : List StoredItem). IsIndex s c') (sym stored_is)
      (index_put stored more c c' key place x.item (place_in (all_keys stored c.places) key) (goes_on stored x (all_keys stored c.places) key index.places) index placed.0 placed_for placed_item
      placed_changed count_is placed_counts refl)

  pub placed_contents : contents_in stored' c' ≡ with_item (contents_in stored c) (Some key) x.item
  placed_contents =
      ap (λ (s : List StoredItem). contents_in s c') stored_is
      ∙ contents_put stored more c c' key place x.item (place_in (all_keys stored c.places) key) (goes_on stored x (all_keys stored c.places) key index.places) index placed.0 placed_for placed_item
      placed_changed count_is placed_counts refl

-- the place of a call's key is one of those that were stored
within_by : (stored : List StoredItem) (key : List ℕ) (place : Option ℕ) → IfSome place (IsFor stored key) → IfSome place (λ p. p < length stored)
within_by stored key None is = tt
within_by stored key (Some place) is = is.below

pub places_within : (stored : List StoredItem) (places : Keyed) (key : Option (List ℕ)) (place : Option ℕ) → place ≡ place_at places key → ArePlaces stored places → IfSome place (λ p. p < length stored)
places_within stored places None place is are = subst (λ (p : Option ℕ). IfSome p (λ n. n < length stored)) (sym is) tt
places_within stored places (Some key) place is are = within_by stored key place (is_for stored places key place is are)

-- ---- another item takes the place of a key's

other_at : (xs : List StoredItem) (n m : ℕ) (x : StoredItem) → m ≢ n → item_at (set xs n x) m ≡ item_at xs m
other_at [] n m x differ = refl
other_at (y ∷ xs) zero zero x differ = absurd (differ refl)
other_at (y ∷ xs) zero (suc m) x differ = refl
other_at (y ∷ xs) (suc n) zero x differ = refl
other_at (y ∷ xs) (suc n) (suc m) x differ = other_at xs n m x (λ e. differ (ap suc e))

-- keys that differ have other places
other_place : (stored : List StoredItem) (key q : List ℕ) (place p : ℕ) → IsFor stored key place → IsFor stored q p → is_at (hashed_cmp key) q ≡ false → p ≢ place
other_place stored key q place p here there other same =
    let equal : q ≡ key = sym there.key_is ∙ ap (λ (n : ℕ). (item_at stored n).key) same ∙ here.key_is in
    let alike : true ≡ false = sym (at_itself key) ∙ ap (λ (k : List ℕ). is_at (hashed_cmp key) k) (sym equal) ∙ other in
    cc

set_at : (stored : List StoredItem) (key q : List ℕ) (place : ℕ) (x : StoredItem) (p : Option ℕ) → IsFor stored key place → IfSome p (IsFor stored q) → is_at (hashed_cmp key) q ≡ false
    → found_at (set stored place x) p ≡ found_at stored p
set_at stored key q place x None here there other = refl
set_at stored key q place x (Some p) here there other = ap (λ (y : StoredItem). Some y.item) (other_at stored place p x (other_place stored key q place p here there other))

set_for : (stored : List StoredItem) (key q : List ℕ) (place : ℕ) (x : StoredItem) (p : Option ℕ) → IsFor stored key place → IfSome p (IsFor stored q) → is_at (hashed_cmp key) q ≡ false
    → IfSome p (IsFor (set stored place x) q)
set_for stored key q place x None here there other = tt
set_for stored key q place x (Some p) here there other = record {
  below = (let below = there.below in omega (arith, below, length-set stored place x));
  key_is = ap (λ (y : StoredItem). y.key) (other_at stored place p x (other_place stored key q place p here there other)) ∙ there.key_is;
}

module _ (stored stored' : List StoredItem) (c c' : Contents) (key : List ℕ) (place : ℕ) (x : StoredItem) (item : Item)
    (index : IsIndex stored c) (found : Some place ≡ place_in (all_keys stored c.places) key) (there : x ≡ get_or stored place x)
    (stored_is : stored' ≡ set stored place (keyed x.key item))
    (counted : c' ≡ record c { count = c.count + 1; counts = c.counts }) where
  abbrev now : StoredItem
  now = keyed x.key item

  here : IsFor stored key place
  here = is_for stored (all_keys stored c.places) key (Some place) found index.places

  key_of_x : x.key ≡ key
  key_of_x = ap (λ (y : StoredItem). y.key) (there ∙ same_default stored place here.below) ∙ here.key_is
    where
      same_default : (xs : List StoredItem) (n : ℕ) → n < length xs → get_or xs n x ≡ get_or xs n nothing
      same_default [] n below = absurd (omega (arith, below))
      same_default (y ∷ xs) zero below = refl
      same_default (y ∷ xs) (suc n) below = same_default xs n (omega (arith, below))

  set_on : GoesOn stored (set stored place now) (all_keys stored c.places) key
  set_on = record {
    same = λ q other. set_at stored key q place now (place_in (all_keys stored c.places) q) here (index.places q) other;
    are = λ q other. set_for stored key q place now (place_in (all_keys stored c.places) q) here (index.places q) other;
  }

  at_place : item_at (set stored place now) place ≡ now
  at_place = get_or-set_same stored place now nothing here.below

  set_here : IsFor (set stored place now) key place
  set_here = record {
    below = (let below = here.below in omega (arith, below, length-set stored place now));
    key_is = ap (λ (y : StoredItem). y.key) at_place ∙ key_of_x;
  }

  kept_by : (b : Bool) (p : Option ℕ) → (b ≡ true → p ≡ Some place) → p ≡ cond b (Some place) p
  kept_by true p is = is refl
  kept_by false p is = refl

  set_keeps : Keeps stored (set stored place now)
  set_keeps = record {
    long = omega (arith, length-set stored place now);
    same = λ p below. key_by p (eqb_tells p place);
  }
    where
      key_by : (p : ℕ) → ((eqb p place ≡ true) × (p ≡ place)) ⊎ ((eqb p place ≡ false) × (p ≢ place)) → (item_at (set stored place now) p).key ≡ (item_at stored p).key
      key_by p (inl same) =
          ap (λ (n : ℕ). (item_at (set stored place now) n).key) same.1 ∙ ap (λ (y : StoredItem). y.key) at_place ∙ key_of_x ∙ sym here.key_is
          ∙ ap (λ (n : ℕ). (item_at stored n).key) (sym same.1)
      key_by p (inr differ) = ap (λ (y : StoredItem). y.key) (other_at stored place p now differ.1)

  set_lines : AreLines (set stored place now) c'.places.lines
  set_lines =
      subst (λ (d : Contents). AreLines (set stored place now) d.places.lines) (sym counted) (lines_kept stored (set stored place now) set_keeps c.places.lines index.lines)

  set_changed : IsWith (all_keys stored c.places) key (Some place) (all_keys (set stored place now) c'.places)
  set_changed q =
      ap (λ (d : Contents). place_in (all_keys (set stored place now) d.places) q) counted
      ∙ ap (λ (l : Keyed). place_in l q) (all_kept stored (set stored place now) set_keeps c.places index.lines)
      ∙ kept_by (is_at (hashed_cmp key) q) (place_in (all_keys stored c.places) q) (λ same. ap (place_in (all_keys stored c.places)) (sym (same_at key q same)) ∙ sym found)

  set_count : c'.count ≡ c.count + 1
  set_count = ap (λ (d : Contents). d.count) counted

  set_counts : c'.counts ≡ cond (is_some (Some place)) c.counts (stats.with_item c.counts)
  set_counts = ap (λ (d : Contents). d.counts) counted

  pub replaced_index : IsIndex stored' c'
  replaced_index =
      subst (λ (s : List StoredItem). IsIndex s c') (sym stored_is)
      (index_put stored (set stored place now) c c' key place item (Some place) set_on index set_lines set_here (ap (λ (y : StoredItem). y.item) at_place) set_changed set_count set_counts found)

  pub replaced_contents : contents_in stored' c' ≡ with_item (contents_in stored c) (Some key) item
  replaced_contents =
      ap (λ (s : List StoredItem). contents_in s c') stored_is
      ∙ contents_put stored (set stored place now) c c' key place item (Some place) set_on index set_lines set_here (ap (λ (y : StoredItem). y.item) at_place) set_changed set_count set_counts found
