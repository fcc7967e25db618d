-- The lines and the tree of a shard's places: look-ups, and what each change leaves.
use Rattle.std.proofs.Common.{◌≡◌, ◌≢◌, ◌⊎◌, inl, inr, ℕ, zero, suc, ◌+◌, ◌<◌, ◌≤◌, ◌/◌, ◌^◌, Bool, true, false, cond, List, [], ◌∷◌, ◌++◌, length, set, slice_get, refl, sym, ap, subst, ◌∙◌, arith, length-set}
use Rattle.std.specs.Prelude.{Option, Some, None, is_some, OnSome, IfNone}
use Rattle.std.proofs.lemmas.Nat.{shr-shr}
use Rattle.std.proofs.lemmas.Option.{same_Some}
use Rattle.std.specs.BTreeMap.{is_at}
use Rattle.mc_calls.specs.Key.{hash_of}
use Rattle.mc_history.specs.declared.stored_item.StoredItem.{StoredItem}
use Rattle.mc_history.specs.Recorded.{item_at}
use Rattle.mc_shard.specs.declared.slot.Slot.{Slot}
use Rattle.mc_shard.specs.declared.slot.Spot.{Spot}
use Rattle.mc_shard.specs.declared.slot.Spot.TheVariants as Spots
use Rattle.mc_shard.specs.Contents.{hashed_cmp}
use Rattle.mc_shard.specs.Places.{Keyed, Held, Table, table, place_in, key_at, keys_in, keys_among, all_keys, moved, slots_at, slots_of, marked_at, line_of, doubled, IsFirstAt, IsSlot, AreSlots, AreOwn, AreLines, AreEmpty, IsTable, IsSameTable, IsRoomier, IsWith, SamePlaces, HasRoom, IsSpot, IsPut}
use Rattle.mc_shard.proofs.MapLemmas.{same_at}
use Rattle.mc_shard.proofs.RowLemmas.{Pair, item_got, item_put, tree_changed, row_changed, row_longer, entry_moved, taken_out}
use Rattle.mc_shard.proofs.LineLemmas.{all_pushed, all_popped, all_last, all_set, all_got, keys_pushed, keys_set, key_got, doubled_same, are_doubled, own_twice, marked_twice, empty_same, empty_are, empty_own}
use Rattle.mc_shard.proofs.PlaceLemmas.{first_of, lookup-append, apart, same_or_not, marked_mine, slots_same, slots_some, slots_out, marked_out, marked_set, unmarked_set, own_at, own_set, are_at, are_set, place_there, table_with, line_with, line_same}

-- ---- look-ups

module _ (stored : List StoredItem) (shift : ℕ) (lines : List Held) (tree : Keyed) (key : List ℕ) (are : AreLines stored lines) (t : IsTable (table shift lines tree)) where
  place_by : (slots : List Slot) → slots_at lines (line_of shift key) ≡ slots
      → place_in (all_keys stored (table shift lines tree)) key ≡ first_of (place_in (keys_in stored slots) key) (place_in tree key)
  place_by slots is =
      place_there stored shift lines tree key are t.own
      ∙ ap (λ (s : List Slot). place_in (keys_in stored s ++ tree) key) is
      ∙ lookup-append (is_at (hashed_cmp key)) (keys_in stored slots) tree

  -- by the key's line
  pub place_got : (n : ℕ) (line : Held) → n ≡ line_of shift key → slice_get lines n ≡ Some line
      → place_in (all_keys stored (table shift lines tree)) key ≡ first_of (place_in (keys_in stored line.slots) key) (place_in tree key)
  place_got n line is there = place_by line.slots (ap (slots_at lines) (sym is) ∙ slots_some lines n line there)

  -- without such a line
  pub place_out : (n : ℕ) → n ≡ line_of shift key → length lines ≤ n → place_in (all_keys stored (table shift lines tree)) key ≡ None
  place_out n is out =
      place_by [] (ap (slots_at lines) (sym is) ∙ slots_out lines n out)
      ∙ t.marks key (ap (marked_at lines) (sym is) ∙ marked_out lines n out)

-- ---- more lines

pub made_table : (shift : ℕ) (old lines : List Held) (tree : Keyed) → old ≡ [] → AreEmpty lines → IsTable (table shift old tree) → IsTable (table shift lines tree)
made_table shift old lines tree none empty t = record {
  within = t.within;
  own = empty_own shift 0 lines empty;
  marks = λ key un. t.marks key (ap (λ (l : List Held). marked_at l (line_of shift key)) none);
}

pub made_same : (shift : ℕ) (old lines : List Held) (tree : Keyed) → old ≡ [] → AreEmpty lines → IsSameTable (table shift old tree) (table shift lines tree)
made_same shift old lines tree none empty stored are = (
  empty_are stored lines empty,
  λ q. ap (λ (l : Keyed). place_in (l ++ tree) q) (empty_same stored lines empty) ∙ ap (λ (l : List Held). place_in (keys_among stored l ++ tree) q) (sym none),
)

module _ (old shift : ℕ) (lines : List Held) (tree : Keyed) (is : old ≡ shift + 1) where
  halved : (h : ℕ) → h / 2 ^ old ≡ h / 2 ^ shift / 2
  halved h = ap (λ (n : ℕ). h / 2 ^ n) is ∙ sym (shr-shr h shift 1)

  pub twice_table : IsTable (table old lines tree) → IsTable (table shift (doubled shift lines) tree)
  twice_table t = record {
    within = (let within = t.within in omega (arith, is, within));
    own = own_twice old shift lines halved t.own;
    marks = λ key un. t.marks key (sym (marked_twice shift lines (line_of shift key) (line_of old key) (sym (halved (hash_of key)))) ∙ un);
  }

  pub twice_same : IsSameTable (table old lines tree) (table shift (doubled shift lines) tree)
  twice_same stored are = (
    are_doubled stored shift lines are,
    λ q. lookup-append (is_at (hashed_cmp q)) (keys_among stored (doubled shift lines)) tree
        ∙ ap (λ o. first_of o (place_in tree q)) (doubled_same stored shift lines q are)
        ∙ sym (lookup-append (is_at (hashed_cmp q)) (keys_among stored lines) tree),
  )

-- ---- a key goes to its spot

there_is : {X : Type 0} (xs : List X) (n : ℕ) → n < length xs → (x : X) × (slice_get xs n ≡ Some x)
there_is [] n within = absurd (omega (arith, within))
there_is (x ∷ xs) zero within = (x, refl)
there_is (x ∷ xs) (suc n) within = there_is xs n (omega (arith, within))

first_key : (row : Keyed) (key : List ℕ) (at : ℕ) (x : Pair) → IsFirstAt row key at → slice_get row at ≡ Some x → x.0 ≡ key
first_key [] key at x first is = absurd first
first_key (y ∷ row) key zero x first is = ap (λ (p : Pair). p.0) (sym (same_Some y x is)) ∙ sym (same_at key y.0 first)
first_key (y ∷ row) key (suc at) x first is = first_key row key at x first.1 is

none_first : (a b : Option ℕ) → is_some (first_of a b) ≡ false → a ≡ None
none_first None b none = refl
none_first (Some place) b none = cc

module _ (shift n : ℕ) (lines : List Held) (line line' : Held) (tree : Keyed) (key : List ℕ) (place : ℕ)
    (t : IsTable (table shift lines tree)) (is : n ≡ line_of shift key) (there : slice_get lines n ≡ Some line) (mark : line'.marked ≡ line.marked) where
  abbrev old : Table
  old = table shift lines tree

  abbrev new : Table
  new = table shift (set lines n line') tree

  mine : AreOwn shift n line.slots
  mine = subst (AreOwn shift n) (slots_some lines n line there) (own_at shift lines n t.own)

  slots_is : slots_of old key ≡ line.slots
  slots_is = ap (slots_at lines) (sym is) ∙ slots_some lines n line there

  line_are : (stored : List StoredItem) → AreLines stored lines → AreSlots stored line.slots
  line_are stored are = subst (AreSlots stored) (slots_some lines n line there) (are_at stored lines n are)

  put_table : AreOwn shift n line'.slots → IsTable new
  put_table own' = record {
    within = t.within;
    own = own_set shift lines n line' t.own own';
    marks = λ q un. t.marks q (sym (marked_set lines n (line_of shift q) line' line there mark) ∙ un);
  }

  -- a slot of the key gets the place
  module _ (at : ℕ) (within : at < length line.slots) (slots' : (slot : Slot) → slice_get line.slots at ≡ Some slot → line'.slots ≡ set line.slots at (moved slot place)) where
    abbrev slot : Slot
    slot = (there_is line.slots at within).0

    got : slice_get line.slots at ≡ Some slot
    got = (there_is line.slots at within).1

    slot_own : AreOwn shift n line'.slots
    slot_own = subst (AreOwn shift n) (sym (slots' slot got)) (all_set (λ s. s.hash / 2 ^ shift ≡ n) line.slots at (moved slot place) mine (all_got (λ s. s.hash / 2 ^ shift ≡ n) line.slots at slot mine got))

    pub slot_table : IsTable new
    slot_table = put_table slot_own

    pub slot_put : IsPut old key (Spots.Slot at) place new
    slot_put stored are spot for =
        let row : Keyed = keys_in stored line.slots in
        let first : IsFirstAt row key at = subst (λ (s : List Slot). IsFirstAt (keys_in stored s) key at) slots_is spot.there in
        let found : slice_get row at ≡ Some (key_at stored slot) = key_got stored line.slots at slot got in
        let same : (item_at stored slot.place).key ≡ key = first_key row key at (key_at stored slot) first found in
        let mine' : AreSlots stored line'.slots =
        subst (AreSlots stored) (sym (slots' slot got)) (all_set (IsSlot stored) line.slots at (moved slot place) (line_are stored are) (record {
          below = for.below;
          hash = (all_got (IsSlot stored) line.slots at slot (line_are stored are) got).hash ∙ ap hash_of (same ∙ sym for.key_is);
        })) in
        let keys : keys_in stored line'.slots ≡ set row at ((item_at stored slot.place).key, place) =
        ap (keys_in stored) (slots' slot got) ∙ keys_set stored line.slots at (moved slot place)
        ∙ ap (λ (k : List ℕ). set row at (k, place)) (for.key_is ∙ sym same) in (
          are_set stored lines n line' are mine',
          line_with stored shift n lines line line' tree tree are t.own there mine' slot_own (λ q differ. refl) key (Some place) (sym is)
              (subst (λ (r : Keyed). IsWith (row ++ tree) key (Some place) (r ++ tree)) (sym keys)
              (row_changed row (set row at ((item_at stored slot.place).key, place)) tree key place (item_put row key at (key_at stored slot) place first found))),
        )

  -- the key gets a slot
  module _ (hash : ℕ) (hash_is : hash ≡ hash_of key) (slots' : line'.slots ≡ line.slots ++ record { hash = hash; place = place } ∷ []) where
    abbrev added : Slot
    added = record { hash = hash; place = place }

    new_own : AreOwn shift n line'.slots
    new_own = subst (AreOwn shift n) (sym slots') (all_pushed (λ s. s.hash / 2 ^ shift ≡ n) line.slots added mine (ap (λ (h : ℕ). h / 2 ^ shift) hash_is ∙ sym is))

    pub new_table : IsTable new
    new_table = put_table new_own

    pub new_put : IsPut old key Spots.New place new
    new_put stored are spot for =
        let row : Keyed = keys_in stored line.slots in
        let none : place_in row key ≡ None =
        none_first (place_in row key) (place_in tree key) (ap is_some (sym (place_got stored shift lines tree key are t n line is there)) ∙ spot.had) in
        let mine' : AreSlots stored line'.slots =
        subst (AreSlots stored) (sym slots') (all_pushed (IsSlot stored) line.slots added (line_are stored are) (record {
          below = for.below;
          hash = hash_is ∙ ap hash_of (sym for.key_is);
        })) in
        let keys : keys_in stored line'.slots ≡ row ++ (key, place) ∷ [] =
        ap (keys_in stored) slots' ∙ keys_pushed stored line.slots added ∙ ap (λ (k : List ℕ). row ++ (k, place) ∷ []) for.key_is in (
          are_set stored lines n line' are mine',
          line_with stored shift n lines line line' tree tree are t.own there mine' new_own (λ q differ. refl) key (Some place) (sym is)
              (subst (λ (r : Keyed). IsWith (row ++ tree) key (Some place) (r ++ tree)) (sym keys) (row_longer row tree key place none)),
        )

-- ---- the tree

-- a change at a key leaves the keys of other lines
tree_others : (shift : ℕ) (tree tree' : Keyed) (key : List ℕ) (place : Option ℕ) → IsWith tree key place tree' → (q : List ℕ) → line_of shift q ≢ line_of shift key → place_in tree' q ≡ place_in tree q
tree_others shift tree tree' key place changed q differ = changed q ∙ ap (λ b. cond b place (place_in tree q)) (apart (line_of shift) key q differ)

module _ (shift : ℕ) (lines : List Held) (tree tree' : Keyed) (key : List ℕ) (place : ℕ) (t : IsTable (table shift lines tree)) (changed : IsWith tree key (Some place) tree')
    (some : is_some (place_in tree key) ≡ true) where
  none_by : (q : List ℕ) (b : Bool) → b ≡ is_at (hashed_cmp key) q → place_in tree q ≡ None → cond b (Some place) (place_in tree q) ≡ None
  none_by q true same none =
      let gone : is_some (place_in tree key) ≡ false = ap (λ (k : List ℕ). is_some (place_in tree k)) (same_at key q (sym same)) ∙ ap is_some none in
      cc
  none_by q false same none = none

  pub tree_table : IsTable (table shift lines tree')
  tree_table = record {
    within = t.within;
    own = t.own;
    marks = λ q un. changed q ∙ none_by q (is_at (hashed_cmp key) q) refl (t.marks q un);
  }

  pub tree_put : IsPut (table shift lines tree) key Spots.Tree place (table shift lines tree')
  tree_put stored are spot for = (
    are,
    table_with stored shift (line_of shift key) lines lines tree tree' are t.own are t.own (λ m differ. refl) (tree_others shift tree tree' key (Some place) changed) key (Some place) refl
        (tree_changed (keys_in stored (slots_at lines (line_of shift key))) tree tree' key (Some place) spot.there.0 changed),
  )

-- the tree is asked to give a key another place, and may not have it
module _ (shift : ℕ) (lines : List Held) (tree tree' : Keyed) (key : List ℕ) (place : ℕ) (t : IsTable (table shift lines tree)) where
  pub asked_put : (r : Option ℕ) → r ≡ place_in tree key → OnSome r (IsWith tree key (Some place) tree') → IfNone r (tree' ≡ tree)
      → IsPut (table shift lines tree) key Spots.Tree place (table shift lines tree')
  asked_put None is value none stored are spot for =
      let some : is_some (place_in tree key) ≡ true = spot.there.1 in
      let gone : is_some (place_in tree key) ≡ false = ap is_some (sym is) in
      cc
  asked_put (Some p) is value none stored are spot for = tree_put shift lines tree tree' key place t value (ap is_some (sym is)) stored are spot for

-- a spot's room, by the fields of the table
room_by : (t t' : Table) (key : List ℕ) (spot spot' : Spot) → t' ≡ t → spot ≡ spot' → HasRoom t key spot → HasRoom t' key spot'
room_by t t' key spot spot' same is room =
    subst (λ (s : Spot). HasRoom t' key s) is (subst (λ (u : Table). HasRoom u key spot) (sym same) room)

module _ (shift n : ℕ) (lines : List Held) (tree : Keyed) (key : List ℕ) (now : Table) (spot : Spot) (same : table shift lines tree ≡ now) (is : n ≡ line_of shift key) (room : HasRoom now key spot) where
  pub slot_below : (at : ℕ) → spot ≡ Spots.Slot at → n < length lines
  slot_below at kind = subst (λ (m : ℕ). m < length lines) (sym is) (room_by now (table shift lines tree) key spot (Spots.Slot at) same kind room).0

  pub slot_inside : (at : ℕ) → spot ≡ Spots.Slot at → (line : Held) → slice_get lines n ≡ Some line → at < length line.slots
  slot_inside at kind line there =
      subst (λ (s : List Slot). at < length s) (ap (slots_at lines) (sym is) ∙ slots_some lines n line there)
      (room_by now (table shift lines tree) key spot (Spots.Slot at) same kind room).1

  pub new_below : spot ≡ Spots.New → n < length lines
  new_below kind = subst (λ (m : ℕ). m < length lines) (sym is) (room_by now (table shift lines tree) key spot Spots.New same kind room).0

  pub new_inside : spot ≡ Spots.New → (line : Held) → slice_get lines n ≡ Some line → length line.slots < 7
  new_inside kind line there =
      subst (λ (s : List Slot). length s < 7) (ap (slots_at lines) (sym is) ∙ slots_some lines n line there)
      (room_by now (table shift lines tree) key spot Spots.New same kind room).1

-- ---- a key is removed

none_out : (b : Bool) (o : Option ℕ) → o ≡ None → cond b None o ≡ None
none_out true o none = refl
none_out false o none = none

module _ (stored : List StoredItem) (shift n : ℕ) (lines : List Held) (line line' : Held) (tree tree' : Keyed) (key : List ℕ)
    (t : IsTable (table shift lines tree)) (is : n ≡ line_of shift key) (there : slice_get lines n ≡ Some line) (mark : line'.marked ≡ line.marked)
    (own : (shift at : ℕ) → AreOwn shift at line.slots → AreOwn shift at line'.slots) (changed : IsWith tree key None tree') where
  out_own : AreOwn shift n line'.slots
  out_own = own shift n (subst (AreOwn shift n) (slots_some lines n line there) (own_at shift lines n t.own))

  pub out_table : IsTable (table shift (set lines n line') tree')
  out_table = record {
    within = t.within;
    own = own_set shift lines n line' t.own out_own;
    marks = λ q un. changed q ∙ none_out (is_at (hashed_cmp key) q) (place_in tree q) (t.marks q (sym (marked_set lines n (line_of shift q) line' line there mark) ∙ un));
  }

  pub out_with : AreLines stored lines → AreSlots stored line'.slots → IsWith (keys_in stored line.slots) key None (keys_in stored line'.slots)
      → IsWith (all_keys stored (table shift lines tree)) key None (all_keys stored (table shift (set lines n line') tree'))
  out_with are are' of_line =
      line_with stored shift n lines line line' tree tree' are t.own there are' out_own
      (λ q differ. tree_others shift tree tree' key None changed q (λ same. differ (same ∙ sym is))) key None (sym is)
      (taken_out (keys_in stored line.slots) tree (keys_in stored line'.slots) tree' key of_line changed)

-- a key that has no place is not removed
pub without : (entries : Keyed) (key : List ℕ) → place_in entries key ≡ None → IsWith entries key None entries
without entries key none q = by (is_at (hashed_cmp key) q) refl
  where
    by : (b : Bool) → b ≡ is_at (hashed_cmp key) q → place_in entries q ≡ cond b None (place_in entries q)
    by true same = ap (place_in entries) (sym (same_at key q (sym same))) ∙ none
    by false same = refl

-- ---- room in a line

-- the last slot's key went to the tree
pub roomier_moved : (stored : List StoredItem) (line line' : Held) (tree tree' : Keyed) (last : Slot) → AreSlots stored line.slots → line.slots ≡ line'.slots ++ last ∷ [] → line'.marked ≡ true
    → IsWith tree (item_at stored last.place).key (Some last.place) tree' → IsRoomier stored line tree line' tree'
roomier_moved stored line line' tree tree' last are slots mark changed = record {
  slots = all_popped (IsSlot stored) line'.slots last (subst (AreSlots stored) slots are);
  own = λ shift at own. all_popped (λ s. s.hash / 2 ^ shift ≡ at) line'.slots last (subst (AreOwn shift at) slots own);
  same = subst (λ (r : Keyed). SamePlaces (r ++ tree) (keys_in stored line'.slots ++ tree')) (sym (ap (keys_in stored) slots ∙ keys_pushed stored line'.slots last))
      (entry_moved (keys_in stored line'.slots) tree tree' (item_at stored last.place).key last.place changed);
  others = λ shift at own q differ. tree_others shift tree tree' (item_at stored last.place).key (Some last.place) changed q
      (λ same. differ (same ∙ ap (λ (h : ℕ). h / 2 ^ shift) (sym (last_is shift at own).0.hash) ∙ (last_is shift at own).1));
  mark = λ un. cc;
}
  where
    last_is : (shift at : ℕ) → AreOwn shift at line.slots → IsSlot stored last × (last.hash / 2 ^ shift ≡ at)
    last_is shift at own = (
      all_last (IsSlot stored) line'.slots last (subst (AreSlots stored) slots are),
      all_last (λ s. s.hash / 2 ^ shift ≡ at) line'.slots last (subst (AreOwn shift at) slots own),
    )

-- the line of a key has room
module _ (stored : List StoredItem) (shift n : ℕ) (lines : List Held) (line line' : Held) (tree tree' : Keyed)
    (t : IsTable (table shift lines tree)) (there : slice_get lines n ≡ Some line) (roomier : IsRoomier stored line tree line' tree') where
  room_own : AreOwn shift n line.slots
  room_own = subst (AreOwn shift n) (slots_some lines n line there) (own_at shift lines n t.own)

  pub room_table : IsTable (table shift (set lines n line') tree')
  room_table = record {
    within = t.within;
    own = own_set shift lines n line' t.own (roomier.own shift n room_own);
    marks = λ q un. by q un (same_or_not (line_of shift q) n);
  }
    where
      by : (q : List ℕ) → marked_at (set lines n line') (line_of shift q) ≡ false → (line_of shift q ≡ n) ⊎ (line_of shift q ≢ n) → place_in tree' q ≡ None
      by q un (inl same) =
          let none : line'.marked ≡ false = sym (marked_mine lines n line line' there) ∙ sym (ap (marked_at (set lines n line')) same) ∙ un in
          ap (λ (e : Keyed). place_in e q) (roomier.mark none).1
          ∙ t.marks q (unmarked_set lines n (line_of shift q) line' line there (λ m. (roomier.mark m).0) un)
      by q un (inr differ) =
          roomier.others shift n room_own q differ
          ∙ t.marks q (unmarked_set lines n (line_of shift q) line' line there (λ m. (roomier.mark m).0) un)

  pub room_same : AreLines stored lines → SamePlaces (all_keys stored (table shift lines tree)) (all_keys stored (table shift (set lines n line') tree'))
  room_same are =
      line_same stored shift n lines line line' tree tree' are t.own there roomier.slots (roomier.own shift n room_own) (roomier.others shift n room_own) roomier.same

  pub room_new : (key : List ℕ) → n ≡ line_of shift key → n < length lines → length line'.slots < 7 → HasRoom (table shift (set lines n line') tree') key Spots.New
  room_new key is below few =
      let size : length (set lines n line') ≡ length lines = length-set lines n line' in
      let at : line_of shift key < length lines = subst (λ (m : ℕ). m < length lines) is below in (
        omega (arith, at, size),
        subst (λ (s : List Slot). length s < 7) (sym (ap (slots_at (set lines n line')) (sym is) ∙ slots_same lines n line line' there)) few,
      )

  pub spot_new : (key : List ℕ) → AreLines stored lines → place_in (all_keys stored (table shift lines tree)) key ≡ None → IsSpot stored (table shift (set lines n line') tree') key Spots.New
  spot_new key are none = record { had = ap is_some (room_same are key ∙ none); there = tt }

-- ---- a key that is there

module _ (stored : List StoredItem) (shift : ℕ) (lines : List Held) (tree : Keyed) (key : List ℕ) (are : AreLines stored lines) (t : IsTable (table shift lines tree))
    (n : ℕ) (line : Held) (is : n ≡ line_of shift key) (there : slice_get lines n ≡ Some line) where
  mine_is : slots_at lines (line_of shift key) ≡ line.slots
  mine_is = ap (slots_at lines) (sym is) ∙ slots_some lines n line there

  pub room_slot : (at : ℕ) → n < length lines → at < length line.slots → HasRoom (table shift lines tree) key (Spots.Slot at)
  room_slot at below within = (subst (λ (m : ℕ). m < length lines) is below, subst (λ (s : List Slot). at < length s) (sym mine_is) within)

  pub spot_slot : (at : ℕ) → at < length line.slots → IsFirstAt (keys_in stored line.slots) key at → IsSpot stored (table shift lines tree) key (Spots.Slot at)
  spot_slot at within first =
      let slot = there_is line.slots at within in
      let found = item_got (keys_in stored line.slots) key at (key_at stored slot.0) first (key_got stored line.slots at slot.0 slot.1) in
      record {
        had = ap is_some (place_got stored shift lines tree key are t n line is there ∙ ap (λ o. first_of o (place_in tree key)) found);
        there = subst (λ (s : List Slot). IsFirstAt (keys_in stored s) key at) (sym mine_is) first;
      }

  pub spot_tree : place_in (keys_in stored line.slots) key ≡ None → is_some (place_in tree key) ≡ true → IsSpot stored (table shift lines tree) key Spots.Tree
  spot_tree none some = record {
    had = ap is_some (place_got stored shift lines tree key are t n line is there ∙ ap (λ o. first_of o (place_in tree key)) none) ∙ some;
    there = (ap (λ (s : List Slot). place_in (keys_in stored s) key) mine_is ∙ none, some);
  }

  pub spot_none : place_in (keys_in stored line.slots) key ≡ None → is_some (place_in tree key) ≡ false → place_in (all_keys stored (table shift lines tree)) key ≡ None
  spot_none none some =
      place_got stored shift lines tree key are t n line is there ∙ ap (λ o. first_of o (place_in tree key)) none ∙ none_by_test (place_in tree key) some
    where
      none_by_test : (o : Option ℕ) → is_some o ≡ false → o ≡ None
      none_by_test None is = refl
      none_by_test (Some p) is = cc
