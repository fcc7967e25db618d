-- Where a shard keeps the places of its items: lines of slots, and a tree. No public clause cites this module.
use Rattle.std.specs.Prelude.{◌≡◌, ◌≢◌, ℕ, zero, suc, ◌==◌, ◌/◌, ◌%◌, ◌^◌, ◌<◌, List, [], ◌∷◌, ◌++◌, length, map, Option, None, Some, Bool, true, false, cond, is_some, ⊤}
use Rattle.std.specs.Map.{lookup}
use Rattle.std.specs.BTreeMap.{is_at}
use Rattle.std.specs.List.{AllByRecursion}
use Rattle.mc_calls.specs.Key.{hash_of}
use Rattle.mc_history.specs.declared.stored_item.StoredItem.{StoredItem}
use Rattle.mc_history.specs.Recorded.{item_at}
use Rattle.mc_shard.specs.declared.slot.Slot.{Slot}
use Rattle.mc_shard.specs.declared.slot.Spot.{Spot}
use Rattle.mc_shard.specs.declared.slot.Spot.TheVariants as Spots
use Rattle.mc_shard.specs.Contents.{hashed_cmp}

-- ---- keys with places

-- keys with the places of their items
abbrev pub Keyed : Type 0
Keyed = List (List ℕ × ℕ)

-- the place that the entries have at a key
abbrev pub place_in : Keyed → List ℕ → Option ℕ
place_in entries key = lookup (is_at (hashed_cmp key)) entries

-- the places are the same except at the key, which now has this one or none
abbrev pub IsWith : Keyed → List ℕ → Option ℕ → Keyed → Type 0
IsWith old key place new =
    (q : List ℕ) → place_in new q ≡ cond (is_at (hashed_cmp key) q) place (place_in old q)

-- each key has the same place
abbrev pub SamePlaces : Keyed → Keyed → Type 0
SamePlaces old new = (q : List ℕ) → place_in new q ≡ place_in old q

-- the entry at this index is the first one with the key
abbrev pub IsFirstAt : Keyed → List ℕ → ℕ → Type 0
IsFirstAt [] key at = ⊥
IsFirstAt (entry ∷ entries) key zero = is_at (hashed_cmp key) entry.0 ≡ true
IsFirstAt (entry ∷ entries) key (suc at) = (is_at (hashed_cmp key) entry.0 ≡ false) × IsFirstAt entries key at

-- this many of the first entries are at other keys
abbrev pub NoneBefore : Keyed → List ℕ → ℕ → Type 0
NoneBefore entries key zero = ⊤
NoneBefore [] key (suc at) = ⊤
NoneBefore (entry ∷ entries) key (suc at) = (is_at (hashed_cmp key) entry.0 ≡ false) × NoneBefore entries key at

-- ---- a line

-- the slots of a line, and whether the tree may have a key of it
pub record Held : Type 0 where
  pub slots : List Slot
  pub marked : Bool

-- the key that is stored at the place of a slot, with this place
abbrev pub key_at : List StoredItem → Slot → List ℕ × ℕ
key_at stored slot = ((item_at stored slot.place).key, slot.place)

-- the slot with another place
abbrev pub moved : Slot → ℕ → Slot
moved slot place = record { hash = slot.hash; place = place }

-- the keys of slots, with their places
abbrev pub keys_in : List StoredItem → List Slot → Keyed
keys_in stored slots = map (key_at stored) slots

-- the place is that of something that was stored at this key
pub record IsFor (stored : List StoredItem) (key : List ℕ) (place : ℕ) : Type 0 where
  pub below : place < length stored
  pub key_is : (item_at stored place).key ≡ key

-- the place of a slot is there, and its hash is that of the key there
pub record IsSlot (stored : List StoredItem) (slot : Slot) : Type 0 where
  pub below : slot.place < length stored
  pub hash : slot.hash ≡ hash_of (item_at stored slot.place).key

-- these slots are all of this kind
abbrev pub AreSlots : List StoredItem → List Slot → Type 0
AreSlots stored slots = AllByRecursion (IsSlot stored) slots

-- these slots are all in the line with the number `at`, by the first bits of their hashes
abbrev pub AreOwn : ℕ → ℕ → List Slot → Type 0
AreOwn shift at slots = AllByRecursion (λ slot. slot.hash / 2 ^ shift ≡ at) slots

-- the slots that have this bit next
abbrev pub sifted : ℕ → ℕ → List Slot → List Slot
sifted shift bit [] = []
sifted shift bit (slot ∷ slots) =
    cond (slot.hash / 2 ^ shift % 2 == bit) (slot ∷ sifted shift bit slots) (sifted shift bit slots)

-- the half of a line whose slots have this bit next
abbrev pub half : ℕ → ℕ → Held → Held
half shift bit line = record { slots = sifted shift bit line.slots; marked = line.marked }

-- ---- the lines and the tree

-- the lines, which have the first bits of hashes for numbers, and keys that found their line full
pub record Table : Type 0 where
  -- how many bits of a hash are not in the number of its line
  pub shift : ℕ
  pub lines : List Held
  pub tree : Keyed

-- these lines and this tree
abbrev pub table : ℕ → List Held → Keyed → Table
table shift lines tree = record { shift = shift; lines = lines; tree = tree }

-- no lines, and no key in the tree
abbrev pub no_places : Table
no_places = table 28 [] []

-- the number of a key's line
abbrev pub line_of : ℕ → List ℕ → ℕ
line_of shift key = hash_of key / 2 ^ shift

-- the slots of the line with this number, none without such a line
abbrev pub slots_at : List Held → ℕ → List Slot
slots_at [] n = []
slots_at (line ∷ lines) zero = line.slots
slots_at (line ∷ lines) (suc n) = slots_at lines n

-- whether the line with this number is marked
abbrev pub marked_at : List Held → ℕ → Bool
marked_at [] n = false
marked_at (line ∷ lines) zero = line.marked
marked_at (line ∷ lines) (suc n) = marked_at lines n

-- the keys of lines, one line after another
abbrev pub keys_among : List StoredItem → List Held → Keyed
keys_among stored [] = []
keys_among stored (line ∷ lines) = keys_in stored line.slots ++ keys_among stored lines

-- all keys with their places
abbrev pub all_keys : List StoredItem → Table → Keyed
all_keys stored table = keys_among stored table.lines ++ table.tree

-- the slots of all lines have places that are there, and the hashes of the keys there
abbrev pub AreLines : List StoredItem → List Held → Type 0
AreLines stored lines = AllByRecursion (λ line. AreSlots stored line.slots) lines

-- these lines, which are numbered from `at` on, have their own slots
abbrev pub HaveOwn : ℕ → ℕ → List Held → Type 0
HaveOwn shift at [] = ⊤
HaveOwn shift at (line ∷ lines) = AreOwn shift at line.slots × HaveOwn shift (suc at) lines

-- each slot is in its line, and the tree has keys of marked lines only
pub record IsTable (table : Table) : Type 0 where
  pub within : table.shift < 32
  pub own : HaveOwn table.shift 0 table.lines
  pub marks : (key : List ℕ) → marked_at table.lines (line_of table.shift key) ≡ false → place_in table.tree key ≡ None

-- twice the lines, each in two halves
abbrev pub doubled : ℕ → List Held → List Held
doubled shift [] = []
doubled shift (line ∷ lines) = half shift 0 line ∷ half shift 1 line ∷ doubled shift lines

-- lines without a slot and without a mark
abbrev pub AreEmpty : List Held → Type 0
AreEmpty lines = AllByRecursion (λ line. (line.slots ≡ []) × (line.marked ≡ false)) lines

-- each key has the same place, whatever was stored
abbrev pub IsSameTable : Table → Table → Type 0
IsSameTable old new = (stored : List StoredItem) → AreLines stored old.lines
    → AreLines stored new.lines × SamePlaces (all_keys stored old) (all_keys stored new)

-- the line has fewer slots, and the tree a key that it lacks; or both are as they were
pub record IsRoomier (stored : List StoredItem) (line : Held) (tree : Keyed) (line' : Held) (tree' : Keyed)
    : Type 0 where
  pub slots : AreSlots stored line'.slots
  pub own : (shift at : ℕ) → AreOwn shift at line.slots → AreOwn shift at line'.slots
  pub same : SamePlaces (keys_in stored line.slots ++ tree) (keys_in stored line'.slots ++ tree')
  pub others : (shift at : ℕ) → AreOwn shift at line.slots
      → (q : List ℕ) → line_of shift q ≢ at → place_in tree' q ≡ place_in tree q
  pub mark : (line'.marked ≡ false) → (line.marked ≡ false) × (tree' ≡ tree)

-- ---- where a key goes

-- the slots of a key's line
abbrev pub slots_of : Table → List ℕ → List Slot
slots_of table key = slots_at table.lines (line_of table.shift key)

-- there is such a slot, or room for one more
abbrev pub HasRoom : Table → List ℕ → Spot → Type 0
HasRoom table key (Spots.Slot at) = (line_of table.shift key < length table.lines) × (at < length (slots_of table key))
HasRoom table key Spots.Tree = ⊤
HasRoom table key Spots.New = (line_of table.shift key < length table.lines) × (length (slots_of table key) < 7)

-- whether the key of such a spot has a place
abbrev pub had_by : Spot → Bool
had_by (Spots.Slot at) = true
had_by Spots.Tree = true
had_by Spots.New = false

-- the key is at this spot if it is anywhere
abbrev pub IsAt : List StoredItem → Table → List ℕ → Spot → Type 0
IsAt stored table key (Spots.Slot at) = IsFirstAt (keys_in stored (slots_of table key)) key at
IsAt stored table key Spots.Tree =
    (place_in (keys_in stored (slots_of table key)) key ≡ None) × (is_some (place_in table.tree key) ≡ true)
IsAt stored table key Spots.New = ⊤

-- the spot of a key
pub record IsSpot (stored : List StoredItem) (table : Table) (key : List ℕ) (spot : Spot) : Type 0 where
  pub had : is_some (place_in (all_keys stored table) key) ≡ had_by spot
  pub there : IsAt stored table key spot

-- the key has this place, in this spot
abbrev pub IsPut : Table → List ℕ → Spot → ℕ → Table → Type 0
IsPut old key spot place new = (stored : List StoredItem) → AreLines stored old.lines → IsSpot stored old key spot
    → IsFor stored key place
    → AreLines stored new.lines × IsWith (all_keys stored old) key (Some place) (all_keys stored new)
