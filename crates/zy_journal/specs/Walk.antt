-- What is left of histories that are walked, and which of their first entries comes next. No public clause cites this
-- module.
use Rattle.std.specs.Prelude.{◌≡◌, ◌≢◌, ℕ, ◌+◌, ◌-◌, ◌*◌, ◌^◌, ◌<◌, ◌≤◌, true, false, get_or, List, [], ◌∷◌, drop}
use Rattle.std.specs.Prelude.{Option, None, Some, if◌then◌else◌}
use Rattle.mc_calls.specs.declared.entry.Entry.{Entry}
use Rattle.mc_calls.specs.Order.{history_of}
use Rattle.zy_journal.specs.declared.heads.Head.{Head}
use Rattle.zy_journal.specs.declared.heads.Least.{Least}
use Rattle.zy_journal.specs.Merged.{is_earlier}

-- the lists, each without this many of its first entries
unfoldable pub rests_of : List (List Entry) → List ℕ → List (List Entry)
rests_of [] places = []
rests_of (h ∷ hs) [] = h ∷ hs
rests_of (h ∷ hs) (n ∷ ns) = drop n h ∷ rests_of hs ns

-- the stamp of the first entry, if there is one
abbrev pub first_stamp : List Entry → Option ℕ
first_stamp [] = None
first_stamp (e ∷ es) = Some e.stamp

-- the stamp of the first entry of a list
abbrev pub head_of : List (List Entry) → ℕ → Option ℕ
head_of rests shard = first_stamp (history_of rests shard)

-- these are the stamps of the first entries of all lists
abbrev pub AreHeads : List (List Entry) → List (Option ℕ) → Type 0
AreHeads rests heads = (shard : ℕ) → get_or heads shard None ≡ head_of rests shard

-- this is the entry that comes first of the first entries of the lists from one up to another
pub record IsFirstOf (rests : List (List Entry)) (low high : ℕ) (head : Head) : Type 0 where
  pub from : low ≤ head.shard
  pub to : head.shard < high
  pub is : head_of rests head.shard ≡ Some head.stamp
  pub first : (shard stamp : ℕ) → low ≤ shard → shard < high → shard ≢ head.shard → head_of rests shard ≡ Some stamp
      → is_earlier head.stamp head.shard stamp shard ≡ true

-- the one that comes first of the first entries of these lists; none if all are empty
abbrev pub IsBest : List (List Entry) → ℕ → ℕ → Option Head → Type 0
IsBest rests low high None = (shard : ℕ) → low ≤ shard → shard < high → head_of rests shard ≡ None
IsBest rests low high (Some head) = IsFirstOf rests low high head

-- the first entry that was found, if one was
abbrev pub best_in : Least → Option Head
best_in least = if least.found then Some (record { shard = least.shard; stamp = least.stamp }) else None

-- this one was found of these lists; the stamp is the largest number if none was
abbrev pub IsLeastIn : List (List Entry) → ℕ → ℕ → Least → Type 0
IsLeastIn rests low high least =
    IsBest rests low high (best_in least) × (least.found ≡ false → least.stamp ≡ 2 ^ 64 - 1)

-- these are, for every four lists, the first entries that come first
abbrev pub AreQuads : List (List Entry) → List (Option Head) → Type 0
AreQuads rests quads = (quad : ℕ) → quad < 64 → IsBest rests (4 * quad) (4 * quad + 4) (get_or quads quad None)

-- these are, for every 16 lists, the first entries that come first
abbrev pub AreBests : List (List Entry) → List (Option Head) → Type 0
AreBests rests bests = (group : ℕ) → group < 16 → IsBest rests (16 * group) (16 * group + 16) (get_or bests group None)

-- the first entry of this list comes next
pub record IsLeast (rests : List (List Entry)) (at : ℕ) : Type 0 where
  pub first : ℕ
  pub is : head_of rests at ≡ Some first
  pub least : (shard stamp : ℕ) → shard ≢ at → head_of rests shard ≡ Some stamp
      → is_earlier first at stamp shard ≡ true

-- an entry was taken off this list, and no other changed
pub record IsTakenAt (at : ℕ) (old new : List (List Entry)) (e : Entry) : Type 0 where
  pub own : history_of old at ≡ e ∷ history_of new at
  pub others : (shard : ℕ) → at ≢ shard → history_of old shard ≡ history_of new shard

-- the next entry of all was taken
pub record IsNext (old new : List (List Entry)) (e : Entry) : Type 0 where
  pub at : ℕ
  pub least : IsLeast old at
  pub taken : IsTakenAt at old new e
