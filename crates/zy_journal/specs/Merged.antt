-- The merged list of histories, as a function of them. No public clause cites this module: that the list is the merge
-- of the histories is a clause of `merge`.
use Rattle.std.specs.Prelude.{ℕ, ◌==◌, ◌&&◌, ◌||◌, nat_lt, if◌then◌else◌, Bool, List, [], ◌∷◌, None}
use Rattle.mc_calls.specs.declared.entry.Entry.{Entry}
use Rattle.mc_calls.specs.Order.{AreByShard, history_of, IsOrdered}

-- an entry with this stamp and shard comes before one with those: its stamp is lower, or the stamps are equal and its
-- shard is lower
abbrev pub is_earlier : ℕ → ℕ → ℕ → ℕ → Bool
is_earlier stamp shard other place = nat_lt stamp other || (stamp == other && nat_lt shard place)

-- an entry put into a list in order, before the first one that comes after it
unfoldable pub inserted : Entry → List Entry → List Entry
inserted e [] = e ∷ []
inserted e (y ∷ ys) = if is_earlier e.stamp e.shard y.stamp y.shard then e ∷ y ∷ ys else y ∷ inserted e ys

-- all entries of a history put into a list in order
unfoldable pub inserted_all : List Entry → List Entry → List Entry
inserted_all [] ys = ys
inserted_all (e ∷ es) ys = inserted e (inserted_all es ys)

-- the entries of all histories by stamp and then by shard
unfoldable pub merged : List (List Entry) → List Entry
merged [] = []
merged (es ∷ rest) = inserted_all es (merged rest)

-- each entry is in the history of its shard, and each history is in order
pub record AreInOrder (histories : List (List Entry)) : Type 0 where
  pub shards : AreByShard histories
  pub ordered : (shard : ℕ) → IsOrdered None (history_of histories shard)
