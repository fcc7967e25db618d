-- Lists of entries: those of a connection, those of a shard, and their order by stamp.
use Rattle.std.specs.Prelude.{◌≡◌, ◌⊎◌, ℕ, ◌<◌, ◌==◌, List, [], ◌∷◌, filter, Option, None, Some, unwrap_or, ⊤}
use Rattle.std.specs.List.{slice_get}
use Rattle.mc_calls.specs.declared.entry.Entry.{Entry}

-- the entries of a connection, in the list's order
abbrev pub of_connection : ℕ → List Entry → List Entry
of_connection connection es = filter (λ e. e.tag.conn == connection) es

-- the entries at a shard, in the list's order
abbrev pub at_shard : ℕ → List Entry → List Entry
at_shard shard es = filter (λ e. e.shard == shard) es

-- every entry is at this shard
abbrev pub AreAt : ℕ → List Entry → Type 0
AreAt shard [] = ⊤
AreAt shard (e ∷ es) = (e.shard ≡ shard) × AreAt shard es

-- the shard of each entry is one of `shards` shards
abbrev pub AreBelow : ℕ → List Entry → Type 0
AreBelow shards [] = ⊤
AreBelow shards (e ∷ es) = (e.shard < shards) × AreBelow shards es

-- the entries of the list with this index; none if there is no such list
abbrev pub history_of : List (List Entry) → ℕ → List Entry
history_of histories shard = unwrap_or (slice_get histories shard) []

-- the entries of each list are at the shard whose number is the list's index
abbrev pub AreByShard : List (List Entry) → Type 0
AreByShard histories = (shard : ℕ) → AreAt shard (history_of histories shard)

-- the stamp of the last entry, or the one before all if there is no entry
abbrev pub last_stamp : ℕ → List Entry → ℕ
last_stamp before [] = before
last_stamp before (e ∷ es) = last_stamp e.stamp es

-- the stamps rise strictly, and are above the one before
abbrev pub StampsRise : ℕ → List Entry → Type 0
StampsRise before [] = ⊤
StampsRise before (e ∷ es) = (before < e.stamp) × StampsRise e.stamp es

-- every stamp is below a limit
abbrev pub AreStampsBelow : ℕ → List Entry → Type 0
AreStampsBelow limit [] = ⊤
AreStampsBelow limit (e ∷ es) = (e.stamp < limit) × AreStampsBelow limit es

-- an entry comes before another: its stamp is lower, or the stamps are equal and its shard is lower
abbrev pub IsBefore : Entry → Entry → Type 0
IsBefore x y = (x.stamp < y.stamp) ⊎ ((x.stamp ≡ y.stamp) × (x.shard < y.shard))

-- an entry comes after the one before, if there is one
abbrev pub IsBehind : Option Entry → Entry → Type 0
IsBehind None e = ⊤
IsBehind (Some before) e = IsBefore before e

-- the entries come after the one before, and are ordered by stamp and, if stamps are equal, by
-- shard
abbrev pub IsOrdered : Option Entry → List Entry → Type 0
IsOrdered before [] = ⊤
IsOrdered before (e ∷ es) = IsBehind before e × IsOrdered (Some e) es

-- the list is in order, and has at each shard the entries of that shard's history and no others
pub record IsMergeOf (histories : List (List Entry)) (es : List Entry) : Type 0 where
  pub ordered : IsOrdered None es
  pub parts : (shard : ℕ) → at_shard shard es ≡ history_of histories shard

-- the calls are those of a connection in these histories, in the order of their stamps
pub record AreCallsOf (connection : ℕ) (histories : List (List Entry)) (calls : List Entry) : Type 0 where
  -- at each shard they are the connection's part of that shard's history
  pub parts : (shard : ℕ) → of_connection connection (history_of histories shard) ≡ at_shard shard calls
  -- their stamps rise strictly, from 1 or more
  pub stamps : StampsRise 0 calls
