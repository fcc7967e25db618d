-- The report on a journal, docs/FORMATS.md, "Report": a line for each shard of which a count is not 0,
-- and a line of the sums.
use Rattle.std.specs.Prelude.{ℕ, ◌+◌, ◌-◌, ◌==◌, ◌&&◌, max, Bool, if◌then◌else◌, List, [], ◌∷◌, ◌++◌, length, map}
use Rattle.std.specs.Prelude.{replicate, codes, decimal}
use Rattle.std.specs.List.{range_with_len, sum_by}
use Rattle.mc_calls.specs.declared.entry.Entry.{Entry}
use Rattle.mc_calls.specs.declared.tallied.Tallied.{Tallied}
use Rattle.mc_calls.specs.Counted.{counted}
use Rattle.mc_calls.specs.Order.{at_shard}

-- ---- counts

-- how many shards there are up to the last one that an entry names
abbrev pub shards_in : List Entry → ℕ
shards_in [] = 0
shards_in (e ∷ es) = max (e.shard + 1) (shards_in es)

-- what is counted of the entries of each of these shards, from shard 0 on
abbrev pub counts_by_shard : List Entry → List Tallied
counts_by_shard es = map (λ shard. counted (at_shard shard es)) (range_with_len 0 (shards_in es))

-- all counts are 0
abbrev pub counts_nothing : Tallied → Bool
counts_nothing counts =
    (counts.gets == 0) && (counts.sets == 0) && (counts.hits == 0) && (counts.misses == 0) && (counts.items == 0)

-- the sums over some shards
abbrev pub sums : List Tallied → Tallied
sums counts = record {
  gets = sum_by (λ (c : Tallied). c.gets) counts;
  sets = sum_by (λ (c : Tallied). c.sets) counts;
  hits = sum_by (λ (c : Tallied). c.hits) counts;
  misses = sum_by (λ (c : Tallied). c.misses) counts;
  items = sum_by (λ (c : Tallied). c.items) counts;
}

-- ---- lines

-- a text after spaces that fill up this many places; a longer text takes more
abbrev pub right : ℕ → List ℕ → List ℕ
right places text = replicate (places - length text) 32 ++ text

-- a number, after spaces that fill up 12 places
abbrev pub count_text : ℕ → List ℕ
count_text number = right 12 (decimal number)

-- a line: what is counted, in 3 places, and the counts
abbrev pub line_text : List ℕ → Tallied → List ℕ
line_text name counts =
    right 3 name ++ (count_text counts.gets ++ (count_text counts.sets ++ (count_text counts.hits
    ++ (count_text counts.misses ++ (count_text counts.items ++ codes "\n")))))

-- the line of a shard; none if each count is 0
abbrev pub shard_text : ℕ → Tallied → List ℕ
shard_text shard counts = if counts_nothing counts then [] else line_text (decimal shard) counts

-- the lines of shards, from this one on
abbrev pub shards_text : ℕ → List Tallied → List ℕ
shards_text shard [] = []
shards_text shard (counts ∷ others) = shard_text shard counts ++ shards_text (shard + 1) others

-- the lines of all shards, and the line of their sums
abbrev pub table : List Tallied → List ℕ
table counts = shards_text 0 counts ++ line_text (codes "all") (sums counts)

-- the report on some entries
unfoldable pub report_of : List Entry → List ℕ
report_of es = table (counts_by_shard es)
