-- The entries of a shard that counts belong to. No public clause cites this module.
use Rattle.std.specs.Prelude.{◌≡◌, ℕ, ◌-◌, ◌^◌, ◌<◌, List, [], length, get_or, count_by}
use Rattle.std.specs.List.{list_any}
use Rattle.std.specs.Ordering.{nat_cmp}
use Rattle.std.specs.Cmp.Lexicographic.{slice_cmp}
use Rattle.std.specs.FinMap.{contains_key, len}
use Rattle.std.specs.BTreeMap.{is_at}
use Rattle.mc_stats.specs.Counts.{no_counts}
use Rattle.mc_calls.specs.declared.entry.Entry.{Entry}
use Rattle.mc_calls.specs.Counted.{KeySet, no_keys, keys_after, CallCounts, is_get, is_set, is_hit, is_miss}
use Rattle.mc_calls.specs.Order.{at_shard}
use Rattle.zy_report.specs.Counting.{Counting}
use Rattle.zy_report.specs.Report.{shards_in}

-- ---- one shard

-- the counts of calls that are kept
abbrev pub calls_kept : Counting → CallCounts
calls_kept kept = record {
  gets = kept.calls.gets;
  sets = kept.calls.sets;
  hits = kept.calls.hits;
  misses = kept.calls.misses;
}

-- the counts of calls of these entries
abbrev pub calls_counted : List Entry → CallCounts
calls_counted es = record {
  gets = count_by (λ (e : Entry). is_get e.call) es;
  sets = count_by (λ (e : Entry). is_set e.call) es;
  hits = count_by (λ (e : Entry). is_hit e.call e.reply) es;
  misses = count_by (λ (e : Entry). is_miss e.call e.reply) es;
}

-- the list has the keys of the set, each once
pub record AreKeysOf (keys : KeySet) (list : List (List ℕ)) : Type 0 where
  pub each : (key : List ℕ) → list_any (is_at (slice_cmp nat_cmp key)) list ≡ contains_key keys key
  pub size : length list ≡ len keys

-- what is kept was counted of these entries
pub record CountsEntries (kept : Counting) (es : List Entry) : Type 0 where
  pub calls : calls_kept kept ≡ calls_counted es
  pub keys : AreKeysOf (keys_after no_keys es) kept.keys

-- each count of calls can be raised
pub record CanCount (kept : Counting) : Type 0 where
  pub gets : kept.calls.gets < 2 ^ 64 - 1
  pub sets : kept.calls.sets < 2 ^ 64 - 1
  pub hits : kept.calls.hits < 2 ^ 64 - 1
  pub misses : kept.calls.misses < 2 ^ 64 - 1

-- ---- all shards

-- nothing is counted
abbrev pub none_kept : Counting
none_kept = record { calls = no_counts; keys = [] }

-- what is kept of a shard; nothing is counted of one past the last
abbrev pub kept_at : List Counting → ℕ → Counting
kept_at kept shard = get_or kept shard none_kept

-- what is kept was counted of these entries, shard by shard
pub record CountsAll (kept : List Counting) (es : List Entry) : Type 0 where
  pub size : length kept ≡ shards_in es
  pub each : (shard : ℕ) → CountsEntries (kept_at kept shard) (at_shard shard es)
