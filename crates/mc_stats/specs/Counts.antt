-- The counts of one shard, and what each call and each change of its items adds to them.
use Rattle.std.specs.Prelude.{◌+◌, ◌-◌, Bool, if◌then◌else◌}
use Rattle.mc_stats.specs.declared.counts.Counts.{Counts}

-- nothing is counted
abbrev pub no_counts : Counts
no_counts = record { gets = 0; sets = 0; hits = 0; misses = 0; items = 0 }

-- a get is counted, and whether it found an item
abbrev pub with_get : Bool → Counts → Counts
with_get hit counts = record {
  gets = counts.gets + 1;
  sets = counts.sets;
  hits = if hit then counts.hits + 1 else counts.hits;
  misses = if hit then counts.misses else counts.misses + 1;
  items = counts.items;
}

-- a call that stores a value is counted
abbrev pub with_set : Counts → Counts
with_set counts = record {
  gets = counts.gets;
  sets = counts.sets + 1;
  hits = counts.hits;
  misses = counts.misses;
  items = counts.items;
}

-- one more item is counted
abbrev pub with_item : Counts → Counts
with_item counts = record {
  gets = counts.gets;
  sets = counts.sets;
  hits = counts.hits;
  misses = counts.misses;
  items = counts.items + 1;
}

-- one item less is counted
abbrev pub without_item : Counts → Counts
without_item counts = record {
  gets = counts.gets;
  sets = counts.sets;
  hits = counts.hits;
  misses = counts.misses;
  items = counts.items - 1;
}

-- no item is counted
abbrev pub without_items : Counts → Counts
without_items counts = record {
  gets = counts.gets;
  sets = counts.sets;
  hits = counts.hits;
  misses = counts.misses;
  items = 0;
}
