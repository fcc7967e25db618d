-- The key that a call on a shard is about.
use Rattle.std.specs.Prelude.{ℕ, List, Option}
use Rattle.mc_calls.specs.declared.call.Call.{Call}
use Rattle.mc_calls.specs.Table.{parts_of}

-- the key of a call; a flush and a tally have none
abbrev pub key_of : Call → Option (List ℕ)
key_of call = (parts_of call).key
