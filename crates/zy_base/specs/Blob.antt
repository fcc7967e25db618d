-- The bytes of a byte string, wherever they are kept.
use Rattle.std.specs.Prelude.{ℕ, ◌+◌, ◌≤◌, List, length, take, drop, ⊤}
use Rattle.zy_base.specs.declared.storage.Storage.{Storage}
use Rattle.zy_base.specs.declared.storage.Storage.TheVariants.{Short, Own, Shared}

-- the bytes that are kept: in place, in a vector, or in a part of a vector with several owners
abbrev pub bytes_of : Storage → List ℕ
bytes_of (Short short) = short
bytes_of (Own bytes) = bytes.items
bytes_of (Shared block from len) = take len (drop from block.value.items)

-- the vector has the part that is used
abbrev pub IsWithin : Storage → Type 0
IsWithin (Short short) = ⊤
IsWithin (Own bytes) = ⊤
IsWithin (Shared block from len) = from + len ≤ length block.value.items
