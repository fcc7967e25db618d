-- The shard of a key: Fowler, Noll and Vo, "The FNV Non-Cryptographic Hash Algorithm", FNV-1a of 32 bits.
use Rattle.std.specs.Prelude.{ℕ, ◌*◌, ◌%◌, ◌^◌, List, [], ◌∷◌, bit_xor}

-- the hash of bytes that follow others, whose hash is the number
abbrev pub hash_after : ℕ → List ℕ → ℕ
hash_after hash [] = hash
hash_after hash (byte ∷ bytes) = hash_after ((bit_xor hash byte * 16777619) % 2 ^ 32) bytes

-- the 32-bit FNV-1a hash of bytes
abbrev pub hash_of : List ℕ → ℕ
hash_of bytes = hash_after 2166136261 bytes

-- the number of a key's shard, among `shards` shards
abbrev pub shard_of : List ℕ → ℕ → ℕ
shard_of key shards = hash_of key % shards
