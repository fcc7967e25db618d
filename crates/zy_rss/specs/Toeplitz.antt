-- The hash of receive side scaling: Microsoft, "RSS hashing functions", "Toeplitz hash", with the key of its page
-- "Verifying the RSS hash calculation".
use Rattle.std.specs.Prelude.{ℕ, zero, suc, ◌+◌, ◌-◌, ◌*◌, ◌/◌, ◌%◌, ◌^◌, ◌==◌, if◌then◌else◌, List, [], ◌∷◌}
use Rattle.std.specs.Prelude.{slice_index, bit_xor}

-- ---- bits

-- the bit at a place of some bytes, 0 or 1; place 0 is the highest bit of the first byte
abbrev pub bit_at : List ℕ → ℕ → ℕ
bit_at bytes place = (slice_index bytes (place / 8) / 2 ^ (7 - place % 8)) % 2

-- the number that the `count` bits from a place on make
abbrev pub bits_from : List ℕ → ℕ → ℕ → ℕ
bits_from bytes place zero = 0
bits_from bytes place (suc count) = bit_at bytes place * 2 ^ count + bits_from bytes (place + 1) count

-- ---- the hash

-- the key of 40 bytes
abbrev pub key : List ℕ
key =
    109 ∷ 90 ∷ 86 ∷ 218 ∷ 37 ∷ 91 ∷ 14 ∷ 194 ∷ 65 ∷ 103 ∷ 37 ∷ 61 ∷ 67 ∷ 163 ∷ 143 ∷ 176 ∷ 208 ∷ 202 ∷ 43 ∷ 203
    ∷ 174 ∷ 123 ∷ 48 ∷ 180 ∷ 119 ∷ 203 ∷ 45 ∷ 163 ∷ 128 ∷ 48 ∷ 242 ∷ 12 ∷ 106 ∷ 66 ∷ 183 ∷ 59 ∷ 190 ∷ 172 ∷ 1 ∷ 250 ∷ []

-- the 32 bits of the key from a place on
unfoldable pub window : ℕ → ℕ
window place = bits_from key place 32

-- what the bit at a place adds: the key's 32 bits from the same place on if it is 1, and 0 otherwise
abbrev pub term : List ℕ → ℕ → ℕ
term input place = if bit_at input place == 1 then window place else 0

-- the exclusive or of what the first `count` bits add
unfoldable pub hash_of_first : List ℕ → ℕ → ℕ
hash_of_first input zero = 0
hash_of_first input (suc count) = bit_xor (hash_of_first input count) (term input count)

-- the hash of twelve bytes: source address, destination address, source port, destination port
abbrev pub toeplitz : List ℕ → ℕ
toeplitz input = hash_of_first input 96
