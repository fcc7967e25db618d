-- The words of a ring with m places, by their numbers: 0 is the head, 16 is the tail, the cells
-- begin at 32, and the doorbells come after them.
use Rattle.std.specs.Prelude.{ℕ, ◌+◌, ◌/◌, ◌%◌, List, slice_index}
use Rattle.std.specs.Int.{bit_at}

-- the value of the cell of the k-th place that is published
abbrev pub cell : List ℕ → ℕ → ℕ → ℕ
cell words m k = slice_index words (32 + k % m)

-- the doorbell bit of a place
abbrev pub bell_at : List ℕ → ℕ → ℕ → ℕ
bell_at words m place = bit_at (slice_index words (32 + m + place / 64)) (place % 64)

-- the number of doorbell words
abbrev pub bell_words : ℕ → ℕ
bell_words m = (m + 63) / 64
