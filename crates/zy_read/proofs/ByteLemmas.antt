-- Texts whose numbers are those of bytes: their parts, and texts of such parts.
use Rattle.std.proofs.Common.{ℕ, zero, suc, ◌<◌, List, [], ◌∷◌, ◌++◌, take, drop, get_or, arith}
use Rattle.zy_read.specs.Bytes.{AreBytes}

-- each number of a slice of bytes is below 256
pub each_byte : (bytes : List ℕ) → ((i : ℕ) → get_or bytes i 0 < 256) → AreBytes bytes
each_byte [] each = tt
each_byte (byte ∷ bytes) each = (each 0, each_byte bytes (λ i. each (suc i)))

pub byte_at : (bytes : List ℕ) → AreBytes bytes → (i : ℕ) → get_or bytes i 0 < 256
byte_at [] all i = omega arith
byte_at (byte ∷ bytes) all zero = all.0
byte_at (byte ∷ bytes) all (suc i) = byte_at bytes all.1 i

pub bytes_append : (x y : List ℕ) → AreBytes x → AreBytes y → AreBytes (x ++ y)
bytes_append [] y front back = back
bytes_append (byte ∷ x) y front back = (front.0, bytes_append x y front.1 back)

pub bytes_front : (x y : List ℕ) → AreBytes (x ++ y) → AreBytes x
bytes_front [] y all = tt
bytes_front (byte ∷ x) y all = (all.0, bytes_front x y all.1)

pub bytes_back : (x y : List ℕ) → AreBytes (x ++ y) → AreBytes y
bytes_back [] y all = all
bytes_back (byte ∷ x) y all = bytes_back x y all.1

pub bytes_take : (n : ℕ) (bytes : List ℕ) → AreBytes bytes → AreBytes (take n bytes)
bytes_take zero bytes all = tt
bytes_take (suc n) [] all = tt
bytes_take (suc n) (byte ∷ bytes) all = (all.0, bytes_take n bytes all.1)

pub bytes_drop : (n : ℕ) (bytes : List ℕ) → AreBytes bytes → AreBytes (drop n bytes)
bytes_drop zero bytes all = all
bytes_drop (suc n) [] all = tt
bytes_drop (suc n) (byte ∷ bytes) all = bytes_drop n bytes all.1
