-- The bounds of what is expected.
use Rattle.std.proofs.Common.{◌≡◌, ℕ, ◌<◌, List, [], length, refl, arith}
use Rattle.zy_capture.specs.declared.due.Due.{Due}
use Rattle.zy_capture.specs.declared.due.Due.TheVariants.{Magic, Tag, Payload, Nothing}
use Rattle.zy_capture.specs.Standing.{IsDueInBounds, IsFour, seen_of}

-- bounds that hold where no room was made hold with any room
pub within_any : (due : Due) (at : ℕ) (payload : List ℕ) (room : ℕ) → IsDueInBounds due at [] [] 0 → IsDueInBounds due at [] payload room
within_any (Payload conn others) at payload room within = absurd (omega (arith, within.1))
within_any due at payload room within = within

-- there no byte was seen
pub none_seen : (due : Due) (at : ℕ) (payload : List ℕ) → IsDueInBounds due at [] [] 0 → seen_of due [] payload ≡ []
none_seen (Payload conn others) at payload within = absurd (omega (arith, within.1))
none_seen due at payload within = refl

-- where no byte is kept, none was seen
pub nothing_seen : (due : Due) → seen_of due [] [] ≡ []
nothing_seen (Payload conn others) = refl
nothing_seen due = refl

-- the bytes of a number
pub number_seen : (due : Due) (field payload : List ℕ) → IsFour due → seen_of due field payload ≡ field
number_seen (Payload conn others) field payload is = absurd is
number_seen due field payload is = refl

pub number_within : (due : Due) (at : ℕ) (field payload : List ℕ) (room : ℕ) → IsFour due → length field < 4 → IsDueInBounds due at field payload room
number_within (Magic part) at field payload room is short = absurd is
number_within Tag at field payload room is short = absurd is
number_within (Payload conn others) at field payload room is short = absurd is
number_within Nothing at field payload room is short = absurd is
number_within due at field payload room is short = short
