-- What the flags of a line say: memcached's protocol.txt, "Meta Commands". Which flags a line may have is this
-- project's own rule.
use Rattle.std.specs.Prelude.{ℕ, ◌-◌, Bool, not, ◌&&◌, ◌==◌, if◌then◌else◌, List}
use Rattle.std.specs.Prelude.{[], ◌∷◌, ◌++◌, codes, Option, None, Some, option_map}
use Rattle.std.specs.List.{list_any}
use Rattle.std.specs.Option.{option_and_then}
use Rattle.mc_meta.specs.declared.flags.Flags.{Flags}
use Rattle.mc_meta.specs.Words.{Placed}
use Rattle.mc_meta.specs.Number.{number_of, small_number_of, is_exptime}

-- ---- letters

-- the letters of the flags that `mg` may have
abbrev pub get_letters : List ℕ
get_letters = codes "vkfcsq"

-- the letters of the flags that `ms` may have
abbrev pub set_letters : List ℕ
set_letters = codes "FCMTkq"

-- the letters of the flags that `md` may have
abbrev pub delete_letters : List ℕ
delete_letters = codes "kq"

-- a letter is one of these
abbrev pub is_among : List ℕ → ℕ → Bool
is_among letters letter = list_any (λ other. other == letter) letters

-- ---- modes

-- the mode of a line that has none: set
abbrev pub set_mode : ℕ
set_mode = 83

-- the mode that a letter is, in capitals
abbrev pub mode_of_letter : ℕ → Option ℕ
mode_of_letter letter =
    if is_among (codes "EAPRS") letter then Some letter else
    if is_among (codes "eaprs") letter then Some (letter - 32) else None

-- the mode that a token is: one letter
abbrev pub mode_of : List ℕ → Option ℕ
mode_of (letter ∷ []) = mode_of_letter letter
mode_of token = None

-- ---- what flags say

-- no flag: the flags of an item are 0, and the mode is set
abbrev pub no_flags : Flags
no_flags = record { seen = []; marks = []; flags = 0; unique = None; mode = set_mode }

-- one more letter was seen
abbrev pub with_letter : Flags → ℕ → Flags
with_letter said letter = record {
  seen = said.seen ++ letter ∷ [];
  marks = said.marks;
  flags = said.flags;
  unique = said.unique;
  mode = said.mode;
}

-- one more letter has no token
abbrev pub with_mark : Flags → ℕ → Flags
with_mark said letter = record {
  seen = said.seen;
  marks = said.marks ++ letter ∷ [];
  flags = said.flags;
  unique = said.unique;
  mode = said.mode;
}

-- the flags of an item are said
abbrev pub with_flags : Flags → ℕ → Flags
with_flags said flags = record {
  seen = said.seen;
  marks = said.marks;
  flags = flags;
  unique = said.unique;
  mode = said.mode;
}

-- the unique of an item is said
abbrev pub with_unique : Flags → ℕ → Flags
with_unique said unique = record {
  seen = said.seen;
  marks = said.marks;
  flags = said.flags;
  unique = Some unique;
  mode = said.mode;
}

-- the mode is said
abbrev pub with_mode : Flags → ℕ → Flags
with_mode said mode = record {
  seen = said.seen;
  marks = said.marks;
  flags = said.flags;
  unique = said.unique;
  mode = mode;
}

-- the flags with a letter that has no token
abbrev pub with_lone : Flags → ℕ → List ℕ → Option Flags
with_lone said letter [] = Some (with_mark said letter)
with_lone said letter token = None

-- the flags with a letter and its token: `F` has a number below 2^32, `C` one below 2^64, `M` a mode, and `T` an
-- exptime, which has no effect; other letters have no token
abbrev pub with_token : Flags → ℕ → List ℕ → Option Flags
with_token said letter token =
    if letter == 70 then option_map (with_flags said) (small_number_of token) else
    if letter == 67 then option_map (with_unique said) (number_of token) else
    if letter == 77 then option_map (with_mode said) (mode_of token) else
    if letter == 84 then (if is_exptime token then Some said else None) else
    with_lone said letter token

-- what some flags and one more say; none unless its letter is listed and new, and its token is good
abbrev pub with_flag : List ℕ → Flags → List ℕ → Option Flags
with_flag listed said [] = None
with_flag listed said (letter ∷ token) =
    if is_among listed letter && not (is_among said.seen letter)
    then with_token (with_letter said letter) letter token
    else None

-- what some flags and then these words say; none if a word is no flag
abbrev pub flags_after : List ℕ → Flags → List Placed → Option Flags
flags_after listed said [] = Some said
flags_after listed said (word ∷ words) =
    option_and_then (λ more. flags_after listed more words) (with_flag listed said word.text)

-- what these words say as flags; none if a word is no flag
abbrev pub flags_of : List ℕ → List Placed → Option Flags
flags_of listed words = flags_after listed no_flags words
