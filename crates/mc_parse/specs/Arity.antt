-- How many words may follow a name, and the word noreply among them (docs/PROFILE.md, "Commands").
use Rattle.std.specs.Prelude.{ℕ, Bool, true, false, not, ◌&&◌, ◌==◌, nat_le, nat_lt, if◌then◌else◌}
use Rattle.std.specs.Prelude.{List, [], ◌∷◌, length, Option, None, Some}
use Rattle.mc_parse.specs.declared.arity.Arity.{Arity}
use Rattle.mc_parse.specs.Words.{is_noreply}

-- ---- numbers of words

-- between `least` and `most` words follow; if there are `most`, the last must be noreply
abbrev pub from_to : ℕ → ℕ → Arity
from_to least most = record { least = least; most = Some most; noreply = true }

-- `least` words or more follow, and none of them asks for no answer
abbrev pub at_least : ℕ → Arity
at_least least = record { least = least; most = None; noreply = false }

-- no word follows
abbrev pub no_more : Arity
no_more = record { least = 0; most = Some 0; noreply = false }

-- ---- the number of words

-- there is no limit, or the number is not above it
abbrev pub is_within : Option ℕ → ℕ → Bool
is_within None count = true
is_within (Some most) count = nat_le count most

-- a number is the limit
abbrev pub is_most : Option ℕ → ℕ → Bool
is_most None count = false
is_most (Some most) count = count == most

-- this number of words may follow
abbrev pub has_count : Arity → ℕ → Bool
has_count arity count = nat_le arity.least count && is_within arity.most count

-- ---- the word noreply

-- the last word is noreply
abbrev pub ends_in_noreply : List (List ℕ) → Bool
ends_in_noreply [] = false
ends_in_noreply (word ∷ []) = is_noreply word
ends_in_noreply (word ∷ next ∷ words) = ends_in_noreply (next ∷ words)

-- the words but the last
abbrev pub but_last : List (List ℕ) → List (List ℕ)
but_last [] = []
but_last (word ∷ []) = []
but_last (word ∷ next ∷ words) = word ∷ but_last (next ∷ words)

-- the largest allowed number of words follows, and the last is not noreply, as it must be
abbrev pub lacks_noreply : Arity → List (List ℕ) → Bool
lacks_noreply arity words =
    arity.noreply && is_most arity.most (length words) && not (ends_in_noreply words)

-- more words follow than are required, and the last is noreply: no answer is asked for
abbrev pub asks_silence : Arity → List (List ℕ) → Bool
asks_silence arity words =
    arity.noreply && nat_lt arity.least (length words) && ends_in_noreply words

-- ---- what follows a name

-- the words that follow a name, without noreply, and whether noreply follows them
pub record Following : Type 0 where
  pub words : List (List ℕ)
  pub quiet : Bool

-- the words, and whether the last of them is noreply
abbrev pub following : List (List ℕ) → Bool → Following
following words true = record { words = but_last words; quiet = true }
following words false = record { words = words; quiet = false }

-- what follows a name; none unless the number of words is allowed and noreply is not missing
abbrev pub following_of : Arity → List (List ℕ) → Option Following
following_of arity words = if has_count arity (length words) && not (lacks_noreply arity words)
    then Some (following words (asks_silence arity words))
    else None
