-- The checks of the words after a name, one after the other (docs/PROFILE.md, "The order of
-- checks").
use Rattle.std.specs.Prelude.{◌≡◌, ℕ, Bool, true, false, List, length, None, Some}
use Rattle.std.specs.List.{list_all}
use Rattle.mc_parse.specs.declared.name.Name.{Name}
use Rattle.mc_parse.specs.Name.{arity_of}
use Rattle.mc_parse.specs.Arity.{has_count, lacks_noreply, asks_silence, following}
use Rattle.mc_parse.specs.Form.{Ask, is_key, keys_among, ask_of}

-- the number of words is not one that may follow the name
abbrev pub HasBadCount : Name → List (List ℕ) → Type 0
HasBadCount name words = has_count (arity_of name) (length words) ≡ false

-- the largest allowed number of words follows, and the last is not noreply, as it must be
abbrev pub LacksNoreply : Name → List (List ℕ) → Type 0
LacksNoreply name words = lacks_noreply (arity_of name) words ≡ true

-- the words ask for no answer
abbrev pub is_silenced : Name → List (List ℕ) → Bool
is_silenced name words = asks_silence (arity_of name) words

-- the words without the noreply at their end
abbrev pub said_words : Name → List (List ℕ) → List (List ℕ)
said_words name words = (following words (is_silenced name words)).words

-- the words pass the checks of their count and of noreply
pub record AreCounted (name : Name) (words : List (List ℕ)) : Type 0 where
  pub count : has_count (arity_of name) (length words) ≡ true
  pub noreply : lacks_noreply (arity_of name) words ≡ false

-- they pass these, and a key among them is too long
pub record HasLongKey (name : Name) (words : List (List ℕ)) : Type 0 where
  pub counted : AreCounted name words
  pub long : list_all is_key (keys_among name (said_words name words)) ≡ false

-- they pass the checks of their keys too
pub record AreKeyed (name : Name) (words : List (List ℕ)) : Type 0 where
  pub counted : AreCounted name words
  pub short : list_all is_key (keys_among name (said_words name words)) ≡ true

-- they pass these, and a number among them is bad
pub record HasBadNumber (name : Name) (words : List (List ℕ)) : Type 0 where
  pub keyed : AreKeyed name words
  pub bad : ask_of name (said_words name words) ≡ None

-- they pass every check, and ask for this
pub record Asks (name : Name) (words : List (List ℕ)) (ask : Ask) : Type 0 where
  pub keyed : AreKeyed name words
  pub asks : ask_of name (said_words name words) ≡ Some ask
