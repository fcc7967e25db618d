-- The names of commands, byte for byte, and how many words may follow each: memcached's protocol.txt, "Commands".
use Rattle.std.specs.Prelude.{ℕ, Bool, true, false, if◌then◌else◌, List, [], ◌∷◌, codes, Option, None, Some}
use Rattle.std.specs.Str.{bytes_eq}
use Rattle.mc_parse.specs.declared.verb.Verb.TheVariants.{Set, Add, Replace, Append, Prepend}
use Rattle.mc_parse.specs.declared.arity.Arity.{Arity}
use Rattle.mc_parse.specs.declared.name.Name.{Name}
use Rattle.mc_parse.specs.declared.name.Name.TheVariants.{Store, Cas, Get, Delete, Count, Version}
use Rattle.mc_parse.specs.declared.name.Name.TheVariants.{Verbosity, Flush, Quit, Stats}
use Rattle.mc_parse.specs.Arity.{from_to, at_least, no_more}

-- the names, each with its text
abbrev pub names : List (List ℕ × Name)
names =
    (codes "set", Store Set) ∷ (codes "add", Store Add) ∷ (codes "replace", Store Replace)
    ∷ (codes "append", Store Append) ∷ (codes "prepend", Store Prepend) ∷ (codes "cas", Cas)
    ∷ (codes "get", Get false) ∷ (codes "gets", Get true) ∷ (codes "delete", Delete)
    ∷ (codes "incr", Count true) ∷ (codes "decr", Count false) ∷ (codes "version", Version)
    ∷ (codes "verbosity", Verbosity) ∷ (codes "flush_all", Flush) ∷ (codes "quit", Quit) ∷ (codes "stats", Stats) ∷ []

-- the name that a word is, of some names
abbrev pub name_among : List ℕ → List (List ℕ × Name) → Option Name
name_among word [] = None
name_among word (entry ∷ entries) =
    if bytes_eq word entry.0 then Some entry.1 else name_among word entries

-- the name that a word is
abbrev pub name_of : List ℕ → Option Name
name_of word = name_among word names

-- the keys among the words after a name
pub data KeysAmong : Type 0 where
  -- none of them
  no_word : KeysAmong
  -- the first
  one_word : KeysAmong
  -- all of them
  each_word : KeysAmong

-- which words after a name are keys
abbrev pub which_keys : Name → KeysAmong
which_keys (Store verb) = one_word
which_keys Cas = one_word
which_keys (Get unique) = each_word
which_keys Delete = one_word
which_keys (Count up) = one_word
which_keys name = no_word

-- the first word is a key, and no other
abbrev pub is_one_word : KeysAmong → Bool
is_one_word one_word = true
is_one_word keys = false

-- how many words may follow a name
abbrev pub arity_of : Name → Arity
arity_of (Store verb) = from_to 4 5
arity_of Cas = from_to 5 6
arity_of (Get unique) = at_least 1
arity_of Delete = from_to 1 3
arity_of (Count up) = from_to 2 3
arity_of Verbosity = from_to 1 2
arity_of Flush = from_to 0 2
arity_of name = no_more
