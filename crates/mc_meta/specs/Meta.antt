-- What a line says as a meta command: memcached's protocol.txt, "Meta Commands". Which lines are faulty is this
-- project's own rule.
use Rattle.std.specs.Prelude.{ℕ, ◌+◌, Bool, true, ◌||◌, ◌==◌, nat_le, if◌then◌else◌}
use Rattle.std.specs.Prelude.{List, [], ◌∷◌, length, codes, Option, None, Some}
use Rattle.std.specs.Str.{bytes_eq}
use Rattle.mc_meta.specs.declared.meta_line.Span.{Span}
use Rattle.mc_meta.specs.declared.meta_line.MetaLine.{MetaLine}
use Rattle.mc_meta.specs.declared.meta_line.MetaLine.TheVariants.{Other, WrongCount, Bad, Noop, Get, Set, Delete}
use Rattle.mc_meta.specs.declared.flags.Flags.{Flags}
use Rattle.mc_meta.specs.Words.{Placed, words_at}
use Rattle.mc_meta.specs.Number.{small_number_of}
use Rattle.mc_meta.specs.Flags.{get_letters, set_letters, delete_letters, set_mode, flags_of}

-- ---- parts of a line

-- the place of a word in its line
abbrev pub span_of : Placed → Span
span_of word = record { from = word.from; to = word.from + length word.text }

-- the most bytes that a key may have
abbrev pub key_limit : ℕ
key_limit = 250

-- a word is not too long for a key
abbrev pub is_key : List ℕ → Bool
is_key word = nat_le (length word) key_limit

-- a unique goes only with the mode set
abbrev pub agrees : Option ℕ → ℕ → Bool
agrees None mode = true
agrees (Some unique) mode = mode == set_mode

-- ---- the four commands

-- what a line says, unless its key is too long
abbrev pub keyed : Placed → MetaLine → MetaLine
keyed key line = if is_key key.text then line else Bad

-- what the line of a get says, by its flags
abbrev pub get_with : Placed → Option Flags → MetaLine
get_with key None = Bad
get_with key (Some said) = Get (span_of key) said.marks

-- what the line of a deletion says, by its flags
abbrev pub delete_with : Placed → Option Flags → MetaLine
delete_with key None = Bad
delete_with key (Some said) = Delete (span_of key) said.marks

-- what the line of a storage command says, by its datalen and its flags
abbrev pub set_with : Placed → Option ℕ → Option Flags → MetaLine
set_with key (Some bytes) (Some said) = if agrees said.unique said.mode
    then Set (span_of key) bytes said.flags said.unique said.mode said.marks
    else Bad
set_with key bytes said = Bad

-- what the words after `mn` say: there must be none
abbrev pub noop_line : List Placed → MetaLine
noop_line [] = Noop
noop_line words = WrongCount

-- what the words after `mg` say: a key and flags
abbrev pub get_line : List Placed → MetaLine
get_line [] = WrongCount
get_line (key ∷ words) = keyed key (get_with key (flags_of get_letters words))

-- what the words after `ms` say: a key, a datalen and flags
abbrev pub set_line : List Placed → MetaLine
set_line (key ∷ datalen ∷ words) =
    keyed key (set_with key (small_number_of datalen.text) (flags_of set_letters words))
set_line words = WrongCount

-- what the words after `md` say: a key and flags
abbrev pub delete_line : List Placed → MetaLine
delete_line [] = WrongCount
delete_line (key ∷ words) = keyed key (delete_with key (flags_of delete_letters words))

-- ---- lines

-- the name of a meta command
abbrev pub is_meta_name : List ℕ → Bool
is_meta_name name =
    bytes_eq name (codes "mn") || bytes_eq name (codes "mg") || bytes_eq name (codes "ms") || bytes_eq name (codes "md")

-- what a line with this first word says, by the words after it
abbrev pub line_of : List ℕ → List Placed → MetaLine
line_of name words =
    if bytes_eq name (codes "mn") then noop_line words else
    if bytes_eq name (codes "mg") then get_line words else
    if bytes_eq name (codes "ms") then set_line words else
    if bytes_eq name (codes "md") then delete_line words else
    Other

-- what the words of a line say
abbrev pub meta_of : List Placed → MetaLine
meta_of [] = Other
meta_of (name ∷ words) = line_of name.text words

-- what a line says
abbrev pub meta_line : List ℕ → MetaLine
meta_line line = meta_of (words_at 0 line)
