-- The words after a command's name, as options.
use Rattle.std.specs.Prelude.{ℕ, Bool, true, false, ◌&&◌, ◌||◌, ◌==◌, not, nat_lt, List, [], ◌∷◌, Option, None, Some}
use Rattle.std.specs.Prelude.{is_some, if◌then◌else◌, option_map, option_and_then}
use Rattle.std.specs.Str.{bytes_eq}
use Rattle.std.specs.List.{list_any, list_all}

-- a word, as its bytes
abbrev pub Word : Type 0
Word = List ℕ

-- options, each with its value
abbrev pub Options : Type 0
Options = List (Word × Word)

-- ---- one word

-- the word is text of bytes below 128
abbrev pub is_ascii : Word → Bool
is_ascii word = list_all (λ byte. nat_lt byte 128) word

-- the word begins with a hyphen
abbrev pub has_hyphen : Word → Bool
has_hyphen [] = false
has_hyphen (byte ∷ bytes) = byte == 45

-- a text as the name before its first `=`, and the value after that, if there is one
abbrev pub name_and_value : Word → Word × Option Word
name_and_value [] = ([], None)
name_and_value (byte ∷ bytes) = if byte == 61 then ([], Some bytes)
    else (byte ∷ (name_and_value bytes).0, (name_and_value bytes).1)

-- the name and the value of `--name` or `--name=value`, a word with two hyphens and at least one byte after them
abbrev pub option_in : Word → Option (Word × Option Word)
option_in (first ∷ second ∷ byte ∷ bytes) =
    if first == 45 && second == 45 then Some (name_and_value (byte ∷ bytes)) else None
option_in word = None

-- a word that is `--name` or `--name=value`
abbrev pub is_option : Word → Bool
is_option word = is_some (option_in word)

-- the word is ASCII text, and an option if it begins with a hyphen
abbrev pub is_plain : Word → Bool
is_plain word = is_ascii word && (is_option word || not (has_hyphen word))

-- the name is one of these
abbrev pub is_among : List Word → Word → Bool
is_among names name = list_any (λ n. bytes_eq n name) names

-- ---- all words

-- an option and its value are put before the others
abbrev pub with_first : Word → Word → Option Options → Option Options
with_first name value options = option_map (λ others. (name, value) ∷ others) options

-- a word is the value of an option; a word that is an option is none
abbrev pub value_then : Bool → Word → Word → Option Options → Option Options
value_then true name word others = None
value_then false name word others = with_first name word others

-- an option, and the options of the words after it, whether its value is in its own word or in the
-- next one
abbrev pub option_then : Word → Option Word → Option Options → Option Options → Option Options
option_then name (Some value) others waiting = with_first name value others
option_then name None others waiting = waiting

-- the options that the words spell, if these names are allowed, these were used, and this one
-- waits for its value
unfoldable pub options_from : List Word → List Word → Option Word → List Word → Option Options
options_from names used None [] = Some []
options_from names used (Some name) [] = None
options_from names used None (word ∷ words) = option_and_then (λ o. if is_among names o.0 && not (is_among used o.0)
    then option_then o.0 o.1 (options_from names (o.0 ∷ used) None words) (options_from names used (Some o.0) words)
    else None) (option_in word)
options_from names used (Some name) (word ∷ words) =
    value_then (is_option word) name word (options_from names (name ∷ used) None words)

-- the options that the words spell: `--name value` or `--name=value`, in any order, each of these names at most once
abbrev pub options_of : List Word → List Word → Option Options
options_of names words = if list_all is_plain words then options_from names [] None words else None

-- the value of an option, if it was given
abbrev pub value_of : Word → Options → Option Word
value_of name [] = None
value_of name (option ∷ options) = if bytes_eq option.0 name then Some option.1 else value_of name options
