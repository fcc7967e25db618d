-- Example lines, grouped by what they say. Where memcached's own answer differs, the line is faulty by this project's
-- own rule.
use Rattle.std.specs.Prelude.{◌≡◌, ℕ, List, [], ◌∷◌, ◌++◌, map, replicate, codes, None}
use Rattle.mc_meta.specs.declared.meta_line.Span.{Span}
use Rattle.mc_meta.specs.declared.meta_line.MetaLine.{MetaLine}
use Rattle.mc_meta.specs.declared.meta_line.MetaLine.TheVariants.{Set}
use Rattle.mc_meta.specs.Meta.{meta_line}

-- ---- words of worked lines

-- each of the lines says this
abbrev pub AllSay : MetaLine → List (List ℕ) → Type 0
AllSay said lines = map meta_line lines ≡ map (λ line. said) lines

-- the bytes from a place up to another
abbrev pub span : ℕ → ℕ → Span
span from to = record { from = from; to = to }

-- a key of `count` bytes
abbrev pub long_key : ℕ → List ℕ
long_key count = replicate count 107

-- store a byte under the key "a" in this mode
abbrev pub sets_in_mode : ℕ → MetaLine
sets_in_mode mode = Set (span 3 4) 1 0 None mode []

-- ---- no meta command

-- no word, or another first word: names are in small letters, and only a space ends them
abbrev pub other_lines : List (List ℕ)
other_lines =
    codes ""
    ∷ codes "   "
    ∷ codes "xy"
    ∷ codes "m"
    ∷ codes "MG a"
    ∷ codes "Mn"
    ∷ codes "mgx a"
    ∷ codes "mn\r"
    ∷ (codes "mg" ++ 9 ∷ codes "a")
    ∷ codes "ma a"
    ∷ codes "me a"
    ∷ codes "get a"
    ∷ codes "set mg 0 0 1"
    ∷ []

-- a number of words that the command may not have
abbrev pub miscounted_lines : List (List ℕ)
miscounted_lines =
    codes "mn q"
    ∷ codes "mn mn mn"
    ∷ codes "mg"
    ∷ codes " mg "
    ∷ codes "ms"
    ∷ codes "ms a"
    ∷ codes "ms v "
    ∷ codes "md"
    ∷ []

-- ---- faults

-- a letter that the command may not have
abbrev pub lines_with_an_unlisted_letter : List (List ℕ)
lines_with_an_unlisted_letter =
    codes "mg a t"
    ∷ codes "mg a V"
    ∷ codes "mg a O7"
    ∷ codes "mg a F5"
    ∷ codes "mg a v \r"
    ∷ codes "ms a 2 ME c"
    ∷ codes "ms a 1 I"
    ∷ codes "ms a 1 f5"
    ∷ codes "md a v"
    ∷ codes "md a I"
    ∷ codes "md a C5"
    ∷ []

-- a letter that comes twice
abbrev pub lines_with_a_repeated_letter : List (List ℕ)
lines_with_a_repeated_letter =
    codes "mg a v v"
    ∷ codes "mg a q k v f c s q"
    ∷ codes "ms a 1 F1 F1"
    ∷ codes "ms a 1 T300 q T300"
    ∷ codes "ms a 1 MS Ms"
    ∷ codes "md a k q k"
    ∷ []

-- a token on a letter that has none
abbrev pub lines_with_a_needless_token : List (List ℕ)
lines_with_a_needless_token =
    codes "mg a vk"
    ∷ codes "mg a v1"
    ∷ codes "mg a q0 k"
    ∷ codes "ms a 1 q1"
    ∷ codes "md a kq"
    ∷ []

-- a token that is missing or bad
abbrev pub lines_with_a_bad_token : List (List ℕ)
lines_with_a_bad_token =
    codes "ms a 1 F"
    ∷ codes "ms a 1 F 5"
    ∷ codes "ms a 1 F-1"
    ∷ codes "ms a 1 F4294967296"
    ∷ codes "ms a 1 C"
    ∷ codes "ms a 1 C5x"
    ∷ codes "ms a 1 C18446744073709551616"
    ∷ codes "ms a 1 M"
    ∷ codes "ms a 1 MX"
    ∷ codes "ms a 1 Mset"
    ∷ codes "ms a 1 T"
    ∷ codes "ms a 1 T--1"
    ∷ codes "ms a 1 T12345678901234567890"
    ∷ []

-- a datalen that is no number below 2^32
abbrev pub lines_with_a_bad_datalen : List (List ℕ)
lines_with_a_bad_datalen =
    codes "ms a x"
    ∷ codes "ms a -1"
    ∷ codes "ms a 4294967296"
    ∷ codes "ms a 000000000000000000001"
    ∷ codes "ms a S1 F5"
    ∷ codes "ms a F5 1"
    ∷ []

-- a CAS value beside a mode other than set
abbrev pub lines_with_a_unique_and_a_mode : List (List ℕ)
lines_with_a_unique_and_a_mode =
    codes "ms a 1 C5 ME"
    ∷ codes "ms a 1 Ma C5"
    ∷ codes "ms a 1 F5 MP q C0"
    ∷ codes "ms a 1 C5 Mr"
    ∷ []

-- lines of each command with this key
abbrev pub lines_with_key : List ℕ → List (List ℕ)
lines_with_key key =
    (codes "mg " ++ key ++ codes " v")
    ∷ (codes "ms " ++ key ++ codes " 1")
    ∷ (codes "md " ++ key)
    ∷ []
