-- What lines with a key and few flags say.
use Rattle.std.proofs.Common.{◌≡◌, ℕ, ◌+◌, ◌-◌, length, take, drop, arith, if◌then◌else◌, map, List, [], ◌∷◌, refl, ap, ◌∙◌}
use Rattle.std.specs.Prelude.{codes, Option, None, Some, option_map}
use Rattle.std.specs.List.{AllByRecursion}
use Rattle.std.specs.Option.{option_and_then}
use Rattle.mc_meta.specs.declared.meta_line.Span.{Span}
use Rattle.mc_meta.specs.declared.meta_line.MetaLine.{MetaLine}
use Rattle.mc_meta.specs.declared.meta_line.MetaLine.TheVariants.{Bad, Get, Set, Delete}
use Rattle.mc_meta.specs.Words.{Placed, words, text_of, IsWordIn}
use Rattle.mc_meta.specs.Number.{number_of, small_number_of}
use Rattle.mc_meta.specs.Flags.{no_flags, set_letters, with_letter, with_flags, with_unique, with_flag, flags_after, flags_of}
use Rattle.mc_meta.specs.Key.{bytes_in}
use Rattle.mc_meta.specs.Meta.{span_of, is_key, set_with, line_of, meta_line}
use Rattle.mc_meta.proofs.LineLemmas.{reads_as}

-- what flags say, by its first value, since its name is not for other crates
abbrev Of : {A : Type 0} → A → Type 0
Of {A} a = A

abbrev Flags : Type 0
Flags = Of no_flags

-- the bytes at the place of a word are the word
pub bytes_in-word : (line : List ℕ) (word : Placed) → IsWordIn line word → bytes_in line (span_of word) ≡ word.text
bytes_in-word line word is =
    let size : word.from + length word.text - word.from ≡ length word.text = omega arith in
    ap (λ (n : ℕ). take n (drop word.from line)) size ∙ is.text

-- a line says this of the place of its key, unless the key is too long
pub record SaysOf (line key : List ℕ) (said : Span → MetaLine) : Type 0 where
  pub place : Span
  pub text : bytes_in line place ≡ key
  pub is : meta_line line ≡ (if is_key key then said place else Bad)

-- what a storage line says by the flags and the size that were found, and by the unique too
abbrev pub stored_at : Option ℕ → Option ℕ → Span → MetaLine
stored_at (Some flags) (Some bytes) key = Set key bytes flags None 83 []
stored_at flags bytes key = Bad

abbrev pub exchanged_at : Option ℕ → Option ℕ → Option ℕ → Span → MetaLine
exchanged_at (Some flags) (Some bytes) (Some unique) key = Set key bytes flags (Some unique) 83 []
exchanged_at flags bytes unique key = Bad

-- `F` alone, with what was found after it
one_found : Option ℕ → Option Flags
one_found flags = option_map (with_flags (with_letter no_flags 70)) flags

one_flag : (word : Placed) (flags : List ℕ) → word.text ≡ 70 ∷ flags → flags_of set_letters (word ∷ []) ≡ one_found (small_number_of flags)
unfolding one_found
one_flag word flags is = ap (λ (text : List ℕ). option_and_then (λ (more : Flags). flags_after set_letters more []) (with_flag set_letters no_flags text)) is ∙ go (small_number_of flags)
  where
    go : (found : Option ℕ) → option_and_then (λ (more : Flags). Some more) (option_map (with_flags (with_letter no_flags 70)) found) ≡ option_map (with_flags (with_letter no_flags 70)) found
    go None = refl
    go (Some number) = refl

-- `F` and `C`, with what was found after them
two_found : Option ℕ → Option ℕ → Option Flags
two_found None unique = None
two_found (Some flags) None = None
two_found (Some flags) (Some unique) = Some (with_unique (with_letter (with_flags (with_letter no_flags 70) flags) 67) unique)

two_flags : (word next : Placed) (flags unique : List ℕ) → word.text ≡ 70 ∷ flags → next.text ≡ 67 ∷ unique → flags_of set_letters (word ∷ next ∷ []) ≡ two_found (small_number_of flags) (number_of unique)
unfolding two_found
two_flags word next flags unique is also = ap (λ (text : List ℕ). option_and_then (λ (more : Flags). flags_after set_letters more (next ∷ [])) (with_flag set_letters no_flags text)) is ∙ go (small_number_of flags)
  where
    last : (number : ℕ) (found : Option ℕ) → option_and_then (λ (more : Flags). Some more) (option_map (with_unique (with_letter (with_flags (with_letter no_flags 70) number) 67)) found) ≡ two_found (Some number) found
    last number None = refl
    last number (Some found) = refl

    go : (found : Option ℕ) → option_and_then (λ (more : Flags). flags_after set_letters more (next ∷ [])) (option_map (with_flags (with_letter no_flags 70)) found) ≡ two_found found (number_of unique)
    go None = refl
    go (Some number) =
        ap (λ (text : List ℕ). option_and_then (λ (more : Flags). flags_after set_letters more []) (with_flag set_letters (with_flags (with_letter no_flags 70) number) text)) also
        ∙ last number (number_of unique)

set_one : (key : Placed) (flags bytes : Option ℕ) → set_with key bytes (one_found flags) ≡ stored_at flags bytes (span_of key)
unfolding one_found
set_one key (Some flags) (Some bytes) = refl
set_one key (Some flags) None = refl
set_one key None (Some bytes) = refl
set_one key None None = refl

set_two : (key : Placed) (flags bytes unique : Option ℕ) → set_with key bytes (two_found flags unique) ≡ exchanged_at flags bytes unique (span_of key)
unfolding two_found
set_two key (Some flags) (Some bytes) (Some unique) = refl
set_two key (Some flags) (Some bytes) None = refl
set_two key (Some flags) None (Some unique) = refl
set_two key (Some flags) None None = refl
set_two key None (Some bytes) (Some unique) = refl
set_two key None (Some bytes) None = refl
set_two key None None (Some unique) = refl
set_two key None None None = refl

-- what a key and what is said of it make
abbrev short_or : List ℕ → MetaLine → MetaLine
short_or key line = if is_key key then line else Bad

module _ (line : List ℕ) where
  -- the key is at its place
  keyed_at : (key : List ℕ) (said : Span → MetaLine) (word : Placed) → word.text ≡ key → IsWordIn line word → meta_line line ≡ short_or word.text (said (span_of word)) → SaysOf line key said
  keyed_at key said word same here is =
      record { place = span_of word; text = bytes_in-word line word here ∙ same; is = is ∙ ap (λ (text : List ℕ). short_or text (said (span_of word))) same }

  get_words : (key : List ℕ) (rest : List Placed) → meta_line line ≡ line_of (codes "mg") rest → map text_of rest ≡ key ∷ [] → AllByRecursion (IsWordIn line) rest → SaysOf line key (λ place. Get place [])
  get_words key [] is same here = absurd (cc)
  get_words key (word ∷ next ∷ rest) is same here = absurd (cc)
  get_words key (word ∷ []) is same here = let first : word.text ≡ key = cc in keyed_at key (λ place. Get place []) word first here.0 is

  delete_words : (key : List ℕ) (rest : List Placed) → meta_line line ≡ line_of (codes "md") rest → map text_of rest ≡ key ∷ [] → AllByRecursion (IsWordIn line) rest → SaysOf line key (λ place. Delete place [])
  delete_words key [] is same here = absurd (cc)
  delete_words key (word ∷ next ∷ rest) is same here = absurd (cc)
  delete_words key (word ∷ []) is same here = let first : word.text ≡ key = cc in keyed_at key (λ place. Delete place []) word first here.0 is

  store_words : (key flags bytes : List ℕ) (rest : List Placed) → meta_line line ≡ line_of (codes "ms") rest → map text_of rest ≡ key ∷ bytes ∷ (70 ∷ flags) ∷ [] → AllByRecursion (IsWordIn line) rest
      → SaysOf line key (stored_at (small_number_of flags) (small_number_of bytes))
  store_words key flags bytes [] is same here = absurd (cc)
  store_words key flags bytes (word ∷ []) is same here = absurd (cc)
  store_words key flags bytes (word ∷ size ∷ []) is same here = absurd (cc)
  store_words key flags bytes (word ∷ size ∷ first ∷ next ∷ rest) is same here = absurd (cc)
  store_words key flags bytes (word ∷ size ∷ first ∷ []) is same here =
      let word_is : word.text ≡ key = cc in
      let size_is : size.text ≡ bytes = cc in
      let first_is : first.text ≡ 70 ∷ flags = cc in
      keyed_at key (stored_at (small_number_of flags) (small_number_of bytes)) word word_is here.0
      (is ∙ ap (λ (said : Option Flags). short_or word.text (set_with word (small_number_of size.text) said)) (one_flag first flags first_is)
      ∙ ap (λ (text : List ℕ). short_or word.text (set_with word (small_number_of text) (one_found (small_number_of flags)))) size_is
      ∙ ap (short_or word.text) (set_one word (small_number_of flags) (small_number_of bytes)))

  exchange_words : (key flags bytes unique : List ℕ) (rest : List Placed) → meta_line line ≡ line_of (codes "ms") rest → map text_of rest ≡ key ∷ bytes ∷ (70 ∷ flags) ∷ (67 ∷ unique) ∷ []
      → AllByRecursion (IsWordIn line) rest → SaysOf line key (exchanged_at (small_number_of flags) (small_number_of bytes) (number_of unique))
  exchange_words key flags bytes unique [] is same here = absurd (cc)
  exchange_words key flags bytes unique (word ∷ []) is same here = absurd (cc)
  exchange_words key flags bytes unique (word ∷ size ∷ []) is same here = absurd (cc)
  exchange_words key flags bytes unique (word ∷ size ∷ first ∷ []) is same here = absurd (cc)
  exchange_words key flags bytes unique (word ∷ size ∷ first ∷ last ∷ next ∷ rest) is same here = absurd (cc)
  exchange_words key flags bytes unique (word ∷ size ∷ first ∷ last ∷ []) is same here =
      let word_is : word.text ≡ key = cc in
      let size_is : size.text ≡ bytes = cc in
      let first_is : first.text ≡ 70 ∷ flags = cc in
      let last_is : last.text ≡ 67 ∷ unique = cc in
      keyed_at key (exchanged_at (small_number_of flags) (small_number_of bytes) (number_of unique)) word word_is here.0
      (is ∙ ap (λ (said : Option Flags). short_or word.text (set_with word (small_number_of size.text) said)) (two_flags first last flags unique first_is last_is)
      ∙ ap (λ (text : List ℕ). short_or word.text (set_with word (small_number_of text) (two_found (small_number_of flags) (number_of unique)))) size_is
      ∙ ap (short_or word.text) (set_two word (small_number_of flags) (small_number_of bytes) (number_of unique)))

  -- a get of a key
  pub get_said : (key : List ℕ) → words line ≡ codes "mg" ∷ key ∷ [] → SaysOf line key (λ place. Get place [])
  get_said key split = let read = reads_as line (codes "mg") (key ∷ []) split in get_words key read.rest read.said read.same read.places

  -- a deletion
  pub delete_said : (key : List ℕ) → words line ≡ codes "md" ∷ key ∷ [] → SaysOf line key (λ place. Delete place [])
  delete_said key split = let read = reads_as line (codes "md") (key ∷ []) split in delete_words key read.rest read.said read.same read.places

  -- a storage line with the flags of the item
  pub store_said : (key flags bytes : List ℕ) → words line ≡ codes "ms" ∷ key ∷ bytes ∷ (70 ∷ flags) ∷ [] → SaysOf line key (stored_at (small_number_of flags) (small_number_of bytes))
  store_said key flags bytes split =
      let read = reads_as line (codes "ms") (key ∷ bytes ∷ (70 ∷ flags) ∷ []) split in store_words key flags bytes read.rest read.said read.same read.places

  -- a storage line with the flags and the unique of the item
  pub exchange_said : (key flags bytes unique : List ℕ) → words line ≡ codes "ms" ∷ key ∷ bytes ∷ (70 ∷ flags) ∷ (67 ∷ unique) ∷ []
      → SaysOf line key (exchanged_at (small_number_of flags) (small_number_of bytes) (number_of unique))
  exchange_said key flags bytes unique split =
      let read = reads_as line (codes "ms") (key ∷ bytes ∷ (70 ∷ flags) ∷ (67 ∷ unique) ∷ []) split in exchange_words key flags bytes unique read.rest read.said read.same read.places
