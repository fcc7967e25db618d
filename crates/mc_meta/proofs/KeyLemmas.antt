-- The key of a line is its second word.
use Rattle.std.proofs.Common.{◌≡◌, ℕ, ◌+◌, ◌-◌, Bool, true, false, if◌then◌else◌, map, List, [], ◌∷◌, length, drop, take, refl, sym, ap, ◌∙◌, arith}
use Rattle.std.specs.Prelude.{codes, slice_get, Option, None, Some, IfSome}
use Rattle.std.specs.List.{AllByRecursion}
use Rattle.std.specs.Str.{bytes_eq}
use Rattle.std.proofs.lemmas.Bool.{leb-true}
use Rattle.mc_meta.specs.declared.flags.Flags.{Flags}
use Rattle.mc_meta.specs.declared.meta_line.Span.{Span}
use Rattle.mc_meta.specs.declared.meta_line.MetaLine.{MetaLine}
use Rattle.mc_meta.specs.declared.meta_line.MetaLine.TheVariants.{Other, Bad, Set}
use Rattle.mc_meta.specs.Words.{Placed, words, words_at, text_of, IsWordIn}
use Rattle.mc_meta.specs.Number.{small_number_of}
use Rattle.mc_meta.specs.Flags.{get_letters, set_letters, delete_letters, flags_of}
use Rattle.mc_meta.specs.Meta.{span_of, is_key, agrees, get_with, delete_with, set_with, noop_line, get_line, set_line, delete_line, line_of, meta_of, meta_line}
use Rattle.mc_meta.specs.Key.{key_of, bytes_in, IsKeyIn}
use Rattle.mc_meta.proofs.PlaceLemmas.{words_at-texts, words_at-places}

-- ---- the key is the first word after the name

record IsKey (key : Placed) (span : Span) : Type 0 where
  place : span ≡ span_of key
  short : is_key key.text ≡ true

abbrev IsFirst : List Placed → Span → Type 0
IsFirst [] span = ⊥
IsFirst (key ∷ words) span = IsKey key span

abbrev HasKey : List Placed → MetaLine → Type 0
HasKey words line = IfSome (key_of line) (IsFirst words)

get_key : (key : Placed) (words : List Placed) (said : Option Flags) → is_key key.text ≡ true → HasKey (key ∷ words) (get_with key said)
get_key key words None is = tt
get_key key words (Some said) is = record { place = refl; short = is }

delete_key : (key : Placed) (words : List Placed) (said : Option Flags) → is_key key.text ≡ true → HasKey (key ∷ words) (delete_with key said)
delete_key key words None is = tt
delete_key key words (Some said) is = record { place = refl; short = is }

set_choice : (agree : Bool) (key : Placed) (words : List Placed) (bytes : ℕ) (said : Flags) → is_key key.text ≡ true
    → HasKey (key ∷ words) (if agree then Set (span_of key) bytes said.flags said.unique said.mode said.marks else Bad)
set_choice true key words bytes said is = record { place = refl; short = is }
set_choice false key words bytes said is = tt

set_key : (key : Placed) (words : List Placed) (bytes : Option ℕ) (said : Option Flags) → is_key key.text ≡ true → HasKey (key ∷ words) (set_with key bytes said)
set_key key words None said is = tt
set_key key words (Some bytes) None is = tt
set_key key words (Some bytes) (Some said) is = set_choice (agrees said.unique said.mode) key words bytes said is

keyed_choice : (is : Bool) (words : List Placed) (line : MetaLine) → (is ≡ true → HasKey words line) → HasKey words (if is then line else Bad)
keyed_choice true words line has = has refl
keyed_choice false words line has = tt

noop_has : (words : List Placed) → HasKey words (noop_line words)
noop_has [] = tt
noop_has (word ∷ words) = tt

get_has : (words : List Placed) → HasKey words (get_line words)
get_has [] = tt
get_has (key ∷ words) = keyed_choice (is_key key.text) (key ∷ words) (get_with key (flags_of get_letters words)) (get_key key words (flags_of get_letters words))

delete_has : (words : List Placed) → HasKey words (delete_line words)
delete_has [] = tt
delete_has (key ∷ words) = keyed_choice (is_key key.text) (key ∷ words) (delete_with key (flags_of delete_letters words)) (delete_key key words (flags_of delete_letters words))

set_has : (words : List Placed) → HasKey words (set_line words)
set_has [] = tt
set_has (key ∷ []) = tt
set_has (key ∷ datalen ∷ words) =
    keyed_choice (is_key key.text) (key ∷ datalen ∷ words) (set_with key (small_number_of datalen.text) (flags_of set_letters words))
    (set_key key (datalen ∷ words) (small_number_of datalen.text) (flags_of set_letters words))

either : (is : Bool) (words : List Placed) (this next : MetaLine) → HasKey words this → HasKey words next → HasKey words (if is then this else next)
either true words this next has rest = has
either false words this next has rest = rest

line_has : (name : List ℕ) (words : List Placed) → HasKey words (line_of name words)
line_has name words =
    let deletes = either (bytes_eq name (codes "md")) words (delete_line words) Other (delete_has words) tt in
    let sets = either (bytes_eq name (codes "ms")) words (set_line words) (if bytes_eq name (codes "md") then delete_line words else Other) (set_has words) deletes in
    let gets = either (bytes_eq name (codes "mg")) words (get_line words) (if bytes_eq name (codes "ms") then set_line words else if bytes_eq name (codes "md") then delete_line words else Other) (get_has words) sets in
    either (bytes_eq name (codes "mn")) words (noop_line words)
    (if bytes_eq name (codes "mg") then get_line words else if bytes_eq name (codes "ms") then set_line words else if bytes_eq name (codes "md") then delete_line words else Other)
    (noop_has words) gets

-- ---- the key in its line

key_in : (line : List ℕ) (name key : Placed) (more : List Placed) (span : Span) → map text_of (name ∷ key ∷ more) ≡ words line → IsWordIn line key → IsKey key span → IsKeyIn line span
key_in line name key more span texts here is =
    let short = leb-true (length key.text) 250 is.short in
    let from : span.from ≡ key.from = ap (λ (s : Span). s.from) is.place in
    let to : span.to ≡ key.from + length key.text = ap (λ (s : Span). s.to) is.place in
    let size : span.to - span.from ≡ length key.text = omega (arith, from, to) in
    let bytes : bytes_in line span ≡ key.text = ap (λ (n : ℕ). take n (drop span.from line)) size ∙ ap (λ (n : ℕ). take (length key.text) (drop n line)) from ∙ here.text in
    record {
      some = omega (arith, from, to, here.some);
      within = omega (arith, to, here.within);
      short = omega (arith, from, to, short);
      word = ap (λ (l : List (List ℕ)). slice_get l 1) (sym texts) ∙ ap (λ (l : List ℕ). Some l) (sym bytes);
    }

found_in : (line : List ℕ) (name key : Placed) (more : List Placed) (found : Option Span) → map text_of (name ∷ key ∷ more) ≡ words line → IsWordIn line key
    → IfSome found (IsFirst (key ∷ more)) → IfSome found (IsKeyIn line)
found_in line name key more None texts here is = tt
found_in line name key more (Some span) texts here is = key_in line name key more span texts here is

no_key : (found : Option Span) (line : List ℕ) → IfSome found (IsFirst []) → IfSome found (IsKeyIn line)
no_key None line none = tt
no_key (Some span) line none = absurd none

of_words : (line : List ℕ) (said : List Placed) → map text_of said ≡ words line → AllByRecursion (IsWordIn line) said → IfSome (key_of (meta_of said)) (IsKeyIn line)
of_words line [] texts all = tt
of_words line (name ∷ []) texts all = no_key (key_of (line_of name.text [])) line (line_has name.text [])
of_words line (name ∷ key ∷ more) texts all =
    found_in line name key more (key_of (line_of name.text (key ∷ more))) texts all.1.0 (line_has name.text (key ∷ more))

-- the key of a line is a word of it
pub line_key : (line : List ℕ) → IfSome (key_of (meta_line line)) (IsKeyIn line)
line_key line = of_words line (words_at 0 line) (words_at-texts 0 line) (words_at-places line)
