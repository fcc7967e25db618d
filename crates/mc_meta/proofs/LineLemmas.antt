-- What a line says depends only on its words, which are at their places.
use Rattle.std.proofs.Common.{◌≡◌, ℕ, List, [], ◌∷◌, map, refl, ap, ◌∙◌}
use Rattle.std.specs.List.{AllByRecursion}
use Rattle.mc_meta.specs.Words.{Placed, words, words_at, text_of, IsWordIn}
use Rattle.mc_meta.specs.Meta.{line_of, meta_of, meta_line}
use Rattle.mc_meta.proofs.PlaceLemmas.{words_at-texts, words_at-places}

-- a line with this first word and these words after it says what the name says with them
pub record ReadsAs (line name : List ℕ) (texts : List (List ℕ)) : Type 0 where
  pub rest : List Placed
  pub said : meta_line line ≡ line_of name rest
  pub same : map text_of rest ≡ texts
  pub places : AllByRecursion (IsWordIn line) rest

by_words : (line name : List ℕ) (texts : List (List ℕ)) (all : List Placed) → map text_of all ≡ name ∷ texts → AllByRecursion (IsWordIn line) all → meta_line line ≡ meta_of all → ReadsAs line name texts
by_words line name texts [] same places is = absurd (cc)
by_words line name texts (first ∷ rest) same places is =
    let named : first.text ≡ name = cc in
    let after : map text_of rest ≡ texts = cc in
    record { rest = rest; said = is ∙ ap (λ (word : List ℕ). line_of word rest) named; same = after; places = places.1 }

-- each line with a word says what its first word says with the words after it
pub reads_as : (line name : List ℕ) (texts : List (List ℕ)) → words line ≡ name ∷ texts → ReadsAs line name texts
reads_as line name texts is = by_words line name texts (words_at 0 line) (words_at-texts 0 line ∙ is) (words_at-places line) refl
