-- Which words texts have: none, those that a space parts, and a word alone.
use Rattle.std.proofs.Common.{◌≡◌, ℕ, Bool, true, false, if◌then◌else◌, filter, List, [], ◌∷◌, ◌++◌, length, drop, refl, sym, ap, ◌∙◌, arith}
use Rattle.std.specs.Prelude.{◌==◌, not, ◌&&◌}
use Rattle.std.specs.List.{list_all}
use Rattle.std.proofs.lemmas.List.Elements.{filter-append}
use Rattle.std.proofs.lemmas.List.{drop_all}
use Rattle.mc_meta.proofs.WordLemmas.{put_all, put_all-none}
use Rattle.mc_parse.specs.Words.{words, pieces_of, put_before, has_byte, is_word}

-- a text has no words once all of it was passed
pub words_none : (text : List ℕ) (count : ℕ) → count ≡ length text → words (drop count text) ≡ words text → words text ≡ []
unfolding words
words_none text count all same = sym same ∙ ap words (drop_all count text (omega (arith, all)))

-- ---- laws of words

put_before-append : (byte : ℕ) (pieces more : List (List ℕ)) → put_before byte (put_all [] pieces ++ more) ≡ put_before byte (put_all [] pieces) ++ more
put_before-append byte [] more = refl
put_before-append byte (piece ∷ pieces) more = refl

put_before-append_pieces : (byte : ℕ) (text : List ℕ) (more : List (List ℕ)) → put_before byte (pieces_of text ++ more) ≡ put_before byte (pieces_of text) ++ more
put_before-append_pieces byte text more =
    ap (λ (pieces : List (List ℕ)). put_before byte (pieces ++ more)) (put_all-none text)
    ∙ put_before-append byte (pieces_of text) more
    ∙ ap (λ (pieces : List (List ℕ)). put_before byte pieces ++ more) (sym (put_all-none text))

pieces-choice : (ends : Bool) (byte : ℕ) (front back : List ℕ) → pieces_of (front ++ 32 ∷ back) ≡ pieces_of front ++ pieces_of back
    → (if ends then [] ∷ pieces_of (front ++ 32 ∷ back) else put_before byte (pieces_of (front ++ 32 ∷ back)))
    ≡ (if ends then [] ∷ pieces_of front else put_before byte (pieces_of front)) ++ pieces_of back
pieces-choice true byte front back same = ap (λ (pieces : List (List ℕ)). [] ∷ pieces) same
pieces-choice false byte front back same = ap (put_before byte) same ∙ put_before-append_pieces byte front (pieces_of back)

pieces-parted : (front back : List ℕ) → pieces_of (front ++ 32 ∷ back) ≡ pieces_of front ++ pieces_of back
pieces-parted [] back = refl
pieces-parted (byte ∷ front) back = pieces-choice (byte == 32) byte front back (pieces-parted front back)

-- a space parts the words before it from those after it
pub words-parted : (front back : List ℕ) → words (front ++ 32 ∷ back) ≡ words front ++ words back
unfolding words
words-parted front back = ap (filter has_byte) (pieces-parted front back) ∙ filter-append has_byte (pieces_of front) (pieces_of back)

pieces-choice_one : (ends : Bool) (byte : ℕ) (bytes : List ℕ) → not ends && list_all (λ b. not (b == 32)) bytes ≡ true
    → (list_all (λ b. not (b == 32)) bytes ≡ true → pieces_of bytes ≡ bytes ∷ [])
    → (if ends then [] ∷ pieces_of bytes else put_before byte (pieces_of bytes)) ≡ (byte ∷ bytes) ∷ []
pieces-choice_one true byte bytes no_space one = cc
pieces-choice_one false byte bytes no_space one = ap (put_before byte) (one no_space)

pieces-one : (text : List ℕ) → list_all (λ b. not (b == 32)) text ≡ true → pieces_of text ≡ text ∷ []
pieces-one [] no_space = refl
pieces-one (byte ∷ bytes) no_space = pieces-choice_one (byte == 32) byte bytes no_space (pieces-one bytes)

-- a word is its only word
pub words-one : (word : List ℕ) → is_word word ≡ true → words word ≡ word ∷ []
unfolding words
words-one [] is = cc
words-one (byte ∷ bytes) is = ap (filter has_byte) (pieces-one (byte ∷ bytes) is)
