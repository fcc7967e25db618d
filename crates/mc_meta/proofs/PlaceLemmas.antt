-- The words of a line are at their places in it.
use Rattle.std.proofs.Common.{◌≡◌, ℕ, zero, suc, ◌+◌, ◌<◌, ◌≤◌, Bool, true, false, if◌then◌else◌, filter, map, List, [], ◌∷◌, length, drop, take, get_or, refl, sym, ap, ◌∙◌, subst, arith}
use Rattle.std.specs.Prelude.{◌==◌}
use Rattle.std.specs.List.{AllByRecursion}
use Rattle.std.proofs.lemmas.List.{drop_more, length-drop}
use Rattle.mc_meta.specs.Words.{Placed, placed, is_placed_word, words, words_at, pieces_of, put_before, has_byte, text_of, IsInLine, IsWordIn}

-- ---- texts

texts_choice : (is : Bool) (word : Placed) (more : List Placed) (texts : List (List ℕ)) → map text_of more ≡ texts
    → map text_of (if is then word ∷ more else more) ≡ (if is then word.text ∷ texts else texts)
texts_choice true word more texts same = ap (λ (t : List (List ℕ)). word.text ∷ t) same
texts_choice false word more texts same = same

texts_placed : (at : ℕ) (pieces : List (List ℕ)) → map text_of (filter is_placed_word (placed at pieces)) ≡ filter has_byte pieces
texts_placed at [] = refl
texts_placed at (piece ∷ pieces) =
    texts_choice (has_byte piece) (record { from = at; text = piece }) (filter is_placed_word (placed (at + length piece + 1) pieces)) (filter has_byte pieces)
    (texts_placed (at + length piece + 1) pieces)

-- without their places, the words of a text are its words
pub words_at-texts : (at : ℕ) (text : List ℕ) → map text_of (words_at at text) ≡ words text
unfolding words words_at
words_at-texts at text = texts_placed at (pieces_of text)

-- where the text after some bytes has the same words at the same places, it has the same words
pub same_words : (text : List ℕ) (count : ℕ) → ((at : ℕ) → words_at (at + count) (drop count text) ≡ words_at at text) → words (drop count text) ≡ words text
same_words text count same = sym (words_at-texts (0 + count) (drop count text)) ∙ ap (map text_of) (same 0) ∙ words_at-texts 0 text

-- where the first bytes of a text are its first word at its place, they are its first word
pub first_word : (text : List ℕ) (size : ℕ) → ((at : ℕ) → words_at at text ≡ record { from = at; text = take size text } ∷ words_at (at + size) (drop size text))
    → words text ≡ take size text ∷ words (drop size text)
first_word text size first =
    sym (words_at-texts 0 text) ∙ ap (map text_of) (first 0) ∙ ap (λ (more : List (List ℕ)). take size text ∷ more) (words_at-texts (0 + size) (drop size text))

-- ---- places

lies_at : (line : List ℕ) (at to : ℕ) (pieces : List (List ℕ)) → at ≡ to → AllByRecursion (IsInLine line) (placed at pieces) → AllByRecursion (IsInLine line) (placed to pieces)
lies_at line at to pieces same all = subst (λ (n : ℕ). AllByRecursion (IsInLine line) (placed n pieces)) same all

next_at : (line : List ℕ) (at byte : ℕ) (bytes : List ℕ) → drop at line ≡ byte ∷ bytes → drop (at + 1) line ≡ bytes
next_at line at byte bytes here =
    let size = ap (λ (l : List ℕ). length l) here in
    let more : drop at line ≡ get_or line at 0 ∷ drop (at + 1) line = drop_more line at 0 (omega (arith, size, length-drop at line)) in
    ap (λ (l : List ℕ). drop 1 l) (sym more ∙ here)

lies_before : (line : List ℕ) (at byte : ℕ) (bytes : List ℕ) (pieces : List (List ℕ)) → drop at line ≡ byte ∷ bytes
    → AllByRecursion (IsInLine line) (placed (at + 1) pieces) → AllByRecursion (IsInLine line) (placed at (put_before byte pieces))
lies_before line at byte bytes [] here all = (ap (λ (l : List ℕ). take 1 l) here, tt)
lies_before line at byte bytes (piece ∷ pieces) here all = (
  ap (λ (l : List ℕ). take (suc (length piece)) l) here ∙ ap (λ (l : List ℕ). byte ∷ take (length piece) l) (sym (next_at line at byte bytes here)) ∙ ap (λ (l : List ℕ). byte ∷ l) all.0,
  lies_at line (at + 1 + length piece + 1) (at + length (byte ∷ piece) + 1) pieces (omega arith) all.1,
)

lies_choice : (ends : Bool) (line : List ℕ) (at byte : ℕ) (bytes : List ℕ) (pieces : List (List ℕ)) → drop at line ≡ byte ∷ bytes
    → AllByRecursion (IsInLine line) (placed (at + 1) pieces) → AllByRecursion (IsInLine line) (placed at (if ends then [] ∷ pieces else put_before byte pieces))
lies_choice true line at byte bytes pieces here all = (refl, lies_at line (at + 1) (at + 0 + 1) pieces (omega arith) all)
lies_choice false line at byte bytes pieces here all = lies_before line at byte bytes pieces here all

lies : (line : List ℕ) (at : ℕ) (text : List ℕ) → drop at line ≡ text → AllByRecursion (IsInLine line) (placed at (pieces_of text))
lies line at [] here = (refl, tt)
lies line at (byte ∷ bytes) here =
    lies_choice (byte == 32) line at byte bytes (pieces_of bytes) here (lies line (at + 1) bytes (next_at line at byte bytes here))

-- ---- words

some_byte : (text : List ℕ) → has_byte text ≡ true → 0 < length text
some_byte [] is = absurd (cc)
some_byte (byte ∷ bytes) is = omega arith

take_few : (count : ℕ) (text : List ℕ) → length (take count text) ≤ length text
take_few zero text = omega arith
take_few (suc count) [] = omega arith
take_few (suc count) (byte ∷ bytes) = omega (arith, take_few count bytes)

word_in : (line : List ℕ) (word : Placed) → has_byte word.text ≡ true → IsInLine line word → IsWordIn line word
word_in line word is here =
    let size : length (take (length word.text) (drop word.from line)) ≡ length word.text = ap (λ (l : List ℕ). length l) here in
    let some = some_byte word.text is in
    record {
      some = some;
      within = omega (arith, some, size, take_few (length word.text) (drop word.from line), length-drop word.from line);
      text = here;
    }

kept_choice : (is : Bool) (line : List ℕ) (word : Placed) (more : List Placed) → has_byte word.text ≡ is → IsInLine line word
    → AllByRecursion (IsWordIn line) more → AllByRecursion (IsWordIn line) (if is then word ∷ more else more)
kept_choice true line word more is here all = (word_in line word is here, all)
kept_choice false line word more is here all = all

kept : (line : List ℕ) (pieces : List Placed) → AllByRecursion (IsInLine line) pieces → AllByRecursion (IsWordIn line) (filter is_placed_word pieces)
kept line [] all = tt
kept line (piece ∷ pieces) all =
    kept_choice (has_byte piece.text) line piece (filter is_placed_word pieces) refl all.0 (kept line pieces all.1)

-- the words of a line are at their places
pub words_at-places : (line : List ℕ) → AllByRecursion (IsWordIn line) (words_at 0 line)
unfolding words_at
words_at-places line = kept line (placed 0 (pieces_of line)) (lies line 0 line refl)
