-- What a search for words byte by byte shows of the words of the whole text and of their places.
use Rattle.std.proofs.Common.{◌≡◌, ◌≢◌, ℕ, ◌+◌, ◌<◌, ◌≤◌, Bool, true, false, if◌then◌else◌, filter, List, [], ◌∷◌, ◌++◌, length, drop, take, get_or, refl, sym, ap, ◌∙◌, append_assoc, append-nil, subst, arith}
use Rattle.std.specs.Prelude.{◌==◌}
use Rattle.std.proofs.lemmas.Bool.Decides.{nat_tests}
use Rattle.std.proofs.lemmas.List.{drop_more, drop_all, take_more, length-take-le}
use Rattle.mc_meta.specs.Words.{Placed, placed, is_placed_word, words_at, pieces_of, put_before}

-- ---- spaces

-- the words of a text do not change with another way to say its place
pub words_at-same : (at to : ℕ) (text : List ℕ) → at ≡ to → words_at at text ≡ words_at to text
words_at-same at to text same = ap (λ (n : ℕ). words_at n text) same

-- a space at the start of a text adds no word
pub words_at-space : (at : ℕ) (text : List ℕ) → words_at at (32 ∷ text) ≡ words_at (at + 1) text
unfolding words_at
words_at-space at text = ap (λ (n : ℕ). filter is_placed_word (placed n (pieces_of text))) (omega arith)

-- the words after a space are those from the space on
pub words_past : (text : List ℕ) (i : ℕ) → i < length text → get_or text i 0 ≡ 32 → ((at : ℕ) → words_at (at + i) (drop i text) ≡ words_at at text)
    → (at : ℕ) → words_at (at + (i + 1)) (drop (i + 1) text) ≡ words_at at text
words_past text i within is_space same at =
    let here : drop i text ≡ 32 ∷ drop (i + 1) text = drop_more text i 0 within ∙ ap (λ (b : ℕ). b ∷ drop (i + 1) text) is_space in
    words_at-same (at + (i + 1)) (at + i + 1) (drop (i + 1) text) (omega arith)
    ∙ sym (words_at-space (at + i) (drop (i + 1) text)) ∙ ap (words_at (at + i)) (sym here) ∙ same at

-- a text has no words once all of it was passed
pub words_none : (text : List ℕ) (i at : ℕ) → i ≡ length text → ((at : ℕ) → words_at (at + i) (drop i text) ≡ words_at at text) → words_at at text ≡ []
unfolding words_at
words_none text i at all same =
    let nothing : drop i text ≡ [] = drop_all i text (omega (arith, all)) in
    sym (same at) ∙ ap (words_at (at + i)) nothing

-- ---- a word

-- bytes put before the first of some pieces
abbrev pub put_all : List ℕ → List (List ℕ) → List (List ℕ)
put_all bytes [] = bytes ∷ []
put_all bytes (piece ∷ pieces) = (bytes ++ piece) ∷ pieces

-- the bytes of a text up to a place begin its first piece
pub record IsWordTo (text : List ℕ) (at : ℕ) : Type 0 where
  pub is : pieces_of text ≡ put_all (take at text) (pieces_of (drop at text))

put_all-choice : (ends : Bool) (byte : ℕ) (pieces : List (List ℕ))
    → (if ends then [] ∷ pieces else put_before byte pieces) ≡ put_all [] (if ends then [] ∷ pieces else put_before byte pieces)
put_all-choice true byte pieces = refl
put_all-choice false byte [] = refl
put_all-choice false byte (piece ∷ pieces) = refl

pub put_all-none : (text : List ℕ) → pieces_of text ≡ put_all [] (pieces_of text)
put_all-none [] = refl
put_all-none (byte ∷ bytes) = put_all-choice (byte == 32) byte (pieces_of bytes)

put_all-more : (bytes : List ℕ) (byte : ℕ) (pieces : List (List ℕ)) → put_all bytes (put_before byte pieces) ≡ put_all (bytes ++ byte ∷ []) pieces
put_all-more bytes byte [] = refl
put_all-more bytes byte (piece ∷ pieces) = ap (λ (p : List ℕ). p ∷ pieces) (sym (append_assoc bytes (byte ∷ []) piece))

pieces_of-other : (byte : ℕ) (bytes : List ℕ) → byte ≢ 32 → pieces_of (byte ∷ bytes) ≡ put_before byte (pieces_of bytes)
pieces_of-other byte bytes other = grind (arith, nat_tests)

-- at the start, no byte of the piece has been read
pub word_begins : (text : List ℕ) → IsWordTo text 0
word_begins text = record { is = put_all-none text }

-- a byte that is no space goes on with the piece
pub word_goes_on : (text : List ℕ) (at : ℕ) → at < length text → get_or text at 0 ≢ 32 → IsWordTo text at → IsWordTo text (at + 1)
word_goes_on text at within other so_far = record {
  is =
      let byte = get_or text at 0 in
      let rest = drop (at + 1) text in
      let here : drop at text ≡ byte ∷ rest = drop_more text at 0 within in
      let pieces : pieces_of (drop at text) ≡ put_before byte (pieces_of rest) = ap pieces_of here ∙ pieces_of-other byte rest other in
      let longer : take (at + 1) text ≡ take at text ++ byte ∷ [] = take_more text at 0 within in
      so_far.is ∙ ap (put_all (take at text)) pieces ∙ put_all-more (take at text) byte (pieces_of rest) ∙ ap (λ (bytes : List ℕ). put_all bytes (pieces_of rest)) (sym longer);
}

-- so do two, three and four bytes that are no spaces
pub two_go_on : (text : List ℕ) (at : ℕ) → at + 4 ≤ length text → get_or text at 0 ≢ 32 → get_or text (at + 1) 0 ≢ 32 → IsWordTo text at
    → IsWordTo text (at + 2)
two_go_on text at within first second so_far =
    let one : IsWordTo text (at + 1) = word_goes_on text at (omega (arith, within)) first so_far in
    subst (IsWordTo text) (omega arith) (word_goes_on text (at + 1) (omega (arith, within)) second one)

pub three_go_on : (text : List ℕ) (at : ℕ) → at + 4 ≤ length text → get_or text at 0 ≢ 32 → get_or text (at + 1) 0 ≢ 32
    → get_or text (at + 2) 0 ≢ 32 → IsWordTo text at → IsWordTo text (at + 3)
three_go_on text at within first second third so_far =
    let two : IsWordTo text (at + 2) = two_go_on text at within first second so_far in
    subst (IsWordTo text) (omega arith) (word_goes_on text (at + 2) (omega (arith, within)) third two)

pub four_go_on : (text : List ℕ) (at : ℕ) → at + 4 ≤ length text → get_or text at 0 ≢ 32 → get_or text (at + 1) 0 ≢ 32
    → get_or text (at + 2) 0 ≢ 32 → get_or text (at + 3) 0 ≢ 32 → IsWordTo text at → IsWordTo text (at + 4)
four_go_on text at within first second third fourth so_far =
    let three : IsWordTo text (at + 3) = three_go_on text at within first second third so_far in
    subst (IsWordTo text) (omega arith) (word_goes_on text (at + 3) (omega (arith, within)) fourth three)

-- ---- a word's end

word_kept : (word : List ℕ) (pieces : List (List ℕ)) (at : ℕ) → 0 < length word
    → filter is_placed_word (placed at ((word ++ []) ∷ pieces)) ≡ record { from = at; text = word } ∷ filter is_placed_word (placed (at + length word + 1) pieces)
word_kept [] pieces at some = absurd (omega arith)
word_kept (byte ∷ bytes) pieces at some =
    ap (λ (tail : List ℕ). record { from = at; text = byte ∷ tail } ∷ filter is_placed_word (placed (at + length (byte ∷ tail) + 1) pieces)) (append-nil bytes)

ended : (text word rest : List ℕ) → 0 < length word → pieces_of text ≡ put_all word (pieces_of rest) → get_or rest 0 32 ≡ 32
    → (at : ℕ) → words_at at text ≡ record { from = at; text = word } ∷ words_at (at + length word) rest
unfolding words_at
ended text word [] some is at_end at = ap (λ (pieces : List (List ℕ)). filter is_placed_word (placed at pieces)) is ∙ word_kept word [] at some
ended text word (byte ∷ bytes) some is at_end at =
    ap (λ (pieces : List (List ℕ)). filter is_placed_word (placed at pieces)) (subst (λ (b : ℕ). pieces_of text ≡ put_all word (pieces_of (b ∷ bytes))) at_end is)
    ∙ word_kept word (pieces_of bytes) at some
    ∙ ap (λ (more : List Placed). record { from = at; text = word } ∷ more)
    (sym (words_at-space (at + length word) bytes) ∙ ap (λ (b : ℕ). words_at (at + length word) (b ∷ bytes)) (sym at_end))

ended_at : (text : List ℕ) (end : ℕ) → end ≤ length text → 0 < end → get_or (drop end text) 0 32 ≡ 32 → IsWordTo text end
    → (at : ℕ) → words_at at text ≡ record { from = at; text = take end text } ∷ words_at (at + end) (drop end text)
ended_at text end within some at_end so_far at =
    let size : length (take end text) ≡ end = length-take-le end text within in
    ended text (take end text) (drop end text) (omega (arith, size)) so_far.is at_end at
    ∙ ap (λ (n : ℕ). record { from = at; text = take end text } ∷ words_at (at + n) (drop end text)) size

-- a text that was read to a space has the word read, and those after it
pub word_ends_at : (text : List ℕ) (end : ℕ) → end < length text → 0 < end → get_or text end 0 ≡ 32 → IsWordTo text end
    → (at : ℕ) → words_at at text ≡ record { from = at; text = take end text } ∷ words_at (at + end) (drop end text)
word_ends_at text end within some is_space so_far =
    let here : drop end text ≡ get_or text end 0 ∷ drop (end + 1) text = drop_more text end 0 within in
    ended_at text end (omega arith) some (ap (λ (rest : List ℕ). get_or rest 0 32) here ∙ is_space) so_far

-- a text that was read to its end is the word read
pub ended_whole : (text : List ℕ) (end : ℕ) → length text ≤ end → end ≤ length text → 0 < length text → IsWordTo text end
    → (at : ℕ) → words_at at text ≡ record { from = at; text = take (length text) text } ∷ words_at (at + length text) (drop (length text) text)
ended_whole text end past within some so_far =
    let whole : end ≡ length text = omega arith in
    let here : drop (length text) text ≡ [] = drop_all (length text) text (omega arith) in
    ended_at text (length text) (omega arith) some (ap (λ (rest : List ℕ). get_or rest 0 32) here) (subst (IsWordTo text) whole so_far)
