-- The words of a text are words.
use Rattle.std.proofs.Common.{◌≡◌, ℕ, Bool, true, false, if◌then◌else◌, filter, List, [], ◌∷◌, refl, ap}
use Rattle.std.specs.Prelude.{◌==◌, not, ◌&&◌}
use Rattle.std.specs.List.{list_all}
use Rattle.mc_parse.specs.Words.{words, pieces_of, put_before, has_byte, is_word}

has_no_space : List ℕ → Bool
has_no_space text = list_all (λ byte. not (byte == 32)) text

put_before-only : (byte : ℕ) (pieces : List (List ℕ)) → not (byte == 32) ≡ true → list_all has_no_space pieces ≡ true → list_all has_no_space (put_before byte pieces) ≡ true
unfolding has_no_space
put_before-only byte [] other only = rw other refl
put_before-only byte (piece ∷ pieces) other only = rw other only

pieces-choice_only : (ends : Bool) (byte : ℕ) (pieces : List (List ℕ)) → (byte == 32) ≡ ends → list_all has_no_space pieces ≡ true
    → list_all has_no_space (if ends then [] ∷ pieces else put_before byte pieces) ≡ true
unfolding has_no_space
pieces-choice_only true byte pieces is only = only
pieces-choice_only false byte pieces is only = put_before-only byte pieces (ap not is) only

pieces-only : (text : List ℕ) → list_all has_no_space (pieces_of text) ≡ true
unfolding has_no_space
pieces-only [] = refl
pieces-only (byte ∷ bytes) = pieces-choice_only (byte == 32) byte (pieces_of bytes) refl (pieces-only bytes)

both : (x y z : Bool) → x && y ≡ true → (y ≡ true → z ≡ true) → x && z ≡ true
both true y z is next = next is
both false y z is next = is

kept-only : (pieces : List (List ℕ)) → list_all has_no_space pieces ≡ true → list_all is_word (filter has_byte pieces) ≡ true
unfolding has_no_space
kept-only [] only = refl
kept-only ([] ∷ pieces) only = kept-only pieces only
kept-only ((byte ∷ bytes) ∷ pieces) only =
    both (has_no_space (byte ∷ bytes)) (list_all has_no_space pieces) (list_all is_word (filter has_byte pieces)) only (kept-only pieces)

-- words are words
pub words-only : (line : List ℕ) → list_all is_word (words line) ≡ true
unfolding words
words-only line = kept-only (pieces_of line) (pieces-only line)
