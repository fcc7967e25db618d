-- Words that are read one by one.
use Rattle.std.proofs.Common.{◌≡◌, ◌<◌, ◌+◌, ℕ, List, [], ◌∷◌, ◌++◌, map, drop, length, get_or, sym, ◌∙◌, ap, append_assoc, true, false, Bor}
use Rattle.std.specs.Prelude.{◌&&◌}
use Rattle.std.specs.List.{list_all}
use Rattle.std.proofs.lemmas.List.{map-append, drop_more}
use Rattle.zy_command_line.specs.Grammar.{Word, is_plain}

-- one further text
pub joined_more : (texts : List (Bor Word)) (t : Bor Word) (words : List Word) (i : ℕ) (d : Word) → i < length words → t.now ≡ get_or words i d
    → map (λ t. t.now) texts ++ drop i words ≡ words → map (λ t. t.now) (texts ++ t ∷ []) ++ drop (i + 1) words ≡ words
joined_more texts t words i d near same whole =
    ap (λ (l : List Word). l ++ drop (i + 1) words) (map-append (λ (t : Bor Word). t.now) texts (t ∷ []))
    ∙ append_assoc (map (λ t. t.now) texts) (t.now ∷ []) (drop (i + 1) words)
    ∙ ap (λ (w : Word). map (λ t. t.now) texts ++ w ∷ drop (i + 1) words) same
    ∙ ap (λ (l : List Word). map (λ t. t.now) texts ++ l) (sym (drop_more words i d near)) ∙ whole

-- one further word that is plain
pub plain_more : (words : List Word) (i : ℕ) (d : Word) → i < length words → is_plain (get_or words i d) ≡ true
    → list_all is_plain (drop i words) ≡ list_all is_plain words → list_all is_plain (drop (i + 1) words) ≡ list_all is_plain words
plain_more words i d near plain same =
    sym (ap (list_all is_plain) (drop_more words i d near) ∙ ap (λ b. b && list_all is_plain (drop (i + 1) words)) plain) ∙ same

-- a word that is not plain
pub not_plain : (words : List Word) (i : ℕ) (d : Word) → i < length words → is_plain (get_or words i d) ≡ false
    → list_all is_plain (drop i words) ≡ list_all is_plain words → list_all is_plain words ≡ false
not_plain words i d near plain same =
    sym same ∙ ap (list_all is_plain) (drop_more words i d near) ∙ ap (λ b. b && list_all is_plain (drop (i + 1) words)) plain

-- what the loop over words needs
pub ruleset words_taken = (joined_more, plain_more, not_plain)
