-- Texts that are written piece by piece.
use Rattle.std.proofs.Common.{◌≡◌, ℕ, List, [], ◌∷◌, ◌++◌, refl, sym, ◌∙◌, ap, append_assoc}
use Rattle.std.specs.Prelude.{flat_map}
use Rattle.std.proofs.lemmas.List.{append-nil}
use Rattle.std.proofs.lemmas.Grind.{flat_map-append}

-- the pieces are these bytes
pub text_3 : (x : ℕ) (a b c p q r : List ℕ) → a ≡ p → b ≡ q → c ≡ r → (x ∷ []) ++ (a ++ (b ++ (c ++ []))) ≡ x ∷ (p ++ (q ++ r))
text_3 x a b c p q r one two three = rw (one, two, three, append-nil r) refl

-- five fields that were appended one after the other
pub appended_5 : (text one two three four five a b c d e p q r s t : List ℕ) → one ≡ text ++ a → two ≡ one ++ b → three ≡ two ++ c → four ≡ three ++ d → five ≡ four ++ e
    → a ≡ p → b ≡ q → c ≡ r → d ≡ s → e ≡ t → five ≡ text ++ (p ++ (q ++ (r ++ (s ++ t))))
appended_5 text one two three four five a b c d e p q r s t h i j k l f1 f2 f3 f4 f5 =
    (rw (l, k, j, i, h, f1, f2, f3, f4, f5) refl)
    ∙ append_assoc (((text ++ p) ++ q) ++ r) s t ∙ append_assoc ((text ++ p) ++ q) r (s ++ t) ∙ append_assoc (text ++ p) q (r ++ (s ++ t)) ∙ append_assoc text p (q ++ (r ++ (s ++ t)))

-- a head, a code, a key and fields that were appended one after the other
pub appended_call : (text one two three four head key fields h k f : List ℕ) (code own : ℕ) → one ≡ text ++ head → two ≡ one ++ code ∷ [] → three ≡ two ++ key → four ≡ three ++ fields
    → head ≡ h → code ≡ own → key ≡ k → fields ≡ f → four ≡ text ++ (h ++ (own ∷ (k ++ f)))
appended_call text one two three four head key fields h k f code own is_one is_two is_three is_four is_head is_code is_key is_fields =
    (rw (is_four, is_three, is_two, is_one, is_head, is_code, is_key, is_fields) refl)
    ∙ append_assoc ((text ++ h) ++ own ∷ []) k f ∙ append_assoc (text ++ h) (own ∷ []) (k ++ f) ∙ append_assoc text h (own ∷ (k ++ f))

-- ---- what is taken one by one

-- of these things some were taken, whose texts are this one, and these are left
pub record AreTaken {X : Type 0} (text : X → List ℕ) (all left : List X) (bytes : List ℕ) : Type 0 where
  pub taken : List X
  pub split : all ≡ taken ++ left
  pub text_is : bytes ≡ flat_map text taken

-- none was taken
pub none_taken : {X : Type 0} (text : X → List ℕ) (all : List X) → AreTaken text all all []
none_taken text all = record { taken = []; split = refl; text_is = refl }

module _ {X : Type 0} {text : X → List ℕ} {all left rest : List X} {x : X} {bytes : List ℕ} where
  -- one was taken
  pub one_taken : AreTaken text all left bytes → left ≡ x ∷ rest → AreTaken text all rest (bytes ++ text x)
  one_taken are is = record {
    taken = are.taken ++ x ∷ [];
    split = are.split ∙ ap (λ l. are.taken ++ l) is ∙ sym (append_assoc are.taken (x ∷ []) rest);
    text_is = ap (λ l. l ++ text x) are.text_is ∙ sym (flat_map-append text are.taken (x ∷ []) ∙ ap (λ l. flat_map text are.taken ++ l) (append-nil (text x)));
  }

  -- with one more and the rest, the texts are those of all
  pub one_and_rest : AreTaken text all left bytes → left ≡ x ∷ rest → bytes ++ (text x ++ flat_map text rest) ≡ flat_map text all
  one_and_rest are is =
      ap (λ l. l ++ (text x ++ flat_map text rest)) are.text_is
      ∙ sym (ap (flat_map text) (are.split ∙ ap (λ l. are.taken ++ l) is) ∙ flat_map-append text are.taken (x ∷ rest))

-- where none is left, the texts are those of all
pub all_taken : {X : Type 0} {text : X → List ℕ} {all left : List X} {bytes : List ℕ} → AreTaken text all left bytes → left ≡ [] → bytes ≡ flat_map text all
all_taken {text = text} are is =
    are.text_is ∙ ap (flat_map text) (sym (are.split ∙ ap (λ l. are.taken ++ l) is ∙ append-nil are.taken))
