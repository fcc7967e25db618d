-- Words that end in noreply, and what follows a name once noreply is added.
use Rattle.std.proofs.Common.{◌≡◌, ℕ, ◌<◌, ◌≤◌, Bool, true, false, not, ◌&&◌, List, [], ◌∷◌, ◌++◌, length, refl, ap, arith, length-append}
use Rattle.std.specs.Prelude.{Some, codes}
use Rattle.std.specs.Prelude.{◌==◌, nat_le, nat_lt}
use Rattle.std.proofs.Common.{◌≢◌, ◌⊎◌, inl, inr}
use Rattle.std.proofs.lemmas.Bool.{leb-true, le-leb, lt-ltb}
use Rattle.std.proofs.lemmas.Bool.Decides.{eqb_tells}
use Rattle.std.proofs.lemmas.Slice.Eq.{bytes_eq-Decides}
use Rattle.mc_parse.specs.Words.{is_noreply}
use Rattle.mc_parse.specs.Arity.{from_to, is_most, has_count, ends_in_noreply, but_last, lacks_noreply, asks_silence, following_of}
use Rattle.mc_parse.proofs.ArityLemmas.{both, follows_by}

-- ---- noreply as the last word

-- the word
abbrev pub noreply : List ℕ
noreply = codes "noreply"

pub is_the_word : (word : List ℕ) → is_noreply word ≡ true → word ≡ noreply
is_the_word word is = (bytes_eq-Decides word noreply).0 is

pub ends-more : (words : List (List ℕ)) → ends_in_noreply (words ++ noreply ∷ []) ≡ true
ends-more [] = refl
ends-more (word ∷ []) = refl
ends-more (word ∷ next ∷ words) = ends-more (next ∷ words)

pub but_last-more : (words : List (List ℕ)) (last : List ℕ) → but_last (words ++ last ∷ []) ≡ words
but_last-more [] last = refl
but_last-more (word ∷ []) last = refl
but_last-more (word ∷ next ∷ words) last = ap (λ (rest : List (List ℕ)). word ∷ rest) (but_last-more (next ∷ words) last)

-- words that end in noreply are those but the last, and noreply
pub ends-split : (words : List (List ℕ)) → ends_in_noreply words ≡ true → words ≡ but_last words ++ noreply ∷ []
ends-split [] ends = absurd (cc)
ends-split (word ∷ []) ends = ap (λ (last : List ℕ). last ∷ []) (is_the_word word ends)
ends-split (word ∷ next ∷ words) ends = ap (λ (rest : List (List ℕ)). word ∷ rest) (ends-split (next ∷ words) ends)

-- ---- what follows a name

-- the count may follow, and noreply is neither missing nor asked for
pub record Unsilenced (least most : ℕ) (words : List (List ℕ)) : Type 0 where
  pub some : least ≤ length words
  pub room : length words < most

below_most : (least most n : ℕ) (ends : Bool) → least < most → n ≤ most → (n == most) && not ends ≡ false → nat_lt least n && ends ≡ false → n < most
below_most least most n ends few within lacks asks = go (eqb_tells n most) ends lacks asks
  where
    go : (((n == most) ≡ true) × (n ≡ most)) ⊎ (((n == most) ≡ false) × (n ≢ most)) → (ends : Bool) → (n == most) && not ends ≡ false → nat_lt least n && ends ≡ false → n < most
    go (inr t) ends lacks asks = let differs = t.1 in omega arith
    go (inl t) true lacks asks = let at = t.1 in let over = lt-ltb least n (omega arith) in absurd (cc)
    go (inl t) false lacks asks = let at = t.0 in absurd (cc)

pub unsilenced : (least most : ℕ) (words : List (List ℕ)) → least < most → has_count (from_to least most) (length words) ≡ true
    → lacks_noreply (from_to least most) words ≡ false → asks_silence (from_to least most) words ≡ false → Unsilenced least most words
unsilenced least most words few has lacks asks =
    let counts = both (nat_le least (length words)) (nat_le (length words) most) has in
    record {
      some = leb-true least (length words) counts.0;
      room = below_most least most (length words) (ends_in_noreply words) few (leb-true (length words) most counts.1) lacks asks;
    }

-- after this number of words, noreply asks for no answer
pub follows_silently : (least most : ℕ) (words : List (List ℕ)) → Unsilenced least most words
    → following_of (from_to least most) (words ++ noreply ∷ []) ≡ Some (record { words = words; quiet = true })
follows_silently least most words is =
    let n : ℕ = length (words ++ noreply ∷ []) in
    let size = length-append words (noreply ∷ []) in
    let low = le-leb least n (omega (arith, is.some, size)) in
    let high = le-leb n most (omega (arith, is.room, size)) in
    let over = lt-ltb least n (omega (arith, is.some, size)) in
    follows_by (nat_le least n && nat_le n most) (is_most (Some most) n && not (ends_in_noreply (words ++ noreply ∷ [])))
    (nat_lt least n && ends_in_noreply (words ++ noreply ∷ [])) (words ++ noreply ∷ []) words
    (rw (low, high) refl) (rw (ends-more words) (no_more (n == most))) (rw (over, ends-more words) refl) (but_last-more words noreply)
  where
    no_more : (b : Bool) → b && not true ≡ false
    no_more true = refl
    no_more false = refl
