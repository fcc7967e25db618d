-- Letters that are listed and differ are no more than those listed.
use Rattle.std.proofs.Common.{◌≡◌, ◌≢◌, ℕ, ◌<◌, ◌≤◌, ◌⊎◌, inl, inr, Bool, true, false, if◌then◌else◌, List, [], ◌∷◌, ◌++◌, length, refl, sym, ap, ◌∙◌, arith, length-append}
use Rattle.std.specs.Prelude.{◌==◌, ◌||◌, Option, None, Some, IfSome}
use Rattle.std.proofs.lemmas.Bool.{eq-eqb}
use Rattle.std.proofs.lemmas.Bool.Decides.{eqb_tells}
use Rattle.std.proofs.lemmas.List.Folds.{list_any-append}
use Rattle.mc_meta.specs.declared.flags.Flags.{Flags}
use Rattle.mc_meta.specs.Flags.{is_among}
use Rattle.mc_meta.specs.Room.{used, HasRoom, Follows}

-- ---- one letter more

either_kept : (here there : Bool) → here ≡ true → here || there ≡ true
either_kept true there is = refl
either_kept false there is = absurd (cc)

either_added : (here there : Bool) → there ≡ true → here || (there || false) ≡ true
either_added true there is = refl
either_added false true is = refl
either_added false false is = absurd (cc)

-- what is among some letters is among these and another one
among_kept : (seen : List ℕ) (letter x : ℕ) → is_among seen x ≡ true → is_among (seen ++ letter ∷ []) x ≡ true
among_kept seen letter x is =
    list_any-append (λ other. other == x) seen (letter ∷ []) ∙ either_kept (is_among seen x) ((letter == x) || false) is

-- a letter is among some letters and itself
among_added : (seen : List ℕ) (letter x : ℕ) → letter ≡ x → is_among (seen ++ letter ∷ []) x ≡ true
among_added seen letter x same =
    list_any-append (λ other. other == x) seen (letter ∷ []) ∙ either_added (is_among seen x) (letter == x) (eq-eqb letter x same)

-- ---- how many pass a test

pass_le : (before after : Bool) (x : ℕ) (few many : List ℕ) → (before ≡ true → after ≡ true) → length few ≤ length many
    → length (if before then x ∷ few else few) ≤ length (if after then x ∷ many else many)
pass_le true true x few many kept so_far = omega (arith, so_far)
pass_le true false x few many kept so_far = let no = kept refl in absurd (cc)
pass_le false true x few many kept so_far = omega (arith, so_far)
pass_le false false x few many kept so_far = so_far

pass_lt : (before after : Bool) (x : ℕ) (few many : List ℕ) → (before ≡ true → after ≡ true) → length few < length many
    → length (if before then x ∷ few else few) < length (if after then x ∷ many else many)
pass_lt true true x few many kept so_far = omega (arith, so_far)
pass_lt true false x few many kept so_far = let no = kept refl in absurd (cc)
pass_lt false true x few many kept so_far = omega (arith, so_far)
pass_lt false false x few many kept so_far = so_far

pass_new : (before after : Bool) (x : ℕ) (few many : List ℕ) → before ≡ false → after ≡ true → length few ≤ length many
    → length (if before then x ∷ few else few) < length (if after then x ∷ many else many)
pass_new false true x few many was is so_far = omega (arith, so_far)
pass_new true after x few many was is so_far = absurd (cc)
pass_new false false x few many was is so_far = absurd (cc)

used_le : (listed seen : List ℕ) (letter : ℕ) → length (used listed seen) ≤ length (used listed (seen ++ letter ∷ []))
used_le [] seen letter = omega arith
used_le (x ∷ listed) seen letter =
    pass_le (is_among seen x) (is_among (seen ++ letter ∷ []) x) x (used listed seen) (used listed (seen ++ letter ∷ [])) (among_kept seen letter x) (used_le listed seen letter)

-- one more of the listed letters is used with one that is listed and new
pub used_lt : (listed seen : List ℕ) (letter : ℕ) → is_among listed letter ≡ true → is_among seen letter ≡ false
    → length (used listed seen) < length (used listed (seen ++ letter ∷ []))
used_lt [] seen letter is new = absurd (cc)
used_lt (x ∷ listed) seen letter is new = go (eqb_tells x letter) (λ (more : is_among listed letter ≡ true). used_lt listed seen letter more new) is
  where
    go : (((x == letter) ≡ true) × (x ≡ letter)) ⊎ (((x == letter) ≡ false) × (x ≢ letter))
        → (is_among listed letter ≡ true → length (used listed seen) < length (used listed (seen ++ letter ∷ [])))
        → (x == letter) || is_among listed letter ≡ true
        → length (used (x ∷ listed) seen) < length (used (x ∷ listed) (seen ++ letter ∷ []))
    go (inl t) again is =
        pass_new (is_among seen x) (is_among (seen ++ letter ∷ []) x) x (used listed seen) (used listed (seen ++ letter ∷ []))
        (ap (is_among seen) t.1 ∙ new) (among_added seen letter x (sym t.1)) (used_le listed seen letter)
    go (inr t) again is =
        pass_lt (is_among seen x) (is_among (seen ++ letter ∷ []) x) x (used listed seen) (used listed (seen ++ letter ∷ []))
        (among_kept seen letter x) (again (sym (ap (λ (b : Bool). b || is_among listed letter) t.0) ∙ is))

pass_few : (is : Bool) (x : ℕ) (few many : List ℕ) → length few ≤ length many → length (if is then x ∷ few else few) ≤ length (x ∷ many)
pass_few true x few many so_far = omega (arith, so_far)
pass_few false x few many so_far = omega (arith, so_far)

used_few : (listed seen : List ℕ) → length (used listed seen) ≤ length listed
used_few [] seen = omega arith
used_few (x ∷ listed) seen = pass_few (is_among seen x) x (used listed seen) listed (used_few listed seen)

-- ---- room

-- before a letter that is listed and new, there is room for it
pub room_for : (listed : List ℕ) (said : Flags) (letter : ℕ) → HasRoom listed said → is_among listed letter ≡ true → is_among said.seen letter ≡ false → length said.seen < 6
room_for listed said letter room is new =
    omega (arith, room.few, room.seen, used_lt listed said.seen letter is new, used_few listed (said.seen ++ letter ∷ []))

-- there is room for further letters after one that was listed and new
room_kept : (listed : List ℕ) (said after more : Flags) (letter : ℕ) → HasRoom listed said → is_among listed letter ≡ true → is_among said.seen letter ≡ false
    → after.seen ≡ said.seen ++ letter ∷ [] → length after.marks ≡ length said.marks → Follows after more → HasRoom listed more
room_kept listed said after more letter room is new pushed kept follows =
    let size = length-append said.seen (letter ∷ []) in
    let whole : more.seen ≡ said.seen ++ letter ∷ [] = follows.seen ∙ pushed in
    let seen : length more.seen ≡ length (said.seen ++ letter ∷ []) = ap (λ (l : List ℕ). length l) whole in
    let same : length (used listed more.seen) ≡ length (used listed (said.seen ++ letter ∷ [])) = ap (λ (l : List ℕ). length (used listed l)) whole in
    record {
      few = room.few;
      seen = omega (arith, size, seen, same, room.seen, used_lt listed said.seen letter is new);
      marks = omega (arith, size, seen, kept, room.marks, follows.marks);
    }

-- the same of flags that may have been found
pub room_found : (listed : List ℕ) (said after : Flags) (letter : ℕ) → HasRoom listed said → is_among listed letter ≡ true → is_among said.seen letter ≡ false
    → after.seen ≡ said.seen ++ letter ∷ [] → length after.marks ≡ length said.marks → (found : Option Flags) → IfSome found (Follows after) → IfSome found (HasRoom listed)
room_found listed said after letter room is new pushed kept None follows = follows
room_found listed said after letter room is new pushed kept (Some more) follows = room_kept listed said after more letter room is new pushed kept follows
