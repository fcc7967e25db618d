-- Steps at a key that follow those of an earlier window.
use Rattle.std.proofs.Common.{◌≡◌, inl, ℕ, ◌+◌, ◌<◌, ◌≤◌, Bool, true, ◌||◌, List, [], ◌∷◌, ◌++◌, map, All, Option, None, Some, refl, arith}
use Rattle.std.proofs.lemmas.List.Elements.{All-nil, All-cons, All-head, All-tail}
use Rattle.mc_allows.specs.declared.call_name.CallName.{CallName}
use Rattle.mc_allows.specs.Steps.{KeyStep, made, lost, AreAllowed, item_after, unique_stored, IsNoneOf, IsNewUnique, uniques_with, HaveNewUniques}
use Rattle.mc_calls.specs.declared.item.Item.{Item}
use Rattle.zy_verdict.specs.Between.{has_loss, IsGivenFrom, AreGivenFrom}

-- ---- names

module _ (f : CallName → CallName) where
  -- the step, if its call is named in another way
  abbrev pub renamed : KeyStep → KeyStep
  renamed (made name call said after) = made (f name) call said after
  renamed lost = lost

  pub renamed_after : (before : Option Item) (steps : List KeyStep) → item_after before (map renamed steps) ≡ item_after before steps
  renamed_after before [] = refl
  renamed_after before (made name call said after ∷ steps) = renamed_after after steps
  renamed_after before (lost ∷ steps) = renamed_after None steps

  pub renamed_new : (before : List ℕ) (steps : List KeyStep) → HaveNewUniques before steps → HaveNewUniques before (map renamed steps)
  renamed_new before [] new = new
  renamed_new before (made name call said after ∷ steps) new = (new.0, renamed_new (uniques_with before (unique_stored said after)) steps new.1)
  renamed_new before (lost ∷ steps) new = renamed_new [] steps new

  pub renamed_allowed : (forget : Bool) (first before : Option Item) (steps : List KeyStep) → AreAllowed forget first before steps → AreAllowed forget first before (map renamed steps)
  renamed_allowed forget first before [] allowed = allowed
  renamed_allowed forget first before (made name call said after ∷ steps) allowed = (allowed.0, renamed_allowed forget first after steps allowed.1)
  renamed_allowed forget first before (lost ∷ steps) allowed = (allowed.0, renamed_allowed forget None None steps allowed.1)

-- ---- what a key has after two windows

pub after_both : (before : Option Item) (steps later : List KeyStep) → item_after before (steps ++ later) ≡ item_after (item_after before steps) later
after_both before [] later = refl
after_both before (made name call said after ∷ steps) later = after_both after steps later
after_both before (lost ∷ steps) later = after_both None steps later

-- ---- losses

pub renamed_loss : (f : CallName → CallName) (steps : List KeyStep) → has_loss (map (renamed f) steps) ≡ has_loss steps
renamed_loss f [] = refl
renamed_loss f (made name call said after ∷ steps) = renamed_loss f steps
renamed_loss f (lost ∷ steps) = refl

pub loss_both : (steps later : List KeyStep) → has_loss (steps ++ later) ≡ (has_loss steps || has_loss later)
loss_both [] later = refl
loss_both (made name call said after ∷ steps) later = loss_both steps later
loss_both (lost ∷ steps) later = refl

-- the steps are allowed, whatever was first, if items may be lost or none is
pub allowed_so : (old forget : Bool) (old_first first before : Option Item) (steps : List KeyStep) → (has_loss steps ≡ true → forget ≡ true)
    → AreAllowed old old_first before steps → AreAllowed forget first before steps
allowed_so old forget old_first first before [] losses allowed = allowed
allowed_so old forget old_first first before (made name call said after ∷ steps) losses allowed =
    (allowed.0, allowed_so old forget old_first first after steps losses allowed.1)
allowed_so old forget old_first first before (lost ∷ steps) losses allowed =
    (inl (losses refl), allowed_so old forget None None None steps (λ some. losses refl) allowed.1)

-- steps that are allowed one after the other
pub allowed_both : (forget : Bool) (first before : Option Item) (steps later : List KeyStep) → AreAllowed forget first before steps
    → ((start : Option Item) → AreAllowed forget start (item_after before steps) later) → AreAllowed forget first before (steps ++ later)
allowed_both forget first before [] later allowed next = next first
allowed_both forget first before (made name call said after ∷ steps) later allowed next = (allowed.0, allowed_both forget first after steps later allowed.1 next)
allowed_both forget first before (lost ∷ steps) later allowed next = (allowed.0, allowed_both forget None None steps later allowed.1 next)

-- ---- uniques

-- a unique is within a bound
abbrev pub IsUpTo : ℕ → ℕ → Type 0
IsUpTo bound unique = unique ≤ bound

pub renamed_within : (f : CallName → CallName) (least most : ℕ) (steps : List KeyStep) → AreGivenFrom least most steps → AreGivenFrom least most (map (renamed f) steps)
renamed_within f least most [] within = within
renamed_within f least most (made name call said after ∷ steps) within = (within.0, renamed_within f least most steps within.1)
renamed_within f least most (lost ∷ steps) within = renamed_within f least most steps within

pub within_both : (least most : ℕ) (steps later : List KeyStep) → AreGivenFrom least most steps → AreGivenFrom least most later → AreGivenFrom least most (steps ++ later)
within_both least most [] later within next = next
within_both least most (made name call said after ∷ steps) later within next = (within.0, within_both least most steps later within.1 next)
within_both least most (lost ∷ steps) later within next = within_both least most steps later within next

-- numbers above a bound that are none of some uniques are none of others
abbrev pub AreLike : ℕ → List ℕ → List ℕ → Type 0
AreLike bound some others = (unique : ℕ) → bound < unique → IsNoneOf some unique → IsNoneOf others unique

new_like : (bound most : ℕ) (some others : List ℕ) (given : Option ℕ) → AreLike bound some others → IsGivenFrom (bound + 1) most given → IsNewUnique some given
    → IsNewUnique others given × AreLike bound (uniques_with some given) (uniques_with others given)
new_like bound most some others None like within new = (new, like)
new_like bound most some others (Some unique) like within new =
    let low = within.0 in
    (like unique (omega (arith, low)) new, λ other high none. (none.0, like other high none.1))

-- steps whose uniques are above a bound may follow other uniques
new_above : (bound most : ℕ) (some others : List ℕ) (steps : List KeyStep) → AreLike bound some others → AreGivenFrom (bound + 1) most steps → HaveNewUniques some steps → HaveNewUniques others steps
new_above bound most some others [] like within new = new
new_above bound most some others (made name call said after ∷ steps) like within new =
    let one = new_like bound most some others (unique_stored said after) like within.0 new.0 in
    (one.0, new_above bound most (uniques_with some (unique_stored said after)) (uniques_with others (unique_stored said after)) steps one.1 within.1 new.1)
new_above bound most some others (lost ∷ steps) like within new = new_above bound most [] [] steps (λ unique high none. none) within new

low_none : (bound : ℕ) (uniques : List ℕ) (unique : ℕ) → All (IsUpTo bound) uniques → bound < unique → IsNoneOf uniques unique
low_none bound [] unique low high = tt
low_none bound (x ∷ xs) unique low high =
    let first = All-head (IsUpTo bound) x xs low in
    ((λ same. omega (arith, first, high, same)), low_none bound xs unique (All-tail (IsUpTo bound) x xs low) high)

low_with : (least bound : ℕ) (uniques : List ℕ) (given : Option ℕ) → All (IsUpTo bound) uniques → IsGivenFrom least bound given → All (IsUpTo bound) (uniques_with uniques given)
low_with least bound uniques None low within = low
low_with least bound uniques (Some unique) low within = All-cons (IsUpTo bound) unique uniques within.1 low

-- the uniques of two windows are new, if those of the second are above all of the first
pub new_both : (least bound most : ℕ) (uniques others : List ℕ) (steps later : List KeyStep) → All (IsUpTo bound) uniques → AreGivenFrom least bound steps → AreGivenFrom (bound + 1) most later
    → HaveNewUniques uniques steps → HaveNewUniques others later → HaveNewUniques uniques (steps ++ later)
new_both least bound most uniques others [] later low within next new more =
    new_above bound most others uniques later (λ unique high none. low_none bound uniques unique low high) next more
new_both least bound most uniques others (made name call said after ∷ steps) later low within next new more =
    (new.0, new_both least bound most (uniques_with uniques (unique_stored said after)) others steps later (low_with least bound uniques (unique_stored said after) low within.0) within.1 next new.1 more)
new_both least bound most uniques others (lost ∷ steps) later low within next new more =
    new_both least bound most [] others steps later (All-nil (IsUpTo bound)) within next new more
