-- How items are dealt to groups, and gathered again.
use Rattle.std.specs.Prelude.{◌≡◌, ℕ, zero, suc, ◌+◌, ◌≤◌, List, [], ◌∷◌, ◌++◌, map, Vec, vec_len, vec_capacity}
use Rattle.std.specs.Prelude.{Some, slice_get, ⊤}
use Rattle.std.specs.declared.alloc.Global.{Global}

module _ {X : Type 0} where
  -- the groups as lists
  abbrev pub lists_of : List (Vec X Global) → List (List X)
  lists_of groups = map (λ (g : Vec X Global). g.items) groups

  -- no group has a member
  abbrev pub AreEmpty : List (List X) → Type 0
  AreEmpty [] = ⊤
  AreEmpty (group ∷ groups) = (group ≡ []) × AreEmpty groups

  -- taking the first of the first group, again and again, with that group going to the end each time, gives these,
  -- and leaves none
  abbrev pub Deals : List (List X) → List X → Type 0
  Deals groups [] = AreEmpty groups
  Deals groups (x ∷ xs) =
      (group : List X) × (others : List (List X)) × (groups ≡ (x ∷ group) ∷ others) × Deals (others ++ group ∷ []) xs

  -- the first n members that are taken in this way
  abbrev pub gathered : ℕ → List (List X) → List X
  gathered zero groups = []
  gathered (suc n) [] = []
  gathered (suc n) ([] ∷ groups) = []
  gathered (suc n) ((x ∷ group) ∷ groups) = x ∷ gathered n (groups ++ group ∷ [])

  -- one such step took this member
  pub record TakesFirst (x : X) (before after : List (List X)) : Type 0 where
    pub group : List X
    pub others : List (List X)
    pub was : before ≡ (x ∷ group) ∷ others
    pub is : after ≡ others ++ group ∷ []

  -- there is no member to take
  abbrev pub HasNoFirst : List (List X) → Type 0
  HasNoFirst [] = ⊤
  HasNoFirst ([] ∷ groups) = ⊤
  HasNoFirst ((x ∷ group) ∷ groups) = ⊥

  -- each group has room for n more members
  abbrev pub HaveRoom : ℕ → List (Vec X Global) → Type 0
  HaveRoom n [] = ⊤
  HaveRoom n (group ∷ groups) = (vec_len group + n ≤ vec_capacity group) × HaveRoom n groups

  -- each member of a list has this property
  abbrev pub Each : (X → Type 0) → List X → Type 0
  Each P xs = (i : ℕ) (x : X) → slice_get xs i ≡ Some x → P x

  -- each member of each group has this property
  abbrev pub EachOfAll : (X → Type 0) → List (List X) → Type 0
  EachOfAll P [] = ⊤
  EachOfAll P (group ∷ groups) = Each P group × EachOfAll P groups
