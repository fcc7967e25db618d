-- What is dealt is gathered again, in the same order.
use Rattle.std.proofs.Common.{◌≡◌, ℕ, zero, suc, ◌+◌, ◌-◌, ◌<◌, ◌≤◌, List, [], ◌∷◌, ◌++◌, map, length, get_or, take, drop, refl, sym, ap, ◌∙◌, subst, arith, add-one, Vec, vec_len}
use Rattle.std.specs.Prelude.{remove, vec_capacity}
use Rattle.std.specs.declared.alloc.Global.{Global}
use Rattle.zy_deal.specs.Deal.{lists_of, AreEmpty, Deals, gathered, Each, EachOfAll, HaveRoom, TakesFirst, HasNoFirst}

module _ {X : Type 0} where
  -- what was dealt is what is gathered
  pub dealt_gathers : (gs : List (List X)) (xs : List X) → Deals gs xs → gathered (length xs) gs ≡ xs
  dealt_gathers gs [] d = refl
  dealt_gathers gs (x ∷ xs) d = ap (gathered (suc (length xs))) d.2 ∙ ap (λ l. x ∷ l) (dealt_gathers (d.1 ++ d.0 ∷ []) xs d.3)

  each_more : (P : X → Type 0) (x : X) (xs : List X) → P x → Each P xs → Each P (x ∷ xs)
  each_more P x xs here all zero y e = let is : x ≡ y = cc in subst P is here
  each_more P x xs here all (suc i) y e = all i y e

  each_last : (P : X → Type 0) (gs : List (List X)) (g : List X) → EachOfAll P (gs ++ g ∷ []) → EachOfAll P gs × Each P g
  each_last P [] g h = (tt, h.0)
  each_last P (x ∷ xs) g h = let r = each_last P xs g h.1 in ((h.0, r.0), r.1)

  each_to_last : (P : X → Type 0) (gs : List (List X)) (g : List X) → EachOfAll P gs → Each P g → EachOfAll P (gs ++ g ∷ [])
  each_to_last P [] g h e = (e, tt)
  each_to_last P (x ∷ xs) g h e = (h.0, each_to_last P xs g h.1 e)

  empty_each : (P : X → Type 0) (gs : List (List X)) → AreEmpty gs → EachOfAll P gs
  empty_each P [] e = tt
  empty_each P (g ∷ gs) e = (subst (Each P) (sym e.0) (λ i x at. absurd (cc)), empty_each P gs e.1)

  -- what holds of each member that is dealt holds of each member of the groups
  pub dealt_each : (P : X → Type 0) (gs : List (List X)) (xs : List X) → Deals gs xs → Each P xs → EachOfAll P gs
  dealt_each P gs [] d all = empty_each P gs d
  dealt_each P gs (x ∷ xs) d all =
      let r = each_last P d.1 d.0 (dealt_each P (d.1 ++ d.0 ∷ []) xs d.3 (λ i y at. all (suc i) y at)) in
      subst (EachOfAll P) (sym d.2) (each_more P x d.0 (all 0 x refl) r.1, r.0)

  -- what holds of each member of the groups holds of each that is gathered
  pub gathered_each : (P : X → Type 0) (n : ℕ) (gs : List (List X)) → EachOfAll P gs → Each P (gathered n gs)
  gathered_each P zero gs h i x at = absurd (cc)
  gathered_each P (suc n) [] h i x at = absurd (cc)
  gathered_each P (suc n) ([] ∷ gs) h i x at = absurd (cc)
  gathered_each P (suc n) ((y ∷ g) ∷ gs) h i x at =
      each_more P y (gathered n (gs ++ g ∷ [])) (h.0 0 y refl) (gathered_each P n (gs ++ g ∷ []) (each_to_last P gs g h.1 (λ j z there. h.0 (suc j) z there))) i x at

module _ {X Y : Type 0} (f : X → Y) where
  map_last : (gs : List (List X)) (g : List X) → map (map f) (gs ++ g ∷ []) ≡ map (map f) gs ++ map f g ∷ []
  map_last [] g = refl
  map_last (x ∷ xs) g = ap (λ l. map f x ∷ l) (map_last xs g)

  -- what is gathered has the measures that are gathered
  pub map_gathered : (n : ℕ) (gs : List (List X)) → map f (gathered n gs) ≡ gathered n (map (map f) gs)
  map_gathered zero gs = refl
  map_gathered (suc n) [] = refl
  map_gathered (suc n) ([] ∷ gs) = refl
  map_gathered (suc n) ((x ∷ g) ∷ gs) = ap (λ l. f x ∷ l) (map_gathered n (gs ++ g ∷ []) ∙ ap (gathered n) (map_last gs g))

  -- groups that stayed what they are by a measure give what was dealt, by that measure
  pub gathers_same : (n : ℕ) (gs hs : List (List X)) (xs : List X) → n ≡ length xs → Deals gs xs → map (map f) hs ≡ map (map f) gs → map f (gathered n hs) ≡ map f xs
  gathers_same n gs hs xs count d same =
      map_gathered n hs ∙ ap (gathered n) same ∙ sym (map_gathered n gs) ∙ ap (λ k. map f (gathered k gs)) count ∙ ap (map f) (dealt_gathers gs xs d)

-- ---- the last of the first members of a list

module _ {X : Type 0} where
  pub record IsLast (xs : List X) (k : ℕ) (x : X) (zs : List X) : Type 0 where
    pub before : remove zs k ≡ take k xs
    pub dealt : drop k xs ≡ x ∷ drop (k + 1) xs

  pub last_of : (xs zs : List X) (k : ℕ) (x : X) → k < length xs → zs ≡ take (k + 1) xs → x ≡ get_or zs k x → IsLast xs k x zs
  last_of xs zs k x within is at =
      let whole : zs ≡ take (suc k) xs = rw (← add-one) is in
      let got : x ≡ get_or xs k x = at ∙ ap (λ l. get_or l k x) whole ∙ get_take xs k x within in
      record { before = ap (λ l. remove l k) whole ∙ remove_last xs k; dealt = rw add-one (split xs k x within got) }
    where
      get_take : (xs : List X) (k : ℕ) (x : X) → k < length xs → get_or (take (suc k) xs) k x ≡ get_or xs k x
      get_take [] k x within = absurd (omega arith)
      get_take (y ∷ ys) zero x within = refl
      get_take (y ∷ ys) (suc k) x within = get_take ys k x (omega arith)

      remove_last : (xs : List X) (k : ℕ) → remove (take (suc k) xs) k ≡ take k xs
      remove_last [] zero = refl
      remove_last [] (suc k) = refl
      remove_last (y ∷ ys) zero = refl
      remove_last (y ∷ ys) (suc k) = ap (λ (l : List X). y ∷ l) (remove_last ys k)

      split : (xs : List X) (k : ℕ) (x : X) → k < length xs → x ≡ get_or xs k x → drop k xs ≡ x ∷ drop (suc k) xs
      split [] k x within got = absurd (omega arith)
      split (y ∷ ys) zero x within got = ap (λ z. z ∷ ys) (sym got)
      split (y ∷ ys) (suc k) x within got = split ys k x (omega arith) got

  -- ---- room in groups

  pub fewer : (n : ℕ) (gs : List (Vec X Global)) → HaveRoom (n + 1) gs → HaveRoom n gs
  fewer n [] room = tt
  fewer n (g ∷ gs) room = (omega (arith, room.0), fewer n gs room.1)

  pub room_at : (n : ℕ) (gs : List (Vec X Global)) (i : ℕ) (d : Vec X Global) → i < length gs → HaveRoom n gs → vec_len (get_or gs i d) + n ≤ vec_capacity (get_or gs i d)
  room_at n [] i d within room = absurd (omega arith)
  room_at n (g ∷ gs) zero d within room = room.0
  room_at n (g ∷ gs) (suc i) d within room = room_at n gs i d (omega arith) room.1

  pub room_without : (n : ℕ) (gs : List (Vec X Global)) (i : ℕ) → HaveRoom n gs → HaveRoom n (remove gs i)
  room_without n [] zero room = tt
  room_without n [] (suc i) room = tt
  room_without n (g ∷ gs) zero room = room.1
  room_without n (g ∷ gs) (suc i) room = (room.0, room_without n gs i room.1)

  -- room for some is room for one
  pub one_at_least : (n : ℕ) (gs : List (Vec X Global)) → 0 < n → HaveRoom n gs → HaveRoom 1 gs
  one_at_least n [] some room = tt
  one_at_least n (g ∷ gs) some room = (omega (arith, room.0), one_at_least n gs some room.1)

  -- the last of groups that have room
  pub last_has : (n m : ℕ) (gs : List (Vec X Global)) (g : Vec X Global) → 0 < length gs → m ≡ length gs → g ≡ get_or gs (m - 1) g → HaveRoom n gs → vec_len g + n ≤ vec_capacity g
  last_has n m gs g some is at room = let P : Vec X Global → Type 0 = λ v. vec_len v + n ≤ vec_capacity v in subst P (sym at) (room_at n gs (m - 1) g (omega arith) room)

  -- ---- gathering step by step

  -- a step was made
  pub gathers_next : (n : ℕ) (x : X) (gs hs : List (List X)) → TakesFirst x gs hs → gathered (n + 1) gs ≡ x ∷ gathered n hs
  gathers_next n x gs hs t = ap (λ k. gathered k gs) (add-one n) ∙ ap (gathered (suc n)) t.was ∙ ap (λ l. x ∷ gathered n l) (sym t.is)

  -- none could be made
  pub gathers_none : (n : ℕ) (gs : List (List X)) → HasNoFirst gs → gathered n gs ≡ []
  gathers_none zero gs h = refl
  gathers_none (suc n) [] h = refl
  gathers_none (suc n) ([] ∷ gs) h = refl
  gathers_none (suc n) ((x ∷ g) ∷ gs) h = absurd h

  -- ---- groups that are made

  -- one further group that has room
  pub room_last : (n : ℕ) (gs : List (Vec X Global)) (g : Vec X Global) → HaveRoom n gs → vec_len g + n ≤ vec_capacity g → HaveRoom n (gs ++ g ∷ [])
  room_last n [] g room has = (has, tt)
  room_last n (x ∷ xs) g room has = (room.0, room_last n xs g room.1 has)

  -- one further group that is empty
  pub empty_last : (gs : List (Vec X Global)) (g : Vec X Global) → AreEmpty (lists_of gs) → g.items ≡ [] → AreEmpty (lists_of (gs ++ g ∷ []))
  empty_last [] g all is = (is, tt)
  empty_last (x ∷ xs) g all is = (all.0, empty_last xs g all.1 is)
