-- The views have the run together: what each seat knows of it stays true at each step.
use Rattle.std.proofs.Common.{◌≡◌, ◌≢◌, ◌⊎◌, ℕ, zero, suc, ◌+◌, ◌≤◌, List, [], ◌∷◌, ◌++◌, length, set, cond, Bool, true, false, true≢false, refl, sym, ap, ◌∙◌, subst, inl, inr, ⊎_elim, arith}
use mathlib.Core.Option.{some, some-injective, some-ne-none}
use mathlib.Core.Logic.{dite}
use native.Mathlib.Decide.{ℕ_discrete}
use lib.ListN.{get_elem?}
use Rattle.std.proofs.lemmas.List.{append-nil, append_assoc, length-append}
use Rattle.atomic_table.proofs.Lists.{at_set, set_here, set_else, at_longer}
use Rattle.zy_table.specs.Member.{is_in}
use Rattle.zy_table.proofs.MemberLemmas.{in_front, in_more, in_or, not_in}
use Rattle.zy_table.proofs.SlotLemmas.{at_below, at_end}
use Rattle.zy_shuffle.specs.declared.ring.view.Event.{Event}
use Rattle.zy_shuffle.specs.declared.ring.view.Role.{Role}
use Rattle.zy_shuffle.specs.declared.ring.view.Role.TheVariants.{Spent}
use Rattle.zy_shuffle.specs.declared.ring.view.View.{View}
use Rattle.zy_shuffle.specs.HomeRole.{IsActive}
use Rattle.zy_shuffle.specs.Run.{seat_of, AreOfSeat, Apart, Leads, IsOwned, AreOwned, IsSpent, IsKnown}
use Rattle.zy_shuffle.specs.View.{with_own, is_no_longer, longer, start, spent}

-- ---- lists of events

-- no event is of no seat
pub apart_none : (es : List Event) → Apart [] es
apart_none [] = tt
apart_none (e ∷ es) = (refl, apart_none es)

pub apart_front : (seats : List ℕ) (xs ys : List Event) → Apart seats (xs ++ ys) → Apart seats xs
apart_front seats [] ys h = tt
apart_front seats (x ∷ xs) ys h = (h.0, apart_front seats xs ys h.1)

-- further events of a seat that is none of these
apart_more : (seats : List ℕ) (seat : ℕ) (acts es : List Event) → is_in seat seats ≡ false → AreOfSeat seat acts → Apart seats es → Apart seats (acts ++ es)
apart_more seats seat [] es out of h = h
apart_more seats seat (e ∷ acts) es out of h = (ap (λ n. is_in n seats) of.0 ∙ out, apart_more seats seat acts es out of.1 h)

-- a member of two lists together
in_some : (n : ℕ) (xs ys : List ℕ) → is_in n (xs ++ ys) ≡ true → (is_in n xs ≡ true) ⊎ (is_in n ys ≡ true)
in_some n [] ys h = inr h
in_some n (x ∷ xs) ys h = ⊎_elim
    (λ (e : n ≡ x). inl (ap (λ y. is_in y (x ∷ xs)) e ∙ in_front x xs))
    (λ (e : (n ≢ x) × (is_in n (xs ++ ys) ≡ true)). ⊎_elim (λ (f : is_in n xs ≡ true). inl (in_more x n xs f)) (λ (f : is_in n ys ≡ true). inr f) (in_some n xs ys e.1))
    (in_or x n (xs ++ ys) h)

in_left : (n : ℕ) (xs ys : List ℕ) → is_in n xs ≡ true → is_in n (xs ++ ys) ≡ true
in_left n [] ys h = absurd (true≢false (sym h))
in_left n (x ∷ xs) ys h = ⊎_elim
    (λ (e : n ≡ x). ap (λ y. is_in y (x ∷ xs ++ ys)) e ∙ in_front x (xs ++ ys))
    (λ (e : (n ≢ x) × (is_in n xs ≡ true)). in_more x n (xs ++ ys) (in_left n xs ys e.1))
    (in_or x n xs h)

in_right : (n : ℕ) (xs ys : List ℕ) → is_in n ys ≡ true → is_in n (xs ++ ys) ≡ true
in_right n [] ys h = h
in_right n (x ∷ xs) ys h = in_more x n (xs ++ ys) (in_right n xs ys h)

apart_both : (xs ys : List ℕ) (es : List Event) → Apart xs es → Apart ys es → Apart (xs ++ ys) es
apart_both xs ys [] a b = tt
apart_both xs ys (e ∷ es) a b = (
  not_in (seat_of e) (xs ++ ys) (λ h. ⊎_elim (λ (f : is_in (seat_of e) xs ≡ true). true≢false (sym f ∙ a.0)) (λ (f : is_in (seat_of e) ys ≡ true). true≢false (sym f ∙ b.0)) (in_some (seat_of e) xs ys h)),
  apart_both xs ys es a.1 b.1,
)

-- ---- the longer of two runs

within_long : (xs ys : List Event) → is_no_longer xs ys ≡ true → length xs ≤ length ys
within_long [] ys h = omega arith
within_long (x ∷ xs) [] h = absurd (true≢false (sym h))
within_long (x ∷ xs) (y ∷ ys) h = let a = within_long xs ys h in omega arith

without_long : (xs ys : List Event) → is_no_longer xs ys ≡ false → length ys ≤ length xs
without_long [] ys h = absurd (true≢false h)
without_long (x ∷ xs) [] h = omega arith
without_long (x ∷ xs) (y ∷ ys) h = let a = without_long xs ys h in omega arith

-- the longer of two fronts of a list begins with the other
pub front_of : (xs ys us vs : List Event) → xs ++ us ≡ ys ++ vs → length ys ≤ length xs → (rest : List Event) × (xs ≡ ys ++ rest)
front_of xs [] us vs e le = (xs, refl)
front_of [] (y ∷ ys) us vs e le = absurd (omega arith)
front_of (x ∷ xs) (y ∷ ys) us vs e le =
    let first : x ≡ y = cc in
    let others : xs ++ us ≡ ys ++ vs = cc in
    let a = front_of xs ys us vs others (omega arith) in (a.0, λ i. first i ∷ a.1 i)

pub all_of : (later run events : List Event) → events ≡ later ++ run → length events ≤ length run → run ≡ events
all_of [] run events e le = sym e
all_of (x ∷ xs) run events e le = let a = ap length e in let b = length-append xs run in absurd (omega arith)

longer_most : (xs ys : List Event) → (length xs ≤ length (longer xs ys)) × (length ys ≤ length (longer xs ys))
longer_most xs ys = go (is_no_longer xs ys) refl
  where
    go : (b : Bool) → is_no_longer xs ys ≡ b → (length xs ≤ length (cond b ys xs)) × (length ys ≤ length (cond b ys xs))
    go true e = (within_long xs ys e, omega arith)
    go false e = (omega arith, without_long xs ys e)

-- what the longer of two runs lacks, each of the two lacks
longer_missing : (seats seats' : List ℕ) (events la ra lb rb : List Event) → events ≡ la ++ ra → events ≡ lb ++ rb → Apart seats la → Apart seats' lb → (later : List Event) × (events ≡ later ++ longer ra rb) × Apart seats later × Apart seats' later
longer_missing seats seats' events la ra lb rb a b x y = go (is_no_longer ra rb) refl
  where
    sizes : length la + length ra ≡ length lb + length rb
    sizes = sym (length-append la ra) ∙ ap length (sym a ∙ b) ∙ length-append lb rb

    go : (c : Bool) → is_no_longer ra rb ≡ c → (later : List Event) × (events ≡ later ++ cond c rb ra) × Apart seats later × Apart seats' later
    go true e =
        let f = front_of la lb ra rb (sym a ∙ b) (let n = within_long ra rb e in let m = sizes in omega arith) in
        (lb, b, apart_front seats lb f.0 (subst (Apart seats) f.1 x), y)
    go false e =
        let f = front_of lb la rb ra (sym b ∙ a) (let n = without_long ra rb e in let m = sizes in omega arith) in
        (la, a, x, apart_front seats' la f.0 (subst (Apart seats') f.1 y))

-- ---- the numbers of seats

pub in_own : (id : ℕ) (xs : List ℕ) → Leads id xs → is_in id (with_own id xs) ≡ true
in_own id [] l = in_front id []
in_own id (x ∷ xs) l = ap (λ y. is_in y (x ∷ xs)) l ∙ in_front x xs

pub more_own : (id n : ℕ) (xs : List ℕ) → is_in n xs ≡ true → is_in n (with_own id xs) ≡ true
more_own id n [] h = absurd (true≢false (sym h))
more_own id n (x ∷ xs) h = h

pub from_own : (id n : ℕ) (xs : List ℕ) → is_in n (with_own id xs) ≡ true → (n ≡ id) ⊎ (is_in n xs ≡ true)
from_own id n [] h = ⊎_elim (λ (e : n ≡ id). inl e) (λ (e : (n ≢ id) × (is_in n [] ≡ true)). absurd (true≢false (sym e.1))) (in_or id n [] h)
from_own id n (x ∷ xs) h = inr h

pub leads_own : (id : ℕ) (xs : List ℕ) → Leads id xs → Leads id (with_own id xs)
leads_own id [] l = refl
leads_own id (x ∷ xs) l = l

leads_more : (id : ℕ) (xs ys : List ℕ) → Leads id xs → Leads id (with_own id xs ++ ys)
leads_more id [] ys l = refl
leads_more id (x ∷ xs) ys l = l

pub not_spent : (x : Role) → IsActive x → x ≡ Spent → ⊥
not_spent x a e = subst IsActive e a

module _ {T : Type 0} where
  pub same_view : (views : List (View T)) (i j : ℕ) (u v : View T) → get_elem? views i ≡ some u → get_elem? views j ≡ some v → i ≡ j → u ≡ v
  same_view views i j u v a b e = some-injective _ _ (sym a ∙ ap (get_elem? views) e ∙ b)

  pub owned_else : (vs ws : List (View T)) (es : List Event) → ((n : ℕ) → IsOwned vs n → IsOwned ws n) → AreOwned vs es → AreOwned ws es
  owned_else vs ws [] f h = tt
  owned_else vs ws (e ∷ es) f h = (f (seat_of e) h.0, owned_else vs ws es f h.1)

  pub owned_front : (vs : List (View T)) (xs ys : List Event) → AreOwned vs (xs ++ ys) → AreOwned vs xs
  owned_front vs [] ys h = tt
  owned_front vs (x ∷ xs) ys h = (h.0, owned_front vs xs ys h.1)

  owned_more : (vs : List (View T)) (seat : ℕ) (acts es : List Event) → IsOwned vs seat → AreOfSeat seat acts → AreOwned vs es → AreOwned vs (acts ++ es)
  owned_more vs seat [] es is of h = h
  owned_more vs seat (e ∷ acts) es is of h = (subst (IsOwned vs) (sym of.0) is, owned_more vs seat acts es is of.1 h)

  -- ---- one seat's own events

  -- the events of an active seat
  module _ (events : List Event) (views : List (View T)) (t : IsKnown events views) (id : ℕ) (v : View T) (at : get_elem? views id ≡ some v) (active : IsActive v.role) where
    -- no other view has an active seat among those all of whose events it has
    pub own : (j n : ℕ) (u : View T) → get_elem? views j ≡ some u → n ≡ id → is_in n u.trace.seats ≡ true → j ≡ id
    own j n u at_j e has = ⊎_elim (λ (f : n ≡ j). sym f ∙ e)
        (λ (f : (j ≡ 0) × IsSpent views n). absurd (not_spent v.role active (ap (λ (y : View T). y.role) (same_view views id n v f.1.0 at f.1.1 (sym e)) ∙ f.1.2)))
        (t.seats_of j u at_j n has)

    lone : (es : List Event) → v.trace.seats ≡ [] → AreOwned views es → Apart (id ∷ []) es
    lone [] e h = tt
    lone (x ∷ xs) e h = (
      not_in (seat_of x) (id ∷ []) (λ is. ⊎_elim
          (λ (f : seat_of x ≡ id). let o = h.0 in let here = own o.0 (seat_of x) o.1 o.2 f o.3 in
          true≢false (sym o.3 ∙ ap (λ (y : View T). is_in (seat_of x) y.trace.seats) (same_view views o.0 id o.1 v o.2 at here) ∙ ap (is_in (seat_of x)) e))
          (λ (f : (seat_of x ≢ id) × (is_in (seat_of x) [] ≡ true)). true≢false (sym f.1))
          (in_or id (seat_of x) [] is)),
      lone xs e h.1,
    )

    -- the events that the seat does not know are not its own either
    pub apart_own : (es : List Event) → AreOwned views es → Apart v.trace.seats es → Apart (with_own id v.trace.seats) es
    apart_own es owned apart = go v.trace.seats refl apart
      where
        go : (seats : List ℕ) → v.trace.seats ≡ seats → Apart seats es → Apart (with_own id seats) es
        go [] e h = lone es e owned
        go (x ∷ xs) e h = h

    -- the events of other seats since the seat made its last
    abbrev pub between : List Event
    between = (t.missing id v at).0

    pub since_is : events ≡ between ++ v.trace.run
    since_is = (t.missing id v at).1

    pub may_follow : Leads id v.trace.seats × Apart (with_own id v.trace.seats) between
    may_follow = (t.leads id v at, apart_own between (owned_front views between v.trace.run (subst (AreOwned views) since_is t.owned)) (t.missing id v at).2)

    spent_else : (w : View T) (n : ℕ) → IsSpent views n → IsSpent (set views id w) n
    spent_else w n (u, at_u, role) = (u, set_else views id n w (λ e. not_spent v.role active (ap (λ (y : View T). y.role) (same_view views id n v u at at_u (sym e)) ∙ role)) ∙ at_u, role)

    -- the seat takes in what another knows, and that one is spent
    pub known_joined : (other : ℕ) (w both : View T) → get_elem? views other ≡ some w → (other ≡ id → ⊥) → id ≡ 0 → both.trace.run ≡ longer v.trace.run w.trace.run → both.trace.seats ≡ with_own 0 v.trace.seats ++ w.trace.seats → IsKnown events (set (set views id both) other spent)
    known_joined other w both at_other apart home run seats =
        let mine = t.missing id v at in
        let its = t.missing other w at_other in
        let own_apart : Apart (with_own id v.trace.seats) mine.0 = apart_own mine.0 (owned_front views mine.0 v.trace.run (subst (AreOwned views) mine.1 t.owned)) mine.2 in
        let known = longer_missing (with_own id v.trace.seats) w.trace.seats events mine.0 v.trace.run its.0 w.trace.run mine.1 its.1 own_apart its.2 in
        let most = longer_most v.trace.run w.trace.run in
        let left : View T → List ℕ = λ y. y.trace.seats in
        let own_number : with_own 0 v.trace.seats ≡ with_own id v.trace.seats = ap (λ n. with_own n v.trace.seats) (sym home) in
        let views1 : List (View T) = set views id both in
        let here : get_elem? (set views1 other spent) id ≡ some both = set_else views1 other id spent (λ e. apart (sym e)) ∙ set_here views id both (at_below views id v at) in
        let there : get_elem? (set views1 other spent) other ≡ some spent = set_here views1 other spent (at_below views1 other w (set_else views id other both apart ∙ at_other)) in
        let else_at : (j : ℕ) (u : View T) → j ≢ id → j ≢ other → get_elem? views j ≡ some u → get_elem? (set views1 other spent) j ≡ some u = λ j u a b e. set_else views1 other j spent b ∙ set_else views id j both a ∙ e in
        let spent_still : (n : ℕ) → IsSpent views n → IsSpent (set views1 other spent) n = λ n s. dite (ℕ_discrete n other)
        (λ e. (spent, ap (get_elem? (set views1 other spent)) e ∙ there, refl))
        (λ ne. (s.0, else_at n s.0 (λ e. not_spent v.role active (ap (λ (y : View T). y.role) (same_view views id n v s.0 at s.1 (sym e)) ∙ s.2)) ne s.1, s.2)) in
        let in_mine : (n : ℕ) → is_in n v.trace.seats ≡ true → is_in n both.trace.seats ≡ true = λ n h. ap (is_in n) seats ∙ in_left n (with_own 0 v.trace.seats) w.trace.seats (more_own 0 n v.trace.seats h) in
        let in_its : (n : ℕ) → is_in n w.trace.seats ≡ true → is_in n both.trace.seats ≡ true = λ n h. ap (is_in n) seats ∙ in_right n (with_own 0 v.trace.seats) w.trace.seats h in
        let whole : length events ≤ length both.trace.run → both.trace.run ≡ events = λ le. run ∙ all_of known.0 (longer v.trace.run w.trace.run) events known.1 (let a = ap length run in omega arith) in record {
          last = let l = t.last in let size = ap length l.3 in let a = ap length run in dite (ℕ_discrete l.0 id)
              (λ e. let b = ap (λ (y : View T). length y.trace.run) (same_view views l.0 id l.1 v l.2 at e) in (id, both, here, whole (omega (arith, most.0))))
              (λ ne. dite (ℕ_discrete l.0 other)
              (λ e. let b = ap (λ (y : View T). length y.trace.run) (same_view views l.0 other l.1 w l.2 at_other e) in (id, both, here, whole (omega (arith, most.1))))
              (λ no. (l.0, l.1, else_at l.0 l.1 ne no l.2, l.3)));
          missing = λ j u e. ⊎_elim
              (λ (x : (j ≡ other) × (spent ≡ u)). (events, sym (append-nil events) ∙ ap (λ (y : View T). events ++ y.trace.run) x.1, subst (λ (y : View T). Apart y.trace.seats events) x.1 (apart_none events)))
              (λ (x : (j ≢ other) × (get_elem? views1 j ≡ some u)). ⊎_elim
              (λ (y : (j ≡ id) × (both ≡ u)). (
                known.0,
                known.1 ∙ ap (λ l. known.0 ++ l) (sym run ∙ ap (λ (z : View T). z.trace.run) y.1),
                subst (λ l. Apart l known.0) (ap (λ l. l ++ w.trace.seats) (sym own_number) ∙ sym seats ∙ ap (λ (z : View T). z.trace.seats) y.1) (apart_both (with_own id v.trace.seats) w.trace.seats known.0 known.2 known.3),
              ))
              (λ (y : (j ≢ id) × (get_elem? views j ≡ some u)). t.missing j u y.1)
              (at_set views id j both u x.1))
              (at_set views1 other j spent u e);
          owned = owned_else views (set views1 other spent) events
              (λ n h. dite (ℕ_discrete h.0 id)
              (λ e. (id, both, here, in_mine n (ap (λ (y : View T). is_in n y.trace.seats) (same_view views id h.0 v h.1 at h.2 (sym e)) ∙ h.3)))
              (λ ne. dite (ℕ_discrete h.0 other)
              (λ e. (id, both, here, in_its n (ap (λ (y : View T). is_in n y.trace.seats) (same_view views other h.0 w h.1 at_other h.2 (sym e)) ∙ h.3)))
              (λ no. (h.0, h.1, else_at h.0 h.1 ne no h.2, h.3))))
              t.owned;
          seats_of = λ j u e n has. ⊎_elim
              (λ (x : (j ≡ other) × (spent ≡ u)). absurd (true≢false (sym has ∙ ap (λ (y : View T). is_in n y.trace.seats) (sym x.1))))
              (λ (x : (j ≢ other) × (get_elem? views1 j ≡ some u)). ⊎_elim
              (λ (y : (j ≡ id) × (both ≡ u)). ⊎_elim
              (λ (z : is_in n (with_own 0 v.trace.seats) ≡ true). ⊎_elim
              (λ (a : n ≡ 0). inl (a ∙ sym home ∙ sym y.0))
              (λ (a : is_in n v.trace.seats ≡ true). ⊎_elim (λ (b : n ≡ id). inl (b ∙ sym y.0)) (λ (b : (id ≡ 0) × IsSpent views n). inr (y.0 ∙ home, spent_still n b.1)) (t.seats_of id v at n a))
              (from_own 0 n v.trace.seats z))
              (λ (z : is_in n w.trace.seats ≡ true). ⊎_elim
              (λ (b : n ≡ other). inr (y.0 ∙ home, (spent, ap (get_elem? (set views1 other spent)) b ∙ there, refl)))
              (λ (b : (other ≡ 0) × IsSpent views n). absurd (apart (b.0 ∙ sym home)))
              (t.seats_of other w at_other n z))
              (in_some n (with_own 0 v.trace.seats) w.trace.seats (ap (is_in n) (sym seats) ∙ ap (λ (q : View T). is_in n q.trace.seats) y.1 ∙ has)))
              (λ (y : (j ≢ id) × (get_elem? views j ≡ some u)). ⊎_elim (λ (z : n ≡ j). inl z) (λ (z : (j ≡ 0) × IsSpent views n). inr (z.0, spent_still n z.1)) (t.seats_of j u y.1 n has))
              (at_set views id j both u x.1))
              (at_set views1 other j spent u e);
          leads = λ j u e. ⊎_elim
              (λ (x : (j ≡ other) × (spent ≡ u)). subst (λ (y : View T). Leads j y.trace.seats) x.1 tt)
              (λ (x : (j ≢ other) × (get_elem? views1 j ≡ some u)). ⊎_elim
              (λ (y : (j ≡ id) × (both ≡ u)). subst (λ (z : ℕ × View T). Leads z.0 z.1.trace.seats) (λ i. ((home ∙ sym home ∙ sym y.0) i, y.1 i))
              (subst (Leads id) (ap (λ l. l ++ w.trace.seats) (sym own_number) ∙ sym seats) (leads_more id v.trace.seats w.trace.seats (t.leads id v at))))
              (λ (y : (j ≢ id) × (get_elem? views j ≡ some u)). t.leads j u y.1)
              (at_set views id j both u x.1))
              (at_set views1 other j spent u e);
        }

    -- the seat makes events
    pub known_more : (w : View T) (acts : List Event) → w.trace.run ≡ acts ++ events → w.trace.seats ≡ with_own id v.trace.seats → AreOfSeat id acts → IsKnown (acts ++ events) (set views id w)
    known_more w acts run seats of =
        let here : get_elem? (set views id w) id ≡ some w = set_here views id w (at_below views id v at) in record {
          last = (id, w, here, run);
          missing = λ j u f. ⊎_elim
              (λ (x : (j ≡ id) × (w ≡ u)). ([], sym run ∙ ap (λ (y : View T). y.trace.run) x.1, tt))
              (λ (x : (j ≢ id) × (get_elem? views j ≡ some u)). let o = t.missing j u x.1 in
              (acts ++ o.0, ap (λ l. acts ++ l) o.1 ∙ sym (append_assoc acts o.0 u.trace.run), apart_more u.trace.seats id acts o.0 (not_in id u.trace.seats (λ has. x.0 (own j id u x.1 refl has))) of o.2))
              (at_set views id j w u f);
          owned = owned_more (set views id w) id acts events
              (id, w, here, ap (is_in id) seats ∙ in_own id v.trace.seats (t.leads id v at))
              of
              (owned_else views (set views id w) events
              (λ n h. dite (ℕ_discrete h.0 id)
              (λ is. (id, w, here, ap (is_in n) seats ∙ more_own id n v.trace.seats (ap (λ (y : View T). is_in n y.trace.seats) (same_view views id h.0 v h.1 at h.2 (sym is)) ∙ h.3)))
              (λ ne. (h.0, h.1, set_else views id h.0 w ne ∙ h.2, h.3)))
              t.owned);
          seats_of = λ j u f n has. ⊎_elim
              (λ (x : (j ≡ id) × (w ≡ u)). ⊎_elim
              (λ (y : n ≡ id). inl (y ∙ sym x.0))
              (λ (y : is_in n v.trace.seats ≡ true). ⊎_elim (λ (z : n ≡ id). inl (z ∙ sym x.0)) (λ (z : (id ≡ 0) × IsSpent views n). inr (x.0 ∙ z.0, spent_else w n z.1)) (t.seats_of id v at n y))
              (from_own id n v.trace.seats (ap (is_in n) (sym seats) ∙ ap (λ (y : View T). is_in n y.trace.seats) x.1 ∙ has)))
              (λ (x : (j ≢ id) × (get_elem? views j ≡ some u)). ⊎_elim (λ (z : n ≡ j). inl z) (λ (z : (j ≡ 0) × IsSpent views n). inr (z.0, spent_else w n z.1)) (t.seats_of j u x.1 n has))
              (at_set views id j w u f);
          leads = λ j u f. ⊎_elim
              (λ (x : (j ≡ id) × (w ≡ u)). subst (λ (y : ℕ × View T). Leads y.0 y.1.trace.seats) (λ i. (sym x.0 i, x.1 i)) (subst (Leads id) (sym seats) (leads_own id v.trace.seats (t.leads id v at))))
              (λ (x : (j ≢ id) × (get_elem? views j ≡ some u)). t.leads j u x.1)
              (at_set views id j w u f);
        }

  -- ---- no event

  -- a seat's view changes, but not what it knows of the run
  pub known_same : (events : List Event) (views : List (View T)) (id : ℕ) (v w : View T) → get_elem? views id ≡ some v → w.trace.run ≡ v.trace.run → w.trace.seats ≡ v.trace.seats → (v.role ≡ Spent → w.role ≡ Spent) → IsKnown events views → IsKnown events (set views id w)
  known_same events views id v w at run seats role t = record {
    last = let l = t.last in let f = forth l.0 l.1 l.2 in (l.0, f.0, f.1, f.2 ∙ l.3);
    missing = λ j u e. let b = back j u e in let o = t.missing j b.0 b.1 in (o.0, o.1 ∙ ap (λ x. o.0 ++ x) (sym b.2), subst (λ x. Apart x o.0) (sym b.3) o.2);
    owned = owned_else views (set views id w) events (λ n h. let f = forth h.0 h.1 h.2 in (h.0, f.0, f.1, ap (is_in n) f.3 ∙ h.3)) t.owned;
    seats_of = λ j u e n has. let b = back j u e in ⊎_elim (λ (z : n ≡ j). inl z)
        (λ (z : (j ≡ 0) × IsSpent views n). let f = forth n z.1.0 z.1.1 in inr (z.0, (f.0, f.1, f.4 z.1.2)))
        (t.seats_of j b.0 b.1 n (ap (is_in n) (sym b.3) ∙ has));
    leads = λ j u e. let b = back j u e in subst (Leads j) (sym b.3) (t.leads j b.0 b.1);
  }
    where
      back : (j : ℕ) (u : View T) → get_elem? (set views id w) j ≡ some u → (x : View T) × (get_elem? views j ≡ some x) × (u.trace.run ≡ x.trace.run) × (u.trace.seats ≡ x.trace.seats)
      back j u e = ⊎_elim
          (λ (x : (j ≡ id) × (w ≡ u)). (v, ap (get_elem? views) x.0 ∙ at, ap (λ (y : View T). y.trace.run) (sym x.1) ∙ run, ap (λ (y : View T). y.trace.seats) (sym x.1) ∙ seats))
          (λ (x : (j ≢ id) × (get_elem? views j ≡ some u)). (u, x.1, refl, refl))
          (at_set views id j w u e)

      forth : (j : ℕ) (u : View T) → get_elem? views j ≡ some u → (x : View T) × (get_elem? (set views id w) j ≡ some x) × (x.trace.run ≡ u.trace.run) × (x.trace.seats ≡ u.trace.seats) × (u.role ≡ Spent → x.role ≡ Spent)
      forth j u e = dite (ℕ_discrete j id)
          (λ is. let same = same_view views j id u v e at is in
          (w, ap (get_elem? (set views id w)) is ∙ set_here views id w (at_below views id v at), run ∙ ap (λ (y : View T). y.trace.run) (sym same), seats ∙ ap (λ (y : View T). y.trace.seats) (sym same), λ h. role (ap (λ (y : View T). y.role) (sym same) ∙ h)))
          (λ ne. (u, set_else views id j w ne ∙ e, refl, refl, λ h. h))

  -- a seat comes, which knows nothing of the run
  pub known_added : (events : List Event) (views : List (View T)) (w : View T) → w.trace.run ≡ [] → w.trace.seats ≡ [] → IsKnown events views → IsKnown events (views ++ w ∷ [])
  known_added events views w run seats t = record {
    last = let l = t.last in (l.0, l.1, at_longer views (w ∷ []) l.0 l.1 l.2, l.3);
    missing = λ j u e. ⊎_elim
        (λ (x : get_elem? views j ≡ some u). t.missing j u x)
        (λ (x : (j ≡ length views) × (w ≡ u)). (events, sym (append-nil events) ∙ ap (λ l. events ++ l) (sym run ∙ ap (λ (y : View T). y.trace.run) x.1), subst (λ l. Apart l events) (sym seats ∙ ap (λ (y : View T). y.trace.seats) x.1) (apart_none events)))
        (at_end views w u j e);
    owned = owned_else views (views ++ w ∷ []) events (λ n h. (h.0, h.1, at_longer views (w ∷ []) h.0 h.1 h.2, h.3)) t.owned;
    seats_of = λ j u e n has. ⊎_elim
        (λ (x : get_elem? views j ≡ some u). ⊎_elim (λ (z : n ≡ j). inl z) (λ (z : (j ≡ 0) × IsSpent views n). inr (z.0, (z.1.0, at_longer views (w ∷ []) n z.1.0 z.1.1, z.1.2))) (t.seats_of j u x n has))
        (λ (x : (j ≡ length views) × (w ≡ u)). absurd (true≢false (sym has ∙ ap (is_in n) (ap (λ (y : View T). y.trace.seats) (sym x.1) ∙ seats))))
        (at_end views w u j e);
    leads = λ j u e. ⊎_elim
        (λ (x : get_elem? views j ≡ some u). t.leads j u x)
        (λ (x : (j ≡ length views) × (w ≡ u)). subst (Leads j) (sym seats ∙ ap (λ (y : View T). y.trace.seats) x.1) tt)
        (at_end views w u j e);
  }

  -- the table at the start
  pub known_start : IsKnown {T = T} [] (start ∷ [])
  known_start = record {
    last = (0, start, refl, refl);
    missing = λ j u e. ([], ap (λ (y : View T). y.trace.run) (first j u e), tt);
    owned = tt;
    seats_of = λ j u e n has. absurd (true≢false (sym has ∙ ap (λ (y : View T). is_in n y.trace.seats) (sym (first j u e))));
    leads = λ j u e. subst (λ (y : View T). Leads j y.trace.seats) (first j u e) tt;
  }
    where
      first : (j : ℕ) (u : View T) → get_elem? (start ∷ []) j ≡ some u → start ≡ u
      first zero u e = some-injective _ _ e
      first (suc j) u e = absurd (some-ne-none u (sym e))
