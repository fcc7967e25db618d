-- The parts of the cores, one more core at a time.
use Rattle.std.proofs.Common.{◌≡◌, ◌⊎◌, inl, inr, ℕ, suc, ◌+◌, List, [], ◌∷◌, ◌++◌, length, Some, slice_get, ◌≤◌, sym, ap, ◌∙◌, subst, arith, length-append}
use Rattle.std.proofs.lemmas.Option.{slice_get_within}
use Rattle.atomic_table.specs.Seated.{TableId}
use Rattle.mc_store.specs.Pass.{Stored}
use Rattle.zy_shuffle.specs.Pass.{Held, Ringed, newly_held}
use Rattle.zy_steal.specs.Steal.{PassList, AreIdle, seats_of}
use Rattle.zy_conn.specs.Block.{Blocked, label_of}
use Rattle.zy_home.specs.Home.{Homed, HomeStands, IsMade}
use Rattle.zy_setup.specs.declared.own_connections.OwnConnections.{OwnConnections}
use Rattle.zy_setup.specs.declared.core_parts.CoreParts.{CoreParts}
use Rattle.zy_setup.specs.New.{IsNewHome}
use Rattle.zy_setup.specs.Progress.{AreReady}
use Rattle.zy_setup.specs.Make.{GivesPass, no_passes, HasPasses, AreMade}
use Rattle.zy_setup.proofs.PassLemmas.{push_at, push_below, passes_next, passes_none, length-no_passes, passes_all}

-- nothing is made yet
pub made_none : (store : TableId) (cores count : ℕ) (made : CoreParts) → made.homes.items ≡ [] → made.rings ≡ [] → made.passes.items ≡ no_passes cores → AreMade store cores count made
made_none store cores count made homes rings passes = record {
  same = ap (λ (l : List Ringed). length l) rings ∙ sym (ap (λ (l : List Homed). length l) homes);
  all = ap (λ (l : List (PassList Blocked)). length l) passes ∙ length-no_passes cores;
  homes = λ core h h_at. let none : slice_get {X = Homed} [] core ≡ Some h = ap (λ l. slice_get l core) (sym homes) ∙ h_at in absurd (cc);
  counts = λ core h h_at. let none : slice_get {X = Homed} [] core ≡ Some h = ap (λ l. slice_get l core) (sym homes) ∙ h_at in absurd (cc);
  passes = λ core p p_at. subst (λ l. HasPasses (label_of store cores) l core p) (sym rings) (passes_none (label_of store cores) cores core p (ap (λ l. slice_get l core) (sym passes) ∙ p_at));
}

-- a new home on the last ring
pub new_home : (store : TableId) (rings rings' : List Ringed) (core cores count places : ℕ) (ring : Ringed) (first pass : Held Blocked) (blocks : List Blocked) (h : Homed)
    → rings' ≡ rings ++ ring ∷ [] → core ≡ length rings
    → first ≡ newly_held ring.id (label_of store cores) places → pass ≡ record first { out = pass.out } → IsMade core cores count pass blocks h → HomeStands h [] → IsNewHome rings' (label_of store cores) cores core h
new_home store rings rings' core cores count places ring first pass blocks h rings_are last is given made stands =
    let held : h.pass ≡ record (newly_held ring.id (label_of store cores) places) { out = pass.out } = made.pass_is ∙ given ∙ ap (λ (v : Held Blocked). record v { out = pass.out }) is in record {
      core_is = made.core_is;
      cores_is = made.cores_is;
      ring = λ r at. ap (λ (v : Held Blocked). v.table) held ∙ ap (λ (x : Ringed). x.id) (last_ring r (push_at rings ring core r (ap (λ l. slice_get l core) (sym rings_are) ∙ at)));
      label_is = ap (λ (v : Held Blocked). v.label) held;
      unpublished = ap (λ (v : Held Blocked). v.count) held;
      live = made.refused;
      stands = stands;
    }
  where
    last_ring : (r : Ringed) → (slice_get rings core ≡ Some r) ⊎ ((core ≡ length rings) × (ring ≡ r)) → ring ≡ r
    last_ring r (inl there) = let below = slice_get_within rings core r there in absurd (omega arith)
    last_ring r (inr found) = found.1

-- one further core
module _ (store : TableId) (cores count : ℕ) (made made' : CoreParts) (are : AreMade store cores count made) (home : Homed) (ring : Ringed) (pass : Held Blocked)
    (homes_are : made'.homes.items ≡ made.homes.items ++ home ∷ []) (rings_are : made'.rings ≡ made.rings ++ ring ∷ [])
    (passes' : List (PassList Blocked)) (passes_are : made'.passes.items ≡ passes') (gives : GivesPass (length made.homes.items) pass made.passes.items passes') (size : length passes' ≡ length made.passes.items)
    (new : IsNewHome made'.rings (label_of store cores) cores (length made.homes.items) home) (counted : home.count ≡ count)
    (table : pass.table ≡ ring.id) (labelled : pass.label ≡ label_of store cores) (empty : pass.hand ≡ []) where
  home_at : (core : ℕ) (h : Homed) → (slice_get made.homes.items core ≡ Some h) ⊎ ((core ≡ length made.homes.items) × (home ≡ h)) → IsNewHome made'.rings (label_of store cores) cores core h
  home_at core h (inl there) =
      let was = are.homes core h there in
      let below = slice_get_within made.homes.items core h there in
      let same = are.same in record {
        core_is = was.core_is;
        cores_is = was.cores_is;
        ring = λ r at. was.ring r (push_below made.rings ring core r (omega arith) (ap (λ l. slice_get l core) (sym rings_are) ∙ at));
        label_is = was.label_is;
        unpublished = was.unpublished;
        live = was.live;
        stands = was.stands;
      }
  home_at core h (inr last) = subst (λ n. IsNewHome made'.rings (label_of store cores) cores n h) (sym last.0) (subst (IsNewHome made'.rings (label_of store cores) cores (length made.homes.items)) last.1 new)

  count_at : (core : ℕ) (h : Homed) → (slice_get made.homes.items core ≡ Some h) ⊎ ((core ≡ length made.homes.items) × (home ≡ h)) → h.count ≡ count
  count_at core h (inl there) = are.counts core h there
  count_at core h (inr last) = ap (λ (x : Homed). x.count) (sym last.1) ∙ counted

  pub made_next : AreMade store cores count made'
  made_next = record {
    same = (let same = are.same in let a = ap (λ (l : List Ringed). length l) rings_are in let b = ap (λ (l : List Homed). length l) homes_are in
        let c = length-append made.rings (ring ∷ []) in let d = length-append made.homes.items (home ∷ []) in omega arith);
    all = ap (λ (l : List (PassList Blocked)). length l) passes_are ∙ size ∙ are.all;
    homes = λ core h at. home_at core h (push_at made.homes.items home core h (ap (λ l. slice_get l core) (sym homes_are) ∙ at));
    counts = λ core h at. count_at core h (push_at made.homes.items home core h (ap (λ l. slice_get l core) (sym homes_are) ∙ at));
    passes = λ core p p_at. subst (λ l. HasPasses (label_of store cores) l core p) (sym rings_are)
        (passes_next (label_of store cores) made.rings ring pass table labelled empty made.passes.items passes'
        (subst (λ n. GivesPass n pass made.passes.items passes') (sym are.same) gives) are.passes core p (ap (λ l. slice_get l core) (sym passes_are) ∙ p_at));
  }

-- the parts of all cores, when all are made
pub ready_of : (store : Stored) (cores count : ℕ) (made : CoreParts) → AreMade store.id cores count made → length made.homes.items ≡ cores → 1 ≤ cores → cores ≤ 64
    → AreReady made.rings store made.homes.items made.passes.items
ready_of store cores count made are all some few =
    let same = are.same in
    let size = are.all in
    let rings : cores ≡ length made.rings = omega arith in record {
      some = omega arith;
      few = omega arith;
      homes_are = omega arith;
      passes_are = omega arith;
      each_home = λ core h at. subst (λ (n : ℕ). IsNewHome made.rings (label_of store.id n) n core h) rings (are.homes core h at);
      each_passes = λ core p at.
          let has = are.passes core p at in
          let below = slice_get_within made.passes.items core p at in record {
            core_is = has.core_is;
            passes = passes_all (label_of store.id cores) made.rings core p has (omega arith);
            idle = subst (λ (n : ℕ). AreIdle (label_of store.id n) (seats_of p.items)) rings has.idle;
          };
    }

-- ---- what is left to make, from a number on

-- the first one is that of the number
pub first_left : (P : ℕ → OwnConnections → Type 0) (xs ys : List OwnConnections) (own : OwnConnections) (n : ℕ) → xs ≡ own ∷ ys → ((k : ℕ) (x : OwnConnections) → slice_get xs k ≡ Some x → P (n + k) x) → P n own
first_left P xs ys own n are each =
    let same : n + 0 ≡ n = omega arith in subst (λ m. P m own) same (each 0 own (ap (λ (l : List OwnConnections). slice_get l 0) are))

-- the others are those from the next number on
pub others_left : (P : ℕ → OwnConnections → Type 0) (xs ys : List OwnConnections) (own : OwnConnections) (n m : ℕ) → xs ≡ own ∷ ys → m ≡ n + 1 → ((k : ℕ) (x : OwnConnections) → slice_get xs k ≡ Some x → P (n + k) x)
    → (k : ℕ) (x : OwnConnections) → slice_get ys k ≡ Some x → P (m + k) x
others_left P xs ys own n m are next each k x at =
    let same : n + suc k ≡ m + k = omega arith in subst (λ i. P i x) same (each (suc k) x (ap (λ (l : List OwnConnections). slice_get l (suc k)) are ∙ at))

-- all are, from 0 on
pub all_left : (P : ℕ → OwnConnections → Type 0) (xs ys : List OwnConnections) (n : ℕ) → ys ≡ xs → n ≡ 0 → ((k : ℕ) (x : OwnConnections) → slice_get xs k ≡ Some x → P k x) → (k : ℕ) (x : OwnConnections) → slice_get ys k ≡ Some x → P (n + k) x
all_left P xs ys n are none each k x at =
    let same : k ≡ n + k = omega arith in subst (λ i. P i x) same (each k x (ap (λ (l : List OwnConnections). slice_get l k) (sym are) ∙ at))
