-- What is known of passes by their tables, labels and hands.
use Rattle.std.proofs.Common.{◌≡◌, ◌≢◌, get_or, subst, ℕ, zero, suc, ◌<◌, List, [], ◌∷◌, length, set, Some, slice_get, refl, sym, ap, ◌∙◌, arith}
use Rattle.zy_table.specs.declared.name.Name.{Name}
use Rattle.zy_table.proofs.SliceLemmas.{get_at, get_below, get_set_there}
use Rattle.zy_shuffle.specs.declared.ring.view.Trace.{Trace}
use Rattle.zy_shuffle.specs.Pass.{Held, Ringed, after_give_back}
use Rattle.zy_steal.specs.Order.{other_core, number_of}
use Rattle.zy_steal.proofs.OrderLemmas.{other-number_of}
use Rattle.zy_steal.specs.Steal.{PassList, ArePasses, Holds, HoldsOf, GivesTo, seat_of, seats_of, pass_list}

module _ {T : Type 0} where
  -- one pass is changed
  pub seats-set : (vs : List (Held T)) (i : ℕ) (v : Held T) → seats_of (set vs i v) ≡ set (seats_of vs) i (seat_of v)
  seats-set [] i v = refl
  seats-set (x ∷ xs) zero v = refl
  seats-set (x ∷ xs) (suc i) v = ap (λ l. seat_of x ∷ l) (seats-set xs i v)

  -- the seat of the pass at a number
  pub seats-get : (vs : List (Held T)) (i : ℕ) (v : Held T) → slice_get vs i ≡ Some v → slice_get (seats_of vs) i ≡ Some (seat_of v)
  seats-get [] i v e = cc
  seats-get (x ∷ xs) zero v e = let is : x ≡ v = cc in ap (λ (z : Held T). Some (seat_of z)) is
  seats-get (x ∷ xs) (suc i) v e = seats-get xs i v e

  -- there is a seat for each pass
  pub seats-length : (vs : List (Held T)) → length (seats_of vs) ≡ length vs
  seats-length [] = refl
  seats-length (x ∷ xs) = ap suc (seats-length xs)

  -- the number of passes is the same
  pub count_same : (vs ws : List (Held T)) → seats_of ws ≡ seats_of vs → length ws ≡ length vs
  count_same vs ws same = let a = ap length same in let b = seats-length vs in let c = seats-length ws in omega arith

  -- the pass at a number that is read with a default is the pass in the list
  pub pass_at : (vs : List (Held T)) (at : ℕ) (v pass : Held T) → slice_get vs at ≡ Some pass → v ≡ get_or vs at v → pass ≡ v
  pass_at vs at v pass there is = let here = get_at vs at v v (get_below vs at pass there) is in let same : Some pass ≡ Some v = sym there ∙ here in cc

  -- it is on the ring of its core
  pub table_is : (rings : List Ringed) (core : ℕ) (vs : List (Held T)) (at : ℕ) (v : Held T) (r : Ringed) → ArePasses rings (pass_list core vs) → at < length vs → v ≡ get_or vs at v → slice_get rings (other_core core at) ≡ Some r → v.table ≡ r.id
  table_is rings core vs at v r h lt is there = h.tables at v r (get_at vs at v v lt is) there

  -- the place leaves the hand of one pass
  pub gives_to : (core victim at place : ℕ) (block : T) (vs : List (Held T)) (v w : Held T) (trace : Trace) → at ≡ number_of core victim → slice_get vs at ≡ Some v → w ≡ after_give_back place block v trace
      → GivesTo (pass_list core vs) (pass_list core (set vs at w)) victim place block
  gives_to core victim at place block vs v w trace is there gave = record {
    before = v;
    after = w;
    was = ap (slice_get vs) (sym is) ∙ there;
    is = ap (slice_get (set vs at w)) (sym is) ∙ get_set_there vs at w v there;
    kept = ap (λ (x : Held T). x.kept) gave;
    seats = seats-set vs at w ∙ (λ i. set (seats_of vs) (is i) (seat_of (gave i)));
  }

  module _ {M : Type 0} (mark : T → M) (label : T → Name) where
    -- what giving a block back requires of the pass on the ring of this core
    asks_of : (rings : List Ringed) (core victim at place : ℕ) (block : T) (vs : List (Held T)) (v : Held T) (r : Ringed) → ArePasses rings (pass_list core vs) → core ≢ victim → HoldsOf mark label (pass_list core vs) victim place block
        → at ≡ number_of core victim → v ≡ get_or vs at v → slice_get rings victim ≡ Some r → (v.table ≡ r.id) × Holds mark label v place block × (slice_get vs at ≡ Some v)
    asks_of rings core victim at place block vs v r h ne holds is here ring =
        let there : slice_get vs at ≡ Some holds.pass = ap (slice_get vs) is ∙ holds.there in
        let lt = get_below vs at holds.pass there in
        let same = pass_at vs at v holds.pass there here in (
          table_is rings core vs at v r h lt here (ap (λ k. slice_get rings (other_core core k)) is ∙ ap (slice_get rings) (other-number_of core victim ne) ∙ ring),
          subst (λ (x : Held T). Holds mark label x place block) same holds.holds,
          there ∙ ap Some same,
        )

    -- the same of passes as a contract sees them
    pub asks_seen : (rings : List Ringed) (core victim at place : ℕ) (block : T) (vs : List (Held T)) (v : Held T) (r : Ringed) (p : PassList T) → pass_list core vs ≡ p → ArePasses rings p → p.core ≢ victim → HoldsOf mark label p victim place block
        → at ≡ number_of core victim → v ≡ get_or vs at v → slice_get rings victim ≡ Some r → (v.table ≡ r.id) × Holds mark label v place block × (slice_get vs at ≡ Some v)
    asks_seen rings core victim at place block vs v r p seen h ne holds =
        asks_of rings core victim at place block vs v r (subst (ArePasses rings) (sym seen) h) (subst (λ (q : PassList T). q.core ≢ victim) (sym seen) ne) (subst (λ (q : PassList T). HoldsOf mark label q victim place block) (sym seen) holds)
