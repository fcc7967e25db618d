-- The passes of all cores on the rings, one more ring at a time.
use Rattle.std.specs.Prelude.{if◌then◌else◌, option_map}
use Rattle.std.proofs.Common.{◌≡◌, ◌≢◌, ◌⊎◌, inl, inr, ℕ, zero, suc, ◌+◌, ◌-◌, ◌<◌, ◌≤◌, List, [], ◌∷◌, ◌++◌, length, Option, Some, None, slice_get, set, get_or, refl, sym, ap, ◌∙◌, subst, arith, eq-eqb, ne_eqb, length-append}
use mathlib.Core.Logic.{dite}
use native.Mathlib.Decide.{ℕ_discrete, dec_lt}
use Rattle.std.proofs.lemmas.Bool.{lt-ltb, le-ltb}
use Rattle.std.proofs.lemmas.Option.{slice_get_within, slice_get_past}
use Rattle.zy_table.specs.declared.name.Name.{Name}
use Rattle.zy_table.proofs.SliceLemmas.{get_at, get_set_else, get_set_there}
use Rattle.zy_shuffle.specs.Pass.{Held, Ringed, newly_given}
use Rattle.zy_steal.specs.Order.{other_core}
use Rattle.zy_steal.specs.Steal.{PassList, ArePasses, pass_list, AreIdle, seats_of}
use Rattle.zy_steal.proofs.OrderLemmas.{other-below, other-above}
use Rattle.zy_conn.specs.Block.{Blocked}
use Rattle.zy_core.proofs.ListLemmas.{get_seam}
use Rattle.zy_setup.specs.Make.{with_further_pass, GivesPass, no_passes, others_among, HasPasses}

-- ---- the last of a list

-- a member of a list with one further member is an old one, or the new one
pub push_at : {A : Type 0} (xs : List A) (x : A) (i : ℕ) (y : A) → slice_get (xs ++ x ∷ []) i ≡ Some y → (slice_get xs i ≡ Some y) ⊎ ((i ≡ length xs) × (x ≡ y))
push_at [] x zero y e = inr (refl, cc)
push_at [] x (suc i) y e = absurd (cc)
push_at (z ∷ xs) x zero y e = inl e
push_at (z ∷ xs) x (suc i) y e = go (push_at xs x i y e)
  where
    go : (slice_get xs i ≡ Some y) ⊎ ((i ≡ length xs) × (x ≡ y)) → (slice_get (z ∷ xs) (suc i) ≡ Some y) ⊎ ((suc i ≡ length (z ∷ xs)) × (x ≡ y))
    go (inl there) = inl there
    go (inr last) = inr ((let at = last.0 in omega arith), last.1)

-- and below the length it is there already
pub push_below : {A : Type 0} (xs : List A) (x : A) (i : ℕ) (y : A) → i < length xs → slice_get (xs ++ x ∷ []) i ≡ Some y → slice_get xs i ≡ Some y
push_below xs x i y below e = go (push_at xs x i y e)
  where
    go : (slice_get xs i ≡ Some y) ⊎ ((i ≡ length xs) × (x ≡ y)) → slice_get xs i ≡ Some y
    go (inl there) = there
    go (inr last) = let at = last.0 in absurd (omega arith)

-- ---- what a core has, when a ring is added

idle_more : (label : Name) (vs : List (Held Blocked)) (v : Held Blocked) → AreIdle label (seats_of vs) → v.label ≡ label → v.hand ≡ [] → AreIdle label (seats_of (vs ++ v ∷ []))
idle_more label [] v idle labelled empty = (labelled, empty, tt)
idle_more label (x ∷ vs) v idle labelled empty = (idle.0, idle.1, idle_more label vs v idle.2 labelled empty)

module _ (label : Name) (rings : List Ringed) (ring : Ringed) (pass : Held Blocked) (table : pass.table ≡ ring.id) (labelled : pass.label ≡ label) (empty : pass.hand ≡ []) where
  size : length (rings ++ ring ∷ []) ≡ length rings + 1
  size = length-append rings (ring ∷ [])

  among_here : others_among (length rings) (length (rings ++ ring ∷ [])) ≡ others_among (length rings) (length rings)
  among_here =
      let one = size in
      ap (λ b. if b then length (rings ++ ring ∷ []) - 1 else length (rings ++ ring ∷ [])) (lt-ltb (length rings) (length (rings ++ ring ∷ [])) (omega arith))
      ∙ (let less : length (rings ++ ring ∷ []) - 1 ≡ length rings = omega arith in less)
      ∙ sym (ap (λ b. if b then length rings - 1 else length rings) (le-ltb (length rings) (length rings) (omega arith)))

  among_other : (core : ℕ) → core ≢ length rings → others_among core (length (rings ++ ring ∷ [])) ≡ others_among core (length rings) + 1
  among_other core other = dite (dec_lt core (length rings))
      (λ below.
      let one = size in
      ap (λ b. if b then length (rings ++ ring ∷ []) - 1 else length (rings ++ ring ∷ [])) (lt-ltb core (length (rings ++ ring ∷ [])) (omega arith))
      ∙ (let less : length (rings ++ ring ∷ []) - 1 ≡ length rings - 1 + 1 = omega arith in less)
      ∙ sym (ap (λ b. (if b then length rings - 1 else length rings) + 1) (lt-ltb core (length rings) below)))
      (λ above.
      let one = size in
      ap (λ b. if b then length (rings ++ ring ∷ []) - 1 else length (rings ++ ring ∷ [])) (le-ltb core (length (rings ++ ring ∷ [])) (omega arith))
      ∙ size
      ∙ sym (ap (λ b. (if b then length rings - 1 else length rings) + 1) (le-ltb core (length rings) (omega arith))))

  -- the core of a pass that is there is that of a ring that was there
  near : (core at : ℕ) → at < others_among core (length rings) → other_core core at < length rings
  near core at below = dite (dec_lt core (length rings))
      (λ less.
      let count : others_among core (length rings) ≡ length rings - 1 = ap (λ b. if b then length rings - 1 else length rings) (lt-ltb core (length rings) less) in
      dite (dec_lt at core)
      (λ low. let is = other-below core at low in omega arith)
      (λ high. let is = other-above core at (omega arith) in omega arith))
      (λ more.
      let count : others_among core (length rings) ≡ length rings = ap (λ b. if b then length rings - 1 else length rings) (le-ltb core (length rings) (omega arith)) in
      let is = other-below core at (omega arith) in omega arith)

  -- the core of the next pass is that of the new ring
  next_core : (core : ℕ) → core ≢ length rings → other_core core (others_among core (length rings)) ≡ length rings
  next_core core other = dite (dec_lt core (length rings))
      (λ less.
      let count : others_among core (length rings) ≡ length rings - 1 = ap (λ b. if b then length rings - 1 else length rings) (lt-ltb core (length rings) less) in
      let is = other-above core (others_among core (length rings)) (omega arith) in omega arith)
      (λ more.
      let count : others_among core (length rings) ≡ length rings = ap (λ b. if b then length rings - 1 else length rings) (le-ltb core (length rings) (omega arith)) in
      let is = other-below core (others_among core (length rings)) (omega arith) in omega arith)

  -- the core of the new ring
  passes_here : (p : PassList Blocked) → HasPasses label rings (length rings) p → HasPasses label (rings ++ ring ∷ []) (length rings) p
  passes_here p has = record {
    core_is = has.core_is;
    count = has.count ∙ sym among_here;
    tables = λ at v r v_at r_at. let below = slice_get_within p.items at v v_at in let count = has.count in
        has.tables at v r v_at (push_below rings ring (other_core (length rings) at) r (near (length rings) at (omega arith)) r_at);
    idle = has.idle;
  }

  -- another core
  passes_other : (core : ℕ) (p : PassList Blocked) → core ≢ length rings → HasPasses label rings core p → HasPasses label (rings ++ ring ∷ []) core (pass_list p.core (p.items ++ pass ∷ []))
  passes_other core p other has = record {
    core_is = has.core_is;
    count = (let more = length-append p.items (pass ∷ []) in let count = has.count in let sum = among_other core other in omega arith);
    tables = λ at v r v_at r_at. table_at at v r (push_at p.items pass at v v_at) r_at;
    idle = idle_more label p.items pass has.idle labelled empty;
  }
    where
      table_at : (at : ℕ) (v : Held Blocked) (r : Ringed) → (slice_get p.items at ≡ Some v) ⊎ ((at ≡ length p.items) × (pass ≡ v)) → slice_get (rings ++ ring ∷ []) (other_core core at) ≡ Some r → v.table ≡ r.id
      table_at at v r (inl there) r_at =
          let below = slice_get_within p.items at v there in let count = has.count in
          has.tables at v r there (push_below rings ring (other_core core at) r (near core at (omega arith)) r_at)
      table_at at v r (inr last) r_at =
          let here : other_core core at ≡ length rings = ap (other_core core) (last.0 ∙ has.count) ∙ next_core core other in
          let e : ring ≡ r = last_ring r (ap (slice_get (rings ++ ring ∷ [])) (sym here) ∙ r_at) in
          ap (λ (w : Held Blocked). w.table) (sym last.1) ∙ table ∙ ap (λ (x : Ringed). x.id) e
        where
          last_ring : (r : Ringed) → slice_get (rings ++ ring ∷ []) (length rings) ≡ Some r → ring ≡ r
          last_ring r e = let s : Some ring ≡ Some r = sym (get_seam rings [] ring) ∙ e in cc

  -- each core, when the passes were given
  module _ (before after : List (PassList Blocked)) (gives : GivesPass (length rings) pass before after)
      (each : (core : ℕ) (p : PassList Blocked) → slice_get before core ≡ Some p → HasPasses label rings core p) where
    from : (core : ℕ) (o : Option (PassList Blocked)) (q : PassList Blocked) → slice_get before core ≡ o → option_map (with_further_pass (length rings) pass core) o ≡ Some q → HasPasses label (rings ++ ring ∷ []) core q
    from core None q is e = absurd (cc)
    from core (Some p) q is e = dite (ℕ_discrete core (length rings))
        (λ same.
        let kept : with_further_pass (length rings) pass core p ≡ p = ap (λ b. if b then p else pass_list p.core (p.items ++ pass ∷ [])) (eq-eqb core (length rings) same) in
        let both : Some p ≡ Some q = ap Some (sym kept) ∙ e in
        let one : p ≡ q = cc in
        subst (HasPasses label (rings ++ ring ∷ []) core) one (subst (λ n. HasPasses label (rings ++ ring ∷ []) n p) (sym same) (passes_here p (subst (λ n. HasPasses label rings n p) same (each core p is)))))
        (λ other.
        let more : with_further_pass (length rings) pass core p ≡ pass_list p.core (p.items ++ pass ∷ []) = ap (λ b. if b then p else pass_list p.core (p.items ++ pass ∷ [])) (ne_eqb core (length rings) other) in
        let both : Some (pass_list p.core (p.items ++ pass ∷ [])) ≡ Some q = ap Some (sym more) ∙ e in
        let one : pass_list p.core (p.items ++ pass ∷ []) ≡ q = cc in
        subst (HasPasses label (rings ++ ring ∷ []) core) one (passes_other core p other (each core p is)))

    pub passes_next : (core : ℕ) (q : PassList Blocked) → slice_get after core ≡ Some q → HasPasses label (rings ++ ring ∷ []) core q
    passes_next core q e = from core (slice_get before core) q refl (sym (gives core) ∙ e)

-- ---- beginning and end

-- there are `cores` lists
pub length-no_passes : (cores : ℕ) → length (no_passes cores) ≡ cores
length-no_passes zero = refl
length-no_passes (suc cores) = let rest = length-no_passes cores in let size = length-append (no_passes cores) (pass_list cores [] ∷ []) in omega arith

-- at first a core has no pass
pub passes_none : (label : Name) (cores core : ℕ) (p : PassList Blocked) → slice_get (no_passes cores) core ≡ Some p → HasPasses label [] core p
passes_none label zero core p e = absurd (cc)
passes_none label (suc cores) core p e = go (push_at (no_passes cores) (pass_list cores []) core p e) (λ there. passes_none label cores core p there)
  where
    go : (slice_get (no_passes cores) core ≡ Some p) ⊎ ((core ≡ length (no_passes cores)) × (pass_list cores [] ≡ p)) → (slice_get (no_passes cores) core ≡ Some p → HasPasses label [] core p) → HasPasses label [] core p
    go (inl there) earlier = earlier there
    go (inr last) earlier = subst (HasPasses label [] core) last.1 (record {
      core_is = sym (last.0 ∙ length-no_passes cores);
      count = sym (ap (λ b. if b then 0 - 1 else 0) (le-ltb core 0 (omega arith)));
      tables = λ at v r v_at r_at. absurd (cc);
      idle = tt;
    })

-- at the end it has one for each other core
pub passes_all : (label : Name) (rings : List Ringed) (core : ℕ) (p : PassList Blocked) → HasPasses label rings core p → core < length rings → ArePasses rings p
passes_all label rings core p has within = record {
  count = (let count = has.count in let among : others_among core (length rings) ≡ length rings - 1 = ap (λ b. if b then length rings - 1 else length rings) (lt-ltb core (length rings) within) in omega arith);
  core = (let is = has.core_is in omega arith);
  tables = λ at v r v_at r_at. has.tables at v r v_at (ap (λ n. slice_get rings (other_core n at)) (sym has.core_is) ∙ r_at);
}
