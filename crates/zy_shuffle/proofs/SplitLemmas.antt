-- How a pass is given, and how it is joined.
use Rattle.std.proofs.Common.{◌≡◌, ◌≢◌, ℕ, ◌+◌, ◌-◌, ◌<◌, List, [], ◌∷◌, ◌++◌, length, set, true, true≢false, refl, sym, ap, ◌∙◌, subst, ⊎_elim, arith, length-set}
use Rattle.std.specs.Prelude as std
use mathlib.Core.Option.{some, some-injective}
use mathlib.Core.Logic.{dite}
use native.Mathlib.Decide.{ℕ_discrete}
use lib.ListN.{get_elem?}
use Rattle.atomic_table.specs.Table.{Splits, Joins}
use Rattle.atomic_table.proofs.Lists.{at_set, set_here, set_else, at_longer}
use Rattle.zy_shuffle.proofs.FollowLemmas.{follows_else}
use Rattle.zy_shuffle.proofs.KnownLemmas.{known_added, known_same, known_joined}
use Rattle.zy_shuffle.proofs.HandLemmas.{cores_set, cores_snoc}
use Rattle.zy_shuffle.proofs.RoleLemmas.{role_is, standing_of}
use Rattle.zy_shuffle.specs.Holder.{in_hand, core_count, cores}
use Rattle.zy_shuffle.specs.Run.{IsKnown}
use Rattle.zy_shuffle.specs.ShuffleRule.{IsRole, Knows, RingState, ShuffleRule, Standing}
use Rattle.zy_shuffle.specs.HomeRole.{IsActive, one_less, one_more}
use Rattle.zy_shuffle.specs.Step.{newcomer, splitting, taken_in}
use Rattle.zy_shuffle.specs.View.{spent}
use Rattle.zy_shuffle.specs.declared.ring.view.Role.{Role}
use Rattle.zy_shuffle.specs.declared.ring.view.Role.TheVariants.{Closed, Core, Home, Spent, Start}
use Rattle.zy_shuffle.specs.declared.ring.view.View.{View}
use Rattle.zy_table.proofs.SlotLemmas.{at_below, at_end}
use Rattle.zy_table.specs.Member.{is_in}
use Rattle.zy_table.specs.declared.name.Name.{Name}

module _ {T M : Type 0} (mark : T → M) (label : T → Name) where
  -- the role of a seat that makes no step while a core's pass is given or joined
  counted_role : (now : Standing M) (count j : ℕ) (u : View T) (x : Role) → j ≢ 0 → IsRole mark label now j u x → IsRole mark label (record now { count = count }) j u x
  counted_role now count j u Spent ne h = h
  counted_role now count j u Start ne h = absurd (ne h.0)
  counted_role now count j u Core ne h = h
  counted_role now count j u (Home t st nt out) ne h = absurd (ne h.0)
  counted_role now count j u (Closed gone) ne h = absurd (ne h.0)

  counted : (now : Standing M) (count j : ℕ) (u : View T) → j ≢ 0 → Knows mark label now j u → Knows mark label (record now { count = count }) j u
  counted now count j u ne k = record {
    hand = k.hand;
    apart = k.apart;
    same = k.same;
    head_seen = k.head_seen;
    tail_seen = k.tail_seen;
    note = k.note;
    role = counted_role now count j u u.role ne k.role;
  }

  -- the rule with other views: what it says of the words stays
  seen_as : (s : RingState T) (r : ShuffleRule mark label s) (views : List (View T)) → IsKnown r.follows.events views
      → ((j : ℕ) (u : View T) → get_elem? views j ≡ some u → Knows mark label (record (standing_of r) { count = cores views }) j u)
      → ((p j : ℕ) → p < length s.homes → r.holders p ≡ in_hand j → (u : View T) × (get_elem? views j ≡ some u) × (is_in p u.hand ≡ true))
      → ShuffleRule mark label record { words = s.words; homes = s.homes; views = views }
  seen_as s r views known each_seat live = record {
    head = r.head;
    tail = r.tail;
    name = r.name;
    holders = r.holders;
    marks = r.marks;
    wide = r.wide;
    head_is = r.head_is;
    tail_is = r.tail_is;
    sums = r.sums;
    barren = r.barren;
    each_place = r.each_place;
    blank = r.blank;
    each_cell = r.each_cell;
    follows = follows_else (length s.homes) r.marks s.views views s.words s.words r.head r.tail r.holders (let a = r.sums in omega arith) (λ _ _ _. refl) r.follows known;
    each_seat = each_seat;
    live = live;
  }

  pub splits : (id t out : ℕ) (st : std.Option ℕ) (nt : std.Option (ℕ × ℕ)) (v : View T) → v.role ≡ Home t st nt out → Splits (ShuffleRule mark label) id v (splitting v) (newcomer v)
  splits id t out st nt v is_home s r at =
      let k = r.each_seat id v at in
      let home = role_is r id v at is_home in
      let left : View T = splitting v in
      let right : View T = newcomer v in
      let views' : List (View T) = set s.views id left in
      let role' : one_more v.role ≡ Home t st nt (out + 1) = ap one_more is_home in
      let count : cores (views' ++ right ∷ []) ≡ cores s.views + 1 = (let a = cores_set s.views id v left at in let b = ap core_count is_home in let c = ap core_count role' in let d = cores_snoc views' right in omega arith) in
      let long = length-set s.views id left in
      let after : Standing M = record (standing_of r) { count = cores s.views + 1 } in
      let mine : Knows mark label after id left = record {
        hand = k.hand;
        apart = k.apart;
        same = k.same;
        head_seen = k.head_seen;
        tail_seen = k.tail_seen;
        note = k.note;
        role = subst (IsRole mark label after id left) (sym role') (home.0, home.1, home.2, ap (λ x. x + 1) home.3, home.4, home.5, home.6, home.7);
      } in
      let new : (j : ℕ) → (j ≡ 0 → ⊥) → Knows mark label after j right = λ j other. record {
        hand = λ q e. absurd (true≢false (sym e));
        apart = tt;
        same = λ q e. absurd (true≢false (sym e));
        head_seen = omega arith;
        tail_seen = omega arith;
        note = tt;
        role = (home.1, other);
      } in
      seen_as s r (views' ++ right ∷ [])
      (known_added r.follows.events views' right refl refl (known_same r.follows.events s.views id v left at refl refl (λ e. let a = sym is_home ∙ e in cc) r.follows.known))
      (subst (λ (c : ℕ). (j : ℕ) (u : View T) → get_elem? (views' ++ right ∷ []) j ≡ some u → Knows mark label (record (standing_of r) { count = c }) j u) (sym count)
      (λ j u e. ⊎_elim
      (λ (old : get_elem? views' j ≡ some u). ⊎_elim
      (λ (x : (j ≡ id) × (left ≡ u)). subst (λ (x : ℕ × View T). Knows mark label after x.0 x.1) (λ i. (sym x.0 i, x.1 i)) mine)
      (λ (x : (j ≢ id) × (get_elem? s.views j ≡ some u)). counted (standing_of r) (cores s.views + 1) j u (λ f. x.0 (f ∙ sym home.0)) (r.each_seat j u x.1))
      (at_set s.views id j left u old))
      (λ (x : (j ≡ length views') × (right ≡ u)). subst (λ (y : View T). Knows mark label after j y) x.1 (new j (λ z. let first = at_below s.views id v at in let last = x.0 in omega arith)))
      (at_end views' right u j e)))
      (λ q j lt e. let old = r.live q j lt e in dite (ℕ_discrete j id)
      (λ is. let same : v ≡ old.0 = some-injective _ _ (sym at ∙ ap (get_elem? s.views) (sym is) ∙ old.1) in
      (left, at_longer views' (right ∷ []) j left (ap (get_elem? views') is ∙ set_here s.views id left (at_below s.views id v at)), ap (λ (x : View T). is_in q x.hand) same ∙ old.2))
      (λ no. (old.0, at_longer views' (right ∷ []) j old.0 (set_else s.views id j left no ∙ old.1), old.2)))

  pub joins : (id other t out : ℕ) (st : std.Option ℕ) (nt : std.Option (ℕ × ℕ)) (v w : View T) → v.role ≡ Home t st nt out → w.role ≡ Core → w.hand ≡ [] → Joins (ShuffleRule mark label) id v other w (taken_in v w) spent
  joins id other t out st nt v w is_home is_core empty s r at apart there =
      let k = r.each_seat id v at in
      let home = role_is r id v at is_home in
      let both : View T = taken_in v w in
      let views1 : List (View T) = set s.views id both in
      let views' : List (View T) = set views1 other spent in
      let role' : one_less v.role ≡ Home t st nt (out - 1) = ap one_less is_home in
      let at_other : get_elem? s.views other ≡ some w = sym (set_else s.views id other both apart) ∙ there in
      let a1 = cores_set s.views id v both at in
      let a2 = cores_set views1 other w spent there in
      let b1 = ap core_count is_home in
      let b2 = ap core_count role' in
      let b3 = ap core_count is_core in
      let count : cores views' + 1 ≡ cores s.views = omega arith in
      let fewer : cores views' ≡ out - 1 = (let a = home.3 in omega arith) in
      let after : Standing M = record (standing_of r) { count = cores views' } in
      let mine : Knows mark label after id both = record {
        hand = k.hand;
        apart = k.apart;
        same = k.same;
        head_seen = k.head_seen;
        tail_seen = k.tail_seen;
        note = k.note;
        role = subst (IsRole mark label after id both) (sym role') (home.0, home.1, home.2, fewer, home.4, home.5, home.6, home.7);
      } in
      let gone : (j : ℕ) → Knows mark label after j spent = λ j. record {
        hand = λ q e. absurd (true≢false (sym e));
        apart = tt;
        same = λ q e. absurd (true≢false (sym e));
        head_seen = omega arith;
        tail_seen = omega arith;
        note = tt;
        role = refl;
      } in
      seen_as s r views'
      (known_joined r.follows.events s.views r.follows.known id v at (subst IsActive (sym is_home) tt) other w both at_other apart home.0 refl refl)
      (λ j u e. ⊎_elim
      (λ (x : (j ≡ other) × (spent ≡ u)). subst (λ (y : View T). Knows mark label after j y) x.1 (gone j))
      (λ (x : (j ≢ other) × (get_elem? views1 j ≡ some u)). ⊎_elim
      (λ (y : (j ≡ id) × (both ≡ u)). subst (λ (x : ℕ × View T). Knows mark label after x.0 x.1) (λ i. (sym y.0 i, y.1 i)) mine)
      (λ (y : (j ≢ id) × (get_elem? s.views j ≡ some u)). counted (standing_of r) (cores views') j u (λ f. y.0 (f ∙ sym home.0)) (r.each_seat j u y.1))
      (at_set s.views id j both u x.1))
      (at_set views1 other j spent u e))
      (λ q j lt e. let old = r.live q j lt e in
      let from_other : j ≢ other = λ f. let same : w ≡ old.0 = some-injective _ _ (sym at_other ∙ ap (get_elem? s.views) (sym f) ∙ old.1) in true≢false (sym old.2 ∙ ap (λ (x : View T). is_in q x.hand) (sym same) ∙ ap (is_in q) empty) in dite (ℕ_discrete j id)
      (λ is. let same : v ≡ old.0 = some-injective _ _ (sym at ∙ ap (get_elem? s.views) (sym is) ∙ old.1) in
      (both, set_else views1 other j spent from_other ∙ ap (get_elem? views1) is ∙ set_here s.views id both (at_below s.views id v at), ap (λ (x : View T). is_in q x.hand) same ∙ old.2))
      (λ no. (old.0, set_else views1 other j spent from_other ∙ set_else s.views id j both no ∙ old.1, old.2)))
