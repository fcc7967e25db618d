-- How the table begins, and the first load of the home.
use Rattle.std.proofs.Common.{inl, inr}
use Rattle.zy_shuffle.specs.Ownership.{idle, held, no_requests}
use Rattle.zy_shuffle.specs.Follow.{Agrees, Follows}
use Rattle.zy_shuffle.proofs.FollowLemmas.{follows_holders}
use Rattle.zy_shuffle.proofs.KnownLemmas.{known_same, known_start}
use Rattle.std.proofs.Common.{◌≡◌, ◌≢◌, ℕ, zero, suc, ◌+◌, ◌/◌, ◌%◌, ◌<◌, ◌≤◌, List, [], ◌∷◌, map, replicate, length, get_or, set, true, true≢false, refl, sym, ap, ◌∙◌, subst, ⊎_elim, arith}
use Rattle.std.specs.Prelude as std
use mathlib.Core.Option.{Option, none, some, some-injective, some-ne-none}
use lib.ListN.{get_elem?}
use lib.Seq.{set-get_or}
use Rattle.std.specs.Int.{bit_at}
use Rattle.std.proofs.lemmas.Nat.Bits.{bit_at-zero}
use Rattle.atomic_table.specs.Table.{step, opening, carried_after, homes_after, Allows}
use Rattle.atomic_table.proofs.Lists.{at_set, set_here}
use Rattle.zy_shuffle.proofs.HandLemmas.{below_distinct, below_in, cores_set, in_below, take_act, takes_all}
use Rattle.zy_shuffle.specs.Hand.{below_then, emptied}
use Rattle.zy_shuffle.specs.Holder.{Holder, bell, cores, in_hand, nobody, weight}
use Rattle.zy_shuffle.specs.ShuffleRule.{Knows, ShuffleRule, Standing}
use Rattle.zy_shuffle.specs.Step.{Seated, named_as, naming}
use Rattle.zy_shuffle.specs.View.{start}
use Rattle.zy_shuffle.specs.Word.{bell_at, bell_words}
use Rattle.zy_shuffle.specs.declared.ring.view.View.{View}
use Rattle.zy_table.proofs.SlotLemmas.{at_below}
use Rattle.zy_table.proofs.SumLemmas.{sum_bound, sum_same}
use Rattle.zy_table.specs.Member.{is_in}
use Rattle.zy_table.specs.Name.{no_name}
use Rattle.zy_table.specs.Sum.{sum_below}
use Rattle.zy_table.specs.declared.name.Name.{Name}
use Rattle.zy_shuffle.proofs.IdleLemmas.{idle_knows, shut_slot}
use Rattle.zy_shuffle.proofs.RoleLemmas.{alone, standing_of}

module _ {T M : Type 0} (mark : T → M) (label : T → Name) where
  -- the first load of the home, which takes all slots and names the label
  pub names : (n id : ℕ) (z : Name) → Allows (ShuffleRule mark label) n id (start, []) 0 (λ y. y) (λ _ m. named_as z (step n 0 0 0 none) m)
  names n id z s r wide at _ =
      let m : ℕ = length s.homes in
      let y : ℕ = get_or s.words 0 0 in
      let k = r.each_seat id start at in
      let role = k.role in
      let same : set s.words 0 y ≡ s.words = set-get_or s.words 0 0 in
      let slots : (q : ℕ) → q < m → get_elem? s.homes q ≡ some (some std.None) = λ q lt. shut_slot mark label s.homes r.marks r.name q (r.holders q) (role.4 q) (r.each_place q lt).lies in
      let all = takes_all s.homes [] m (omega arith) slots in
      let homes' : List (Option (std.Option T)) = homes_after s.homes (emptied []) (take_act m) in
      let v' : View T = naming z m in
      let holders' : ℕ → Holder = λ _. in_hand id in
      let marks' : ℕ → std.Option M = λ _. std.None in
      let count : cores (set s.views id v') ≡ 0 = (let a = cores_set s.views id start v' at in let b = role.1 in omega arith) in
      let before : r.head ≤ r.tail = (let a = r.sums in omega arith) in
      let long = all.long in
      let tail_is = role.3 in
      let all_in : (q : ℕ) → q < m → is_in q (below_then m []) ≡ true = λ q lt. below_in m q [] lt in
      let of_hand : (q : ℕ) → is_in q (below_then m []) ≡ true → q < m = λ q e. ⊎_elim (λ (a : q < m). a) (λ (a : is_in q [] ≡ true). absurd (true≢false (sym a))) (in_below m q [] e) in
      let after : Standing M = record { words = s.words; places = m; head = r.head; tail = r.tail; name = z; holders = holders'; marks = marks'; count = 0 } in
      let mine : Knows mark label after id v' = record {
        hand = λ q e. (of_hand q e, refl);
        apart = below_distinct m [] tt (λ q e. absurd (true≢false (sym e)));
        same = λ q e. refl;
        head_seen = omega arith;
        tail_seen = omega arith;
        note = tt;
        role = (role.0, refl, sym tail_is, refl, tt, tt, (λ _. refl), λ q _ e. cc);
      } in
      let state : ShuffleRule mark label record { words = s.words; homes = homes'; views = set s.views id v' } = record {
        head = r.head;
        tail = r.tail;
        name = z;
        holders = holders';
        marks = marks';
        wide = r.wide ∙ ap (λ x. 32 + x + bell_words x) (sym long);
        head_is = r.head_is;
        tail_is = r.tail_is;
        sums = subst (λ x. r.head + sum_below x (λ q. weight (holders' q)) ≡ r.tail) (sym long) (let a = sum_same m (λ q. weight (r.holders q)) (λ q. weight (holders' q)) (λ q _. ap weight (sym (role.4 q))) in let b = r.sums in omega arith);
        barren = λ _. tail_is;
        each_place = λ q lt. let near : q < m = (let a = long in omega arith) in record {
          lies = all.out q near;
          rings = ap (λ x. bell_at s.words x q) long ∙ (r.each_place q near).rings ∙ ap bell (role.4 q);
          queued = tt;
        };
        blank = λ q le. ap (λ x. bell_at s.words x q) long ∙ r.blank q (omega arith);
        each_cell = λ c a b. absurd (omega arith);
        follows = subst (λ n. Follows s.words n r.head r.tail holders' marks' (set s.views id v')) (sym long) (follows_holders m r.marks s.views (set s.views id v') s.words r.head r.tail r.holders holders' marks' (λ q _. role.5 q)
            (λ q _ x a. ⊎_elim (λ (e : x ≡ idle). inr (role.0, e)) (λ (e : x ≡ held 0). inl (e ∙ ap held (sym role.0))) (subst (λ y. Agrees y x) (role.4 q) a)) r.follows
            (known_same r.follows.events s.views id start v' at refl refl (λ e. cc) r.follows.known));
        each_seat = subst (λ (x : ℕ × ℕ). (j : ℕ) (u : View T) → get_elem? (set s.views id v') j ≡ some u → Knows mark label (record after { places = x.0; count = x.1 }) j u) (λ i. (sym long i, sym count i))
            (λ j u e. ⊎_elim
            (λ (x : (j ≡ id) × (v' ≡ u)). subst (λ (x : ℕ × View T). Knows mark label after x.0 x.1) (λ i. (sym x.0 i, x.1 i)) mine)
            (λ (x : (j ≢ id) × (get_elem? s.views j ≡ some u)).
            let old = r.each_seat j u x.1 in
            idle_knows mark label (standing_of r) after j u (omega arith) (omega arith) old.note
            (alone r j u x.1 role.1 (λ e. x.0 (e ∙ sym role.0))) old)
            (at_set s.views id j v' u e));
        live = λ q j lt e. let here : j ≡ id = cc in (v', ap (get_elem? (set s.views id v')) here ∙ set_here s.views id v' (at_below s.views id start at), all_in q (omega arith));
      } in (
        v',
        take_act m,
        all.valid,
        subst (λ ws. ShuffleRule mark label record { words = ws; homes = homes'; views = set s.views id v' }) (sym same) state,
        told n m v' wide all.carried,
      )
    where
      told : (n m : ℕ) (v' : View T) → m ≡ n → carried_after (emptied {T = T} []) (take_act m) ≡ emptied (below_then m []) → named_as {T = T} z (step n 0 0 0 none) (naming z m, carried_after [] (take_act m))
      told n m v' e c = λ i. (naming z (e i), (c ∙ ap (λ x. emptied (below_then x [])) e) i)

  pub opens : (ws : List ℕ) (xs : List (std.Option T)) → length ws ≡ 32 + length xs + bell_words (length xs) → ((i : ℕ) → get_or ws i 0 ≡ 0) → ((q : ℕ) → q < length xs → get_elem? (map some xs) q ≡ some (some std.None)) → length (map some xs) ≡ length xs
      → ShuffleRule mark label (opening ws xs start)
  opens ws xs wide zeros slots long =
      let m : ℕ = length (map some xs) in
      let bells : (q : ℕ) → bell_at ws m q ≡ 0 = λ q. ap (λ x. bit_at x (q % 64)) (zeros (32 + m + q / 64)) ∙ bit_at-zero (q % 64) in
      let nothing : sum_below m (λ _. 0) ≡ 0 = (let a = sum_bound m 0 (λ _. 0) (λ _. omega arith) in omega arith) in record {
        head = 0;
        tail = 0;
        name = no_name;
        holders = λ _. nobody;
        marks = λ _. std.None;
        wide = wide ∙ ap (λ x. 32 + x + bell_words x) (sym long);
        head_is = zeros 0;
        tail_is = zeros 16;
        sums = omega arith;
        barren = λ _. refl;
        each_place = λ q lt. record { lies = slots q (omega arith); rings = bells q; queued = tt };
        blank = λ q _. bells q;
        each_cell = λ c a b. absurd (omega arith);
        follows = record { owners = no_requests; events = []; run = refl; places = λ _ _. inl refl; queue = refl; unmarked = λ _ _. ((λ _. refl), λ _. refl); due = λ _ _ h. absurd (h refl); known = known_start };
        each_seat = first m ws;
        live = λ q j lt e. cc;
      }
    where
      at_first : (m : ℕ) (ws : List ℕ) → Standing M
      at_first m ws = record { words = ws; places = m; head = 0; tail = 0; name = no_name; holders = λ _. nobody; marks = λ _. std.None; count = 0 }

      first : (m : ℕ) (ws : List ℕ) (j : ℕ) (u : View T) → get_elem? (start ∷ []) j ≡ some u → Knows mark label (at_first m ws) j u
      first m ws zero u e = subst (Knows mark label (at_first m ws) 0) (some-injective _ _ e) record {
        hand = λ q e. absurd (true≢false (sym e));
        apart = tt;
        same = λ q e. absurd (true≢false (sym e));
        head_seen = omega arith;
        tail_seen = omega arith;
        note = tt;
        role = (refl, refl, refl, refl, (λ _. refl), λ _. refl);
      }
      first m ws (suc j) u e = absurd (some-ne-none u (sym e))

  zeros : (n i : ℕ) → get_or (replicate {A = ℕ} n 0) i 0 ≡ 0
  zeros zero i = refl
  zeros (suc n) zero = refl
  zeros (suc n) (suc i) = zeros n i

  length-replicate : {A : Type 0} (n : ℕ) (a : A) → length (replicate n a) ≡ n
  length-replicate zero a = refl
  length-replicate (suc n) a = ap suc (length-replicate n a)

  length-somes : {A : Type 0} (xs : List A) → length (map some xs) ≡ length xs
  length-somes [] = refl
  length-somes (x ∷ xs) = ap suc (length-somes xs)

  at_somes : {A : Type 0} (n q : ℕ) (a : A) → q < n → get_elem? (map some (replicate n a)) q ≡ some (some a)
  at_somes zero q a lt = absurd (omega arith)
  at_somes (suc n) zero a lt = refl
  at_somes (suc n) (suc q) a lt = at_somes n q a (omega arith)

  pub opens_as : (m : ℕ) (ws : List ℕ) → ws ≡ replicate {A = ℕ} (32 + m + bell_words m) 0 → ShuffleRule mark label (opening ws (replicate {A = std.Option T} m std.None) start)
  opens_as m ws is =
      let long : length (replicate {A = std.Option T} m std.None) ≡ m = length-replicate m std.None in
      opens ws (replicate m std.None)
      (ap length is ∙ length-replicate (32 + m + bell_words m) 0 ∙ sym (ap (λ x. 32 + x + bell_words x) long))
      (λ i. ap (λ l. get_or l i 0) is ∙ zeros (32 + m + bell_words m) i)
      (λ q lt. at_somes m q std.None (omega arith))
      (length-somes (replicate m std.None))

  pub names_as : (n id : ℕ) (z : Name) (me : Seated T) → me ≡ (start, []) → Allows (ShuffleRule mark label) n id me 0 (λ y. y) (λ _ m. named_as z (step n 0 0 0 none) m)
  names_as n id z me is = subst (λ (m : Seated T). Allows (ShuffleRule mark label) n id m 0 (λ y. y) (λ _ w. named_as z (step n 0 0 0 none) w)) (sym is) (names n id z)
