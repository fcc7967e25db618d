-- The last load of the home, and what holds at the end.
use Rattle.std.proofs.Common.{inl, inr}
use Rattle.zy_shuffle.specs.Ownership.{idle, held}
use Rattle.zy_shuffle.specs.Follow.{Agrees, Follows}
use Rattle.zy_shuffle.proofs.FollowLemmas.{follows_holders}
use Rattle.zy_shuffle.proofs.KnownLemmas.{known_same}
use Rattle.std.proofs.Common.{◌≡◌, ◌≢◌, ℕ, ◌+◌, ◌<◌, ◌≤◌, List, [], length, get_or, set, cond, Bool, true, false, true≢false, refl, sym, ap, ◌∙◌, subst, ⊎_elim, arith}
use Rattle.std.specs.Prelude as std
use mathlib.Core.Option.{Option, some, some-injective}
use mathlib.Core.Logic.{dite}
use native.Mathlib.Decide.{ℕ_discrete}
use lib.ListN.{get_elem?}
use lib.Seq.{set-get_or}
use Rattle.atomic_table.specs.Table.{Act, stepped, carried_after, homes_after, Valid, Allows, Final, Seen}
use Rattle.atomic_table.proofs.Lists.{at_set}
use Rattle.zy_shuffle.proofs.HandLemmas.{cores_set, give_act, gives_all}
use Rattle.zy_shuffle.specs.Hand.{emptied, marked}
use Rattle.zy_shuffle.specs.Holder.{Holder, IsInTable, at_bell, bell, core_count, cores, in_hand, in_queue, nobody, weight}
use Rattle.zy_shuffle.specs.ShuffleRule.{HasBlock, InQueue, Knows, Lies, ShuffleRule, Standing}
use Rattle.zy_shuffle.specs.Step.{Seated, closed, closing}
use Rattle.zy_shuffle.specs.Word.{bell_at, bell_words, cell}
use Rattle.zy_shuffle.specs.declared.ring.view.Role.TheVariants.{Closed, Home, Spent}
use Rattle.zy_shuffle.specs.declared.ring.view.View.{View}
use Rattle.zy_table.proofs.SlotLemmas.{at_end}
use Rattle.zy_table.proofs.SumLemmas.{sum_same}
use Rattle.zy_table.specs.Member.{is_in}
use Rattle.zy_table.specs.Sum.{sum_below}
use Rattle.zy_table.specs.declared.name.Name.{Name}
use Rattle.zy_shuffle.proofs.IdleLemmas.{idle_knows, shut_slot}
use Rattle.zy_shuffle.proofs.RoleLemmas.{alone, role_is, standing_of}

-- the places of this hand no longer have a holder
pub shut_in : List ℕ → (ℕ → Holder) → ℕ → Holder
shut_in hand f q = cond (is_in q hand) nobody (f q)

at_shut : (hand : List ℕ) (f : ℕ → Holder) (P : Holder → Type 0) (q : ℕ) → (is_in q hand ≡ true → P nobody) → (is_in q hand ≡ false → P (f q)) → P (shut_in hand f q)
unfolding shut_in
at_shut hand f P q in_it out = go (is_in q hand) in_it out
  where
    go : (b : Bool) → (b ≡ true → P nobody) → (b ≡ false → P (f q)) → P (cond b nobody (f q))
    go true in_it out = in_it refl
    go false in_it out = out refl

full_of : (x : Holder) → (x ≡ nobody → ⊥) → ((j : ℕ) → x ≡ in_hand j → ⊥) → IsInTable x
full_of nobody a b = a refl
full_of (in_queue k) a b = tt
full_of (in_hand j) a b = b j refl
full_of at_bell a b = tt

module _ {T M : Type 0} (mark : T → M) (label : T → Name) where
  -- the last load of the home brings all slots back
  pub shuts : (n id t out : ℕ) (st : std.Option ℕ) (nt : std.Option (ℕ × ℕ)) (me : Seated T) → me.1 ≡ emptied me.0.hand → me.0.role ≡ Home t st nt out → out ≡ 0 → Allows (ShuffleRule mark label) n id me 0 (λ y. y) (λ _ m. closed me m)
  shuts n id t out st nt me is_out is_home none_out s r wide at _ =
      let m : ℕ = length s.homes in
      let y : ℕ = get_or s.words 0 0 in
      let v : View T = me.0 in
      let k = r.each_seat id v at in
      let home = role_is r id v at is_home in
      let zero_cores : cores s.views ≡ 0 = home.3 ∙ none_out in
      let same : set s.words 0 y ≡ s.words = set-get_or s.words 0 0 in
      let all = gives_all s.homes v.hand in
      let homes' : List (Option (std.Option T)) = homes_after s.homes (emptied v.hand) (give_act v.hand) in
      let long = all.long in
      let v' : View T = closing v in
      let holders' : ℕ → Holder = shut_in v.hand r.holders in
      let count : cores (set s.views id v') ≡ 0 = (let a = cores_set s.views id v v' at in let b = ap core_count is_home in omega arith) in
      let others_idle : (j : ℕ) (u : View T) → j ≢ id → get_elem? s.views j ≡ some u → (u.role ≡ Spent) × (u.hand ≡ []) = λ j u ne e.
      alone r j u e zero_cores (λ f. ne (f ∙ sym home.0)) in
      let not_away : (q : ℕ) → q < m → is_in q v.hand ≡ false → (j : ℕ) → r.holders q ≡ in_hand j → ⊥ = λ q lt out j e.
      let l = r.live q j lt e in dite (ℕ_discrete j id)
      (λ f. let same : v ≡ l.0 = some-injective _ _ (sym at ∙ ap (get_elem? s.views) (sym f) ∙ l.1) in true≢false (sym l.2 ∙ ap (λ (x : View T). is_in q x.hand) (sym same) ∙ out))
      (λ ne. true≢false (sym l.2 ∙ ap (is_in q) (others_idle j l.0 ne l.1).1)) in
      let after : Standing M = record (standing_of r) { holders = holders'; count = 0 } in
      let mine : Knows mark label after id v' = record {
        hand = λ q e. absurd (true≢false (sym e));
        apart = tt;
        same = λ q e. absurd (true≢false (sym e));
        head_seen = k.head_seen;
        tail_seen = k.tail_seen;
        note = k.note;
        role = (
          home.0,
          refl,
          home.1,
          refl,
          home.6,
          (λ q lt e. at_shut v.hand r.holders (λ x. x ≡ nobody) q (λ _. refl) (λ f. absurd (true≢false (sym e ∙ f)))),
          (λ q lt e. at_shut v.hand r.holders IsInTable q (λ f. absurd (true≢false (sym f ∙ e))) (λ _. full_of (r.holders q) (home.7 q lt) (not_away q lt e))),
        );
      } in
      let state : ShuffleRule mark label record { words = s.words; homes = homes'; views = set s.views id v' } = record {
        head = r.head;
        tail = r.tail;
        name = r.name;
        holders = holders';
        marks = r.marks;
        wide = r.wide ∙ ap (λ x. 32 + x + bell_words x) (sym long);
        head_is = r.head_is;
        tail_is = r.tail_is;
        sums = subst (λ x. r.head + sum_below x (λ q. weight (holders' q)) ≡ r.tail) (sym long)
            (let a = sum_same m (λ q. weight (r.holders q)) (λ q. weight (holders' q)) (λ q _. at_shut v.hand r.holders (λ x. weight x ≡ weight (r.holders q)) q (λ e. ap weight (sym (k.hand q e).1)) (λ _. refl)) in let b = r.sums in omega arith);
        barren = λ e. r.barren (sym long ∙ e);
        follows = subst (λ n. Follows s.words n r.head r.tail holders' r.marks (set s.views id v')) (sym long) (follows_holders m r.marks s.views (set s.views id v') s.words r.head r.tail r.holders holders' r.marks (λ _ _. refl)
            (λ q _ x a. at_shut v.hand r.holders (λ y. Agrees y x) q
            (λ e. ⊎_elim (λ (f : x ≡ held id). inr (f ∙ ap held home.0)) (λ (f : (id ≡ 0) × (x ≡ idle)). inl f.1) (subst (λ y. Agrees y x) (k.hand q e).1 a))
            (λ _. a)) r.follows
            (known_same r.follows.events s.views id v v' at refl refl (λ e. let a = sym is_home ∙ e in cc) r.follows.known));
        each_place = λ q lt. let near : q < m = (let a = long in omega arith) in let old = r.each_place q near in record {
          lies = at_shut v.hand r.holders (Lies mark label homes' r.marks r.name q) q (λ e. all.back q e near) (λ e. kept_lies s.homes homes' r.marks r.name q (r.holders q) (all.others q e) old.lies);
          rings = at_shut v.hand r.holders (λ x. bell_at s.words (length homes') q ≡ bell x) q (λ e. ap (λ x. bell_at s.words x q) long ∙ old.rings ∙ ap bell (k.hand q e).1) (λ _. ap (λ x. bell_at s.words x q) long ∙ old.rings);
          queued = at_shut v.hand r.holders (InQueue s.words r.head r.tail (length homes') q) q (λ _. tt) (λ _. subst (λ x. InQueue s.words r.head r.tail x q (r.holders q)) (sym long) old.queued);
        };
        blank = λ q le. ap (λ x. bell_at s.words x q) long ∙ r.blank q (omega arith);
        each_cell = subst (λ x. (c : ℕ) → r.head ≤ c → c < r.tail → (cell s.words x c < x) × (holders' (cell s.words x c) ≡ in_queue c)) (sym long)
            (λ c a b. let l = r.each_cell c a b in (l.0, at_shut v.hand r.holders (λ x. x ≡ in_queue c) (cell s.words m c) (λ e. let f = (k.hand (cell s.words m c) e).1 in let g : in_queue c ≡ in_hand id = sym l.1 ∙ f in cc) (λ _. l.1)));
        each_seat = subst (λ (x : ℕ × ℕ). (j : ℕ) (u : View T) → get_elem? (set s.views id v') j ≡ some u → Knows mark label (record after { places = x.0; count = x.1 }) j u) (λ i. (sym long i, sym count i))
            (λ j u e. ⊎_elim
            (λ (x : (j ≡ id) × (v' ≡ u)). subst (λ (x : ℕ × View T). Knows mark label after x.0 x.1) (λ i. (sym x.0 i, x.1 i)) mine)
            (λ (x : (j ≢ id) × (get_elem? s.views j ≡ some u)). let old = r.each_seat j u x.1 in
            idle_knows mark label (standing_of r) after j u (omega arith) (omega arith) old.note (others_idle j u x.0 x.1) old)
            (at_set s.views id j v' u e));
        live = λ q j lt. at_shut v.hand r.holders (λ x. x ≡ in_hand j → (u : View T) × (get_elem? (set s.views id v') j ≡ some u) × (is_in q u.hand ≡ true)) q (λ _ e. cc) (λ e f. absurd (not_away q (omega arith) e j f));
      } in
      subst (λ (cs : List (ℕ × std.Option T)). (w : View T) × (a : Act (std.Option T)) × Valid s.homes cs a × ShuffleRule mark label (stepped s 0 y id cs w a) × closed me (w, carried_after cs a)) (sym is_out)
      (v', give_act v.hand, all.valid, subst (λ ws. ShuffleRule mark label record { words = ws; homes = homes'; views = set s.views id v' }) (sym same) state, (λ i. (v', all.carried i)))
    where
      kept_lies : (hs hs' : List (Option (std.Option T))) (marks : ℕ → std.Option M) (z : Name) (q : ℕ) (x : Holder) → get_elem? hs' q ≡ get_elem? hs q → Lies mark label hs marks z q x → Lies mark label hs' marks z q x
      kept_lies hs hs' marks z q nobody e h = e ∙ h
      kept_lies hs hs' marks z q (in_queue k) e h = (h.0, e ∙ h.1, h.2, h.3)
      kept_lies hs hs' marks z q (in_hand j) e h = e ∙ h
      kept_lies hs hs' marks z q at_bell e h = (h.0, e ∙ h.1, h.2, h.3)

  full_lies : (hs : List (Option (std.Option T))) (marks : ℕ → std.Option M) (z : Name) (q : ℕ) (x : Holder) → IsInTable x → Lies mark label hs marks z q x → HasBlock mark label hs marks z q
  full_lies hs marks z q nobody a h = absurd a
  full_lies hs marks z q (in_queue k) a h = h
  full_lies hs marks z q (in_hand j) a h = absurd a
  full_lies hs marks z q at_bell a h = h

  -- the contents of the slots at the end
  pub record Ended (v : View T) (gone : List ℕ) (xs : List (std.Option T)) : Type 0 where
    pub taken : (q : ℕ) → q < length xs → is_in q gone ≡ true → get_elem? xs q ≡ some std.None
    pub full : (q : ℕ) → q < length xs → is_in q gone ≡ false → (b : T) × (get_elem? xs q ≡ some (std.Some b)) × (marked mark q v.kept ≡ std.Some (mark b)) × (label b ≡ v.label)

  pub closes : (ws : List ℕ) (xs : List (std.Option T)) (id : ℕ) (v : View T) (gone : List ℕ) → v.role ≡ Closed gone → Final (Seen (ShuffleRule mark label) id v) ws xs → Ended v gone xs
  closes ws xs id v gone is_closed (s, at_end, words, long, final) =
      let r : ShuffleRule mark label s = at_end.0 in
      let m : ℕ = length s.homes in
      let end = role_is r id v at_end.1 is_closed in record {
        taken = λ q lt e. let near : q < m = omega arith in final q std.None (shut_slot mark label s.homes r.marks r.name q (r.holders q) (end.5 q near e) (r.each_place q near).lies);
        full = λ q lt e. let near : q < m = omega arith in
            let has = full_lies s.homes r.marks r.name q (r.holders q) (end.6 q near e) (r.each_place q near).lies in
            (has.0, final q (std.Some has.0) has.1, end.4 q ∙ has.2, has.3 ∙ sym end.2);
      }
