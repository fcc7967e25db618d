-- The parts of the rule that stay when a seat makes a step that changes at most one place.
use Rattle.std.proofs.Common.{◌≡◌, ◌≢◌, ℕ, suc, ◌+◌, ◌*◌, ◌<◌, ◌≤◌, List, length, get_or, set, true, refl, sym, ap, ◌∙◌, subst, ⊎_elim, le_trans, arith, length-set}
use Rattle.std.specs.Prelude as std
use mathlib.Core.Option.{Option, some, some-injective}
use mathlib.Core.Logic.{dite}
use native.Mathlib.Decide.{ℕ_discrete}
use lib.ListN.{get_elem?}
use Rattle.atomic_table.proofs.Lists.{at_set, set_here, set_else}
use Rattle.zy_shuffle.specs.Follow.{Follows}
use Rattle.zy_shuffle.proofs.FollowLemmas.{follows_else}
use Rattle.zy_shuffle.proofs.KnownLemmas.{not_spent, known_same}
use Rattle.zy_shuffle.proofs.HandLemmas.{cores_set}
use Rattle.zy_shuffle.proofs.RoleLemmas.{IsRoleOf, lone, other_core, standing_of}
use Rattle.zy_shuffle.specs.Holder.{Holder, at_bell, bell, core_count, cores, in_hand, in_queue, nobody, weight}
use Rattle.zy_shuffle.specs.ShuffleRule.{RingState, InQueue, IsNote, IsRole, IsRung, IsStored, Knows, Lies, PlaceRule, ShuffleRule, Standing}
use Rattle.zy_shuffle.specs.HomeRole.{IsActive}
use Rattle.zy_shuffle.specs.Word.{bell_at, bell_words, cell}
use Rattle.zy_shuffle.specs.declared.ring.view.Role.{Role}
use Rattle.zy_shuffle.specs.declared.ring.view.Role.TheVariants.{Closed, Core, Home, Spent, Start}
use Rattle.zy_shuffle.specs.declared.ring.view.View.{View}
use Rattle.zy_table.proofs.PutLemmas.{at_put, put_else, put_here}
use Rattle.zy_table.proofs.SlotLemmas.{at_below}
use Rattle.zy_table.proofs.SumLemmas.{sum_changed}
use Rattle.zy_table.specs.Member.{is_in}
use Rattle.zy_table.specs.Put.{put}
use Rattle.zy_table.specs.Sum.{sum_below}
use Rattle.zy_table.specs.declared.name.Name.{Name}

module _ {T M : Type 0} (mark : T → M) (label : T → Name) where
  lies_else : (hs hs' : List (Option (std.Option T))) (marks marks' : ℕ → std.Option M) (z : Name) (q : ℕ) (x : Holder) → get_elem? hs' q ≡ get_elem? hs q → marks' q ≡ marks q → Lies mark label hs marks z q x → Lies mark label hs' marks' z q x
  lies_else hs hs' marks marks' z q nobody e f h = e ∙ h
  lies_else hs hs' marks marks' z q (in_queue k) e f h = (h.0, e ∙ h.1, f ∙ h.2, h.3)
  lies_else hs hs' marks marks' z q (in_hand j) e f h = e ∙ h
  lies_else hs hs' marks marks' z q at_bell e f h = (h.0, e ∙ h.1, f ∙ h.2, h.3)

  queued_else : (ws ws' : List ℕ) (head head' tail tail' m q : ℕ) (x : Holder) → ((k : ℕ) → x ≡ in_queue k → head' ≤ k) → tail ≤ tail' → ((k : ℕ) → head ≤ k → k < tail → cell ws' m k ≡ cell ws m k) → InQueue ws head tail m q x → InQueue ws' head' tail' m q x
  queued_else ws ws' head head' tail tail' m q nobody l t c h = tt
  queued_else ws ws' head head' tail tail' m q (in_queue k) l t c h = (l k refl, (let a = h.1 in omega arith), c k h.0 h.1 ∙ h.2)
  queued_else ws ws' head head' tail tail' m q (in_hand j) l t c h = tt
  queued_else ws ws' head head' tail tail' m q at_bell l t c h = tt

  pub note_else : (ws ws' : List ℕ) (head head' tail tail' m : ℕ) (x : std.Option (ℕ × ℕ)) → head ≤ head' → tail ≤ tail' → ((k : ℕ) → head ≤ k → k < tail → cell ws' m k ≡ cell ws m k) → IsNote ws head tail m x → IsNote ws' head' tail' m x
  note_else ws ws' head head' tail tail' m std.None hh tt' c h = tt
  note_else ws ws' head head' tail tail' m (std.Some x) hh tt' c h = ((let a = h.0 in omega arith), (λ le. let near : head ≤ x.0 = omega arith in c x.0 near h.0 ∙ h.1 near))

  pub rung_else : (m : ℕ) (holders holders' : ℕ → Holder) (x : std.Option (ℕ × ℕ)) → ((q : ℕ) → holders q ≡ at_bell → holders' q ≡ at_bell) → IsRung m holders x → IsRung m holders' x
  rung_else m holders holders' std.None f h = tt
  rung_else m holders holders' (std.Some x) f h = λ i lt e. let a = h i lt e in (a.0, f (64 * x.0 + i) a.1)

  module _ (s : RingState T) (r : ShuffleRule mark label s) (id p : ℕ) (v v' : View T) (i w : ℕ) (homes' : List (Option (std.Option T))) (x' : Holder) (mk' : std.Option M) (head' tail' : ℕ) where
    abbrev Ws : List ℕ
    Ws = set s.words i w

    abbrev Size : ℕ
    Size = length s.homes

    abbrev Holders : ℕ → Holder
    Holders = put r.holders p x'

    abbrev Marks : ℕ → std.Option M
    Marks = put r.marks p mk'

    -- how the table stands after the step
    abbrev After : Standing M
    After = record (standing_of r) { words = Ws; head = head'; tail = tail'; holders = Holders; marks = Marks }

    -- one place changes, and no cell does
    pub record Move : Type 0 where
      pub at : get_elem? s.views id ≡ some v
      pub near : p < Size
      pub mine : (j : ℕ) → r.holders p ≡ in_hand j → j ≡ id
      pub kind : core_count v'.role ≡ core_count v.role
      pub active : IsActive v.role
      pub long : length homes' ≡ Size
      pub homes_else : (q : ℕ) → q ≢ p → get_elem? homes' q ≡ get_elem? s.homes q
      pub heads : r.head ≤ head'
      pub tails : r.tail ≤ tail'
      pub head_now : get_or Ws 0 0 ≡ head'
      pub tail_now : get_or Ws 16 0 ≡ tail'
      pub cells : (k : ℕ) → r.head ≤ k → k < suc r.tail → cell Ws Size k ≡ cell s.words Size k
      pub rings : (q : ℕ) → q ≢ p → bell_at Ws Size q ≡ bell_at s.words Size q
      pub later : (q k : ℕ) → q ≢ p → q < Size → r.holders q ≡ in_queue k → head' ≤ k
      pub sum : head' + weight x' + r.tail ≡ tail' + r.head + weight (r.holders p)
      pub lies : Lies mark label homes' Marks r.name p x'
      pub ring : bell_at Ws Size p ≡ bell x'
      pub queued : InQueue Ws head' tail' Size p x'
      pub cell_now : (k : ℕ) → head' ≤ k → k < tail' → (cell Ws Size k < Size) × (Holders (cell Ws Size k) ≡ in_queue k)
      pub quiet : v.role ≡ Core → (tail' ≡ r.tail) × (r.holders p ≡ at_bell → ⊥) × (mk' ≡ r.marks p) × (x' ≡ nobody → ⊥)
      pub knows : Knows mark label After id v'
      pub follows : Follows Ws Size head' tail' Holders Marks (set s.views id v')
      pub live_here : (j : ℕ) → x' ≡ in_hand j → (j ≡ id) × (is_in p v'.hand ≡ true)
      pub live_else : (q : ℕ) → q ≢ p → is_in q v.hand ≡ true → is_in q v'.hand ≡ true

    module _ (h : Move) where
      others_role : (j : ℕ) (u : View T) (x : Role) → j ≢ id → IsRoleOf r j u x → IsRole mark label After j u x
      others_role j u Spent ne k = k
      others_role j u Start ne k = absurd (lone r id v h.at h.active j ne k.0 k.1)
      others_role j u Core ne k = k
      others_role j u (Home t st nt out) ne k =
          let q = h.quiet (other_core r id v h.at h.active j ne k.0) in
          let here : r.head ≤ r.tail = (let a = r.sums in omega arith) in (
            k.0,
            k.1,
            k.2 ∙ sym q.0,
            k.3,
            stored st q.0 (h.cells r.tail here (omega arith)) k.4,
            rung_else Size r.holders Holders nt (λ y e. at_put r.holders p x' (λ a b. r.holders a ≡ at_bell → b ≡ at_bell) y (λ f. absurd (q.1 f)) (λ _ f. f) e) k.5,
            (λ y. k.6 y ∙ sym (at_put r.marks p mk' (λ a b. b ≡ r.marks a) y q.2 (λ _. refl))),
            λ y lt. at_put r.holders p x' (λ a b. b ≡ nobody → ⊥) y q.3 (λ _. k.7 y lt),
          )
        where
          stored : (st : std.Option ℕ) → tail' ≡ r.tail → cell Ws Size r.tail ≡ cell s.words Size r.tail → IsStored s.words r.head r.tail Size st → IsStored Ws head' tail' Size st
          stored std.None e c k = tt
          stored (std.Some y) e c k = ap (cell Ws Size) e ∙ c ∙ k
      others_role j u (Closed gone) ne k = absurd (lone r id v h.at h.active j ne k.0 k.1)

      others : (j : ℕ) (u : View T) → j ≢ id → Knows mark label (standing_of r) j u → Knows mark label After j u
      others j u ne k =
          let apart : (q : ℕ) → is_in q u.hand ≡ true → q ≢ p = λ q e f. ne (h.mine j (ap r.holders (sym f) ∙ (k.hand q e).1)) in record {
            hand = λ q e. ((k.hand q e).0, put_else r.holders p x' q (apart q e) ∙ (k.hand q e).1);
            apart = k.apart;
            same = λ q e. k.same q e ∙ sym (put_else r.marks p mk' q (apart q e));
            head_seen = le_trans k.head_seen h.heads;
            tail_seen = le_trans k.tail_seen h.tails;
            note = note_else s.words Ws r.head head' r.tail tail' Size u.note h.heads h.tails (λ y a b. h.cells y a (omega arith)) k.note;
            role = others_role j u u.role ne k.role;
          }

      pub moved : ShuffleRule mark label record { words = Ws; homes = homes'; views = set s.views id v' }
      moved =
          let count : cores (set s.views id v') ≡ cores s.views = (let a = cores_set s.views id v v' h.at in let b = h.kind in omega arith) in record {
            head = head';
            tail = tail';
            name = r.name;
            holders = Holders;
            marks = Marks;
            wide = length-set s.words i w ∙ r.wide ∙ sym (ap (λ n. 32 + n + bell_words n) h.long);
            head_is = h.head_now;
            tail_is = h.tail_now;
            sums = let a = sum_changed Size p (λ q. weight (r.holders q)) (λ q. weight (Holders q)) h.near (λ q ne. ap weight (put_else r.holders p x' q ne)) in
                let b = ap weight (put_here r.holders p x') in let c = h.sum in let d = r.sums in
                subst (λ n. head' + sum_below n (λ q. weight (Holders q)) ≡ tail') (sym h.long) (omega arith);
            barren = λ e. let a = h.near in let b = h.long in absurd (omega arith);
            each_place = λ q lt. subst (λ n. q < n → PlaceRule mark label Ws homes' head' tail' Marks r.name q (Holders q)) (sym h.long)
                (λ less. at_put r.holders p x' (λ a b. a < Size → PlaceRule mark label Ws homes' head' tail' Marks r.name a b) q
                (λ _. record { lies = h.lies; rings = ap (λ n. bell_at Ws n p) h.long ∙ h.ring; queued = subst (λ n. InQueue Ws head' tail' n p x') (sym h.long) h.queued })
                (λ ne near. let old = r.each_place q near in record {
                  lies = lies_else s.homes homes' r.marks Marks r.name q (r.holders q) (h.homes_else q ne) (put_else r.marks p mk' q ne) old.lies;
                  rings = ap (λ n. bell_at Ws n q) h.long ∙ h.rings q ne ∙ old.rings;
                  queued = subst (λ n. InQueue Ws head' tail' n q (r.holders q)) (sym h.long) (queued_else s.words Ws r.head head' r.tail tail' Size q (r.holders q) (λ k e. h.later q k ne near e) h.tails (λ y a b. h.cells y a (omega arith)) old.queued);
                }) less) lt;
            blank = λ q le. let a = h.near in let b = h.long in ap (λ n. bell_at Ws n q) h.long ∙ h.rings q (λ e. omega arith) ∙ r.blank q (omega arith);
            each_cell = subst (λ n. (k : ℕ) → head' ≤ k → k < tail' → (cell Ws n k < n) × (Holders (cell Ws n k) ≡ in_queue k)) (sym h.long) h.cell_now;
            each_seat = subst (λ (y : ℕ × ℕ). (j : ℕ) (u : View T) → get_elem? (set s.views id v') j ≡ some u → Knows mark label (record After { places = y.0; count = y.1 }) j u) (λ i. (sym h.long i, sym count i))
                (λ j u e. ⊎_elim
                (λ (y : (j ≡ id) × (v' ≡ u)). subst (λ (y : ℕ × View T). Knows mark label After y.0 y.1) (λ i. (sym y.0 i, y.1 i)) h.knows)
                (λ (y : (j ≢ id) × (get_elem? s.views j ≡ some u)). others j u y.0 (r.each_seat j u y.1))
                (at_set s.views id j v' u e));
            follows = subst (λ n. Follows Ws n head' tail' Holders Marks (set s.views id v')) (sym h.long) h.follows;
            live = λ q j lt. at_put r.holders p x' (λ a b. a < length homes' → b ≡ in_hand j → (u : View T) × (get_elem? (set s.views id v') j ≡ some u) × (is_in a u.hand ≡ true)) q
                (λ _ e. let l = h.live_here j e in (v', ap (get_elem? (set s.views id v')) l.0 ∙ set_here s.views id v' (at_below s.views id v h.at), l.1))
                (λ ne less e. let long = h.long in let old = r.live q j (omega arith) e in dite (ℕ_discrete j id)
                (λ is. let same : v ≡ old.0 = some-injective _ _ (sym h.at ∙ ap (get_elem? s.views) (sym is) ∙ old.1) in
                (v', ap (get_elem? (set s.views id v')) is ∙ set_here s.views id v' (at_below s.views id v h.at), h.live_else q ne (ap (λ (y : View T). is_in q y.hand) same ∙ old.2)))
                (λ no. (old.0, set_else s.views id j v' no ∙ old.1, old.2))) lt;
          }

  -- no place changes, and no slot does
  module _ (s : RingState T) (r : ShuffleRule mark label s) (id : ℕ) (v v' : View T) (i w : ℕ) where
    abbrev Wz : List ℕ
    Wz = set s.words i w

    abbrev Zize : ℕ
    Zize = length s.homes

    -- how the table stands after the step
    abbrev Afterwards : Standing M
    Afterwards = record (standing_of r) { words = Wz }

    pub record Look : Type 0 where
      pub at : get_elem? s.views id ≡ some v
      pub kind : core_count v'.role ≡ core_count v.role
      pub active : IsActive v.role
      pub head_now : get_or Wz 0 0 ≡ r.head
      pub tail_now : get_or Wz 16 0 ≡ r.tail
      pub cells : (k : ℕ) → r.head ≤ k → k < r.tail → cell Wz Zize k ≡ cell s.words Zize k
      pub rings : (q : ℕ) → bell_at Wz Zize q ≡ bell_at s.words Zize q
      pub quiet : v.role ≡ Core → cell Wz Zize r.tail ≡ cell s.words Zize r.tail
      pub knows : Knows mark label Afterwards id v'
      pub live : (q : ℕ) → is_in q v.hand ≡ true → is_in q v'.hand ≡ true
      pub run : v'.trace.run ≡ v.trace.run
      pub seats : v'.trace.seats ≡ v.trace.seats

    module _ (h : Look) where
      lookers_role : (j : ℕ) (u : View T) (x : Role) → j ≢ id → IsRoleOf r j u x → IsRole mark label Afterwards j u x
      lookers_role j u Spent ne k = k
      lookers_role j u Start ne k = absurd (lone r id v h.at h.active j ne k.0 k.1)
      lookers_role j u Core ne k = k
      lookers_role j u (Home t st nt out) ne k =
          let q = h.quiet (other_core r id v h.at h.active j ne k.0) in
          (k.0, k.1, k.2, k.3, stored st q k.4, k.5, k.6, k.7)
        where
          stored : (st : std.Option ℕ) → cell Wz Zize r.tail ≡ cell s.words Zize r.tail → IsStored s.words r.head r.tail Zize st → IsStored Wz r.head r.tail Zize st
          stored std.None c k = tt
          stored (std.Some y) c k = c ∙ k
      lookers_role j u (Closed gone) ne k = absurd (lone r id v h.at h.active j ne k.0 k.1)

      lookers : (j : ℕ) (u : View T) → j ≢ id → Knows mark label (standing_of r) j u → Knows mark label Afterwards j u
      lookers j u ne k = record {
        hand = k.hand;
        apart = k.apart;
        same = k.same;
        head_seen = k.head_seen;
        tail_seen = k.tail_seen;
        note = note_else s.words Wz r.head r.head r.tail r.tail Zize u.note (omega arith) (omega arith) h.cells k.note;
        role = lookers_role j u u.role ne k.role;
      }

      pub looked_on : ShuffleRule mark label record { words = Wz; homes = s.homes; views = set s.views id v' }
      looked_on =
          let count : cores (set s.views id v') ≡ cores s.views = (let a = cores_set s.views id v v' h.at in let b = h.kind in omega arith) in record {
            head = r.head;
            tail = r.tail;
            name = r.name;
            holders = r.holders;
            marks = r.marks;
            wide = length-set s.words i w ∙ r.wide;
            head_is = h.head_now;
            tail_is = h.tail_now;
            sums = r.sums;
            barren = r.barren;
            each_place = λ q lt. let old = r.each_place q lt in record {
              lies = old.lies;
              rings = h.rings q ∙ old.rings;
              queued = queued_else s.words Wz r.head r.head r.tail r.tail Zize q (r.holders q) (λ k e. queued_from q k (r.holders q) e old.queued) (omega arith) h.cells old.queued;
            };
            blank = λ q le. h.rings q ∙ r.blank q le;
            each_cell = λ k a b. subst (λ c. (c < Zize) × (r.holders c ≡ in_queue k)) (sym (h.cells k a b)) (r.each_cell k a b);
            each_seat = subst (λ (n : ℕ). (j : ℕ) (u : View T) → get_elem? (set s.views id v') j ≡ some u → Knows mark label (record Afterwards { count = n }) j u) (sym count)
                (λ j u e. ⊎_elim
                (λ (y : (j ≡ id) × (v' ≡ u)). subst (λ (y : ℕ × View T). Knows mark label Afterwards y.0 y.1) (λ i. (sym y.0 i, y.1 i)) h.knows)
                (λ (y : (j ≢ id) × (get_elem? s.views j ≡ some u)). lookers j u y.0 (r.each_seat j u y.1))
                (at_set s.views id j v' u e));
            follows = follows_else Zize r.marks s.views (set s.views id v') s.words Wz r.head r.tail r.holders (let a = r.sums in omega arith) h.cells r.follows
                (known_same r.follows.events s.views id v v' h.at h.run h.seats (λ e. absurd (not_spent v.role h.active e)) r.follows.known);
            live = λ q j lt e. let old = r.live q j lt e in dite (ℕ_discrete j id)
                (λ is. let same : v ≡ old.0 = some-injective _ _ (sym h.at ∙ ap (get_elem? s.views) (sym is) ∙ old.1) in
                (v', ap (get_elem? (set s.views id v')) is ∙ set_here s.views id v' (at_below s.views id v h.at), h.live q (ap (λ (y : View T). is_in q y.hand) same ∙ old.2)))
                (λ no. (old.0, set_else s.views id j v' no ∙ old.1, old.2));
          }
        where
          queued_from : (q k : ℕ) (x : Holder) → x ≡ in_queue k → InQueue s.words r.head r.tail Zize q x → r.head ≤ k
          queued_from q k nobody e l = cc
          queued_from q k (in_queue y) e l = let a : y ≡ k = cc in let b = l.0 in omega arith
          queued_from q k (in_hand y) e l = cc
          queued_from q k at_bell e l = cc
