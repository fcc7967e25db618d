-- The exchange of the head: it takes the first place of the queue.
use Rattle.zy_shuffle.proofs.FollowLemmas.{follows_claim}
use Rattle.zy_shuffle.proofs.KnownLemmas.{between, since_is, may_follow, known_more}
use Rattle.zy_shuffle.specs.declared.ring.view.Event.{Event}
use Rattle.zy_shuffle.specs.declared.ring.view.Event.TheVariants.{Claim}
use Rattle.std.proofs.Common.{◌≡◌, ◌≢◌, ℕ, ◌+◌, ◌/◌, ◌%◌, ◌<◌, List, [], ◌∷◌, length, get_or, set, eqb, true, false, true≢false, refl, sym, ap, ◌∙◌, subst, ⊎_elim, arith, length-set, get_or-set_other, get_or-set_same}
use Rattle.std.specs.Prelude as std
use mathlib.Core.Option.{none}
use mathlib.Core.Logic.{dite}
use native.Mathlib.Decide.{ℕ_discrete}
use prog.Atomic.{either}
use Rattle.std.specs.Int.{bit_at}
use Rattle.atomic_table.specs.Table.{step, takes, Allows}
use Rattle.atomic_table.proofs.Lists.{set_here, set_else, exchanged}
use Rattle.zy_shuffle.proofs.HandLemmas.{marked_else, marked_here}
use Rattle.zy_shuffle.proofs.LookLemmas.{Goes, misses}
use Rattle.zy_shuffle.proofs.MoveLemmas.{moved, rung_else}
use Rattle.zy_shuffle.proofs.RoleLemmas.{IsRoleOf, kept_of, standing_of, tag_of}
use Rattle.zy_shuffle.specs.Hand.{marked}
use Rattle.zy_shuffle.specs.Holder.{Holder, at_bell, bell, in_hand, in_queue, nobody, weight}
use Rattle.zy_shuffle.specs.ShuffleRule.{RingState, InQueue, IsNote, IsRole, IsStored, Lies, ShuffleRule}
use Rattle.zy_shuffle.specs.HomeRole.{IsActive}
use Rattle.zy_shuffle.specs.Step.{Seated, claimed, noted_place, taking}
use Rattle.zy_shuffle.specs.Word.{bell_at, cell}
use Rattle.zy_shuffle.specs.declared.ring.view.Role.{Role}
use Rattle.zy_shuffle.specs.declared.ring.view.Role.TheVariants.{Closed, Core, Home, Spent, Start}
use Rattle.zy_shuffle.specs.declared.ring.view.View.{View}
use Rattle.zy_table.proofs.MemberLemmas.{in_cons, in_front, in_more, in_or, not_in}
use Rattle.zy_table.proofs.PutLemmas.{at_put, put_else, put_here}
use Rattle.zy_table.specs.Member.{is_in}
use Rattle.zy_table.specs.Put.{put}
use Rattle.zy_table.specs.declared.name.Name.{Name}

-- the place that is k-th in the queue is in the cell of k
pub ready_in : (ws : List ℕ) (head tail m q k : ℕ) (x : Holder) → x ≡ in_queue k → InQueue ws head tail m q x → InQueue ws head tail m q (in_queue k)
ready_in ws head tail m q k x e l = subst (InQueue ws head tail m q) e l

module _ {T M : Type 0} (mark : T → M) (label : T → Name) where
  module _ (s : RingState T) (r : ShuffleRule mark label s) (id : ℕ) (v : View T) where
    -- the role of the seat that makes the step, where tail, cell and bells are as they were
    rerole : (ws' : List ℕ) (head' : ℕ) (holders' : ℕ → Holder) (marks' : ℕ → std.Option M) (hand' : List ℕ) (kept' : List (ℕ × T)) (x : Role) → IsActive x → cell ws' (length s.homes) r.tail ≡ cell s.words (length s.homes) r.tail
        → ((q : ℕ) → r.holders q ≡ at_bell → holders' q ≡ at_bell) → ((q : ℕ) → marked mark q v.kept ≡ r.marks q → marked mark q kept' ≡ marks' q) → ((q : ℕ) → (r.holders q ≡ nobody → ⊥) → holders' q ≡ nobody → ⊥)
        → IsRoleOf r id v x → IsRole mark label (record (standing_of r) { words = ws'; head = head'; holders = holders'; marks = marks' }) id (record v { hand = hand'; kept = kept' }) x
    rerole ws' head' holders' marks' hand' kept' Spent a c b f g h = absurd a
    rerole ws' head' holders' marks' hand' kept' Start a c b f g h = absurd a
    rerole ws' head' holders' marks' hand' kept' Core a c b f g h = h
    rerole ws' head' holders' marks' hand' kept' (Home t st nt out) a c b f g h =
        (h.0, h.1, h.2, h.3, stored st h.4, rung_else mark label (length s.homes) r.holders holders' nt b h.5, (λ q. f q (h.6 q)), λ q lt. g q (h.7 q lt))
      where
        stored : (st : std.Option ℕ) → IsStored s.words r.head r.tail (length s.homes) st → IsStored ws' head' r.tail (length s.homes) st
        stored std.None k = tt
        stored (std.Some y) k = c ∙ k
    rerole ws' head' holders' marks' hand' kept' (Closed gone) a c b f g h = absurd a

  -- the marks after `p` was taken with the block `b`
  pub taken_marks : (marks : ℕ → std.Option M) (p : ℕ) (b : T) (kept : List (ℕ × T)) → marks p ≡ std.Some (mark b) → (q : ℕ) → (q ≢ p → marked mark q kept ≡ marks q) → marked mark q ((p, b) ∷ kept) ≡ put marks p (marks p) q
  taken_marks marks p b kept is q old = dite (ℕ_discrete q p)
      (λ e. ap (λ y. marked mark y ((p, b) ∷ kept)) e ∙ marked_here mark p b kept ∙ sym is ∙ sym (put_here marks p (marks p)) ∙ ap (put marks p (marks p)) (sym e))
      (λ ne. marked_else mark p q b kept ne ∙ old ne ∙ sym (put_else marks p (marks p) q ne))

  pub claims : (n id old new : ℕ) (me : Seated T) → IsActive me.0.role → me.0.note ≡ std.Some (old, noted_place me.0) → new ≡ old + 1 → Allows (ShuffleRule mark label) n id me 0 (λ y. either (eqb y old) new y) (claimed mark label (step n 0 old new none) me)
  claims n id old new me active noted next s r wide at _ =
      let y : ℕ = get_or s.words 0 0 in
      let told : Seated T → Type 0 = claimed mark label (step n 0 old new none) me y in
      exchanged y old new (Goes mark label s 0 id me told)
      (λ hit.
      let m : ℕ = length s.homes in
      let p : ℕ = noted_place me.0 in
      let v : View T = me.0 in
      let k = r.each_seat id v at in
      let ws' : List ℕ = set s.words 0 new in
      let is = r.head_is in
      let old_is : old ≡ r.head = sym hit ∙ is in
      let note = subst (IsNote s.words r.head r.tail m) noted k.note in
      let at_cell : cell s.words m r.head ≡ p = ap (cell s.words m) (sym old_is) ∙ note.1 (omega arith) in
      let before : r.head < r.tail = (let a = note.0 in omega arith) in
      let queue = r.each_cell r.head (omega arith) before in
      let near : p < m = subst (λ c. c < m) at_cell queue.0 in
      let ready_p : r.holders p ≡ in_queue r.head = subst (λ c. r.holders c ≡ in_queue r.head) at_cell queue.1 in
      let has = subst (λ (x : Holder). Lies mark label s.homes r.marks r.name p x) ready_p (r.each_place p near).lies in
      let b : T = has.0 in
      let f = r.follows in
      let since : ℕ × List Event = (id, between f.events s.views f.known id v at active) in
      let v' : View T = taking p b y since v in
      let wide_is = r.wide in
      let long : 0 < length s.words = omega arith in
      let cells : (q : ℕ) → cell ws' m q ≡ cell s.words m q = λ q. get_or-set_other s.words 0 (32 + q % m) new 0 (λ e. omega arith) in
      let rings : (q : ℕ) → bell_at ws' m q ≡ bell_at s.words m q = λ q. ap (λ x. bit_at x (q % 64)) (get_or-set_other s.words 0 (32 + m + q / 64) new 0 (λ e. omega arith)) in
      let not_mine : is_in p v.hand ≡ false = not_in p v.hand (λ e. let a = (k.hand p e).1 in cc) in
      let others : (q : ℕ) → is_in q v.hand ≡ true → q ≢ p = λ q e f. true≢false (sym e ∙ ap (λ y. is_in y v.hand) f ∙ not_mine) in (
        v',
        takes p (std.Some b),
        has.1,
        moved mark label s r id p v v' 0 new (set s.homes p none) (in_hand id) (r.marks p) (r.head + 1) r.tail record {
          at = at;
          near = near;
          mine = λ j e. cc;
          kind = refl;
          active = active;
          long = length-set s.homes p none;
          homes_else = λ q ne. set_else s.homes p q none ne;
          heads = omega arith;
          tails = omega arith;
          head_now = get_or-set_same s.words 0 new 0 long ∙ next ∙ ap (λ x. x + 1) old_is;
          tail_now = get_or-set_other s.words 0 16 new 0 (λ e. omega arith) ∙ r.tail_is;
          cells = λ q _ _. cells q;
          rings = λ q _. rings q;
          later = λ q c ne lt e.
              let l = ready_in s.words r.head r.tail m q c (r.holders q) e (r.each_place q lt).queued in
              let a : c ≢ r.head = λ f. ne (sym l.2 ∙ ap (cell s.words m) f ∙ at_cell) in let d = l.0 in omega arith;
          sum = let a = ap weight ready_p in omega arith;
          lies = set_here s.homes p none near;
          ring = rings p ∙ (r.each_place p near).rings ∙ ap bell ready_p;
          queued = tt;
          cell_now = λ c a d. subst (λ x. (x < m) × (put r.holders p (in_hand id) x ≡ in_queue c)) (sym (cells c))
              (let l = r.each_cell c (omega arith) d in
              (l.0, put_else r.holders p (in_hand id) (cell s.words m c) (λ f. let g : in_queue c ≡ in_queue r.head = sym l.1 ∙ ap r.holders f ∙ ready_p in let e : c ≡ r.head = cc in omega arith) ∙ l.1));
          quiet = λ _. (refl, (λ e. cc), refl, λ e. cc);
          knows = record {
            hand = λ q e. ⊎_elim
                (λ (f : q ≡ p). subst (λ x. (x < m) × (put r.holders p (in_hand id) x ≡ in_hand id)) (sym f) (near, put_here r.holders p (in_hand id)))
                (λ (f : (q ≢ p) × (is_in q v.hand ≡ true)). let a = k.hand q f.1 in (a.0, put_else r.holders p (in_hand id) q f.0 ∙ a.1))
                (in_or p q v.hand e);
            apart = (not_mine, k.apart);
            same = λ q e. taken_marks r.marks p b v.kept has.2 q (λ ne. k.same q (sym (in_cons p q v.hand ne) ∙ e));
            head_seen = let a = k.head_seen in omega arith;
            tail_seen = k.tail_seen;
            note = tt;
            role = rerole s r id v ws' (r.head + 1) (put r.holders p (in_hand id)) (put r.marks p (r.marks p)) v'.hand v'.kept v.role active (cells r.tail)
                (λ q. at_put r.holders p (in_hand id) (λ a b. r.holders a ≡ at_bell → b ≡ at_bell) q (λ e. cc) (λ _ e. e))
                (λ q h. taken_marks r.marks p b v.kept has.2 q (λ _. h))
                (λ q. at_put r.holders p (in_hand id) (λ a b. (r.holders a ≡ nobody → ⊥) → b ≡ nobody → ⊥) q (λ _ e. cc) (λ _ f. f))
                k.role;
          };
          follows = follows_claim m r.marks s.views (set s.views id v') s.words ws' r.head r.tail id p r.holders before at_cell near ready_p (λ k _ _. cells k) f
              (known_more f.events s.views f.known id v at active v' (Claim id ∷ []) (ap (λ l. Claim id ∷ l) (sym (since_is f.events s.views f.known id v at active))) refl (refl, tt));
          live_here = λ j e. ((cc), in_front p v.hand);
          live_else = λ q ne e. in_more p q v.hand e;
        },
        (
          (λ _. (
            b,
            since,
            refl,
            (
              omega arith,
              not_mine,
              has.3 ∙ sym (tag_of r id v at active),
              (λ h. kept_of r id v at h p ∙ has.2),
            ),
            may_follow f.events s.views f.known id v at active,
          )),
          λ miss. absurd (miss hit),
        ),
      ))
      (λ miss. misses mark label s r id me told at active ((λ hit. absurd (miss hit)), λ _. refl))
