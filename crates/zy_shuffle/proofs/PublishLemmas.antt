-- The store of the tail: it puts a place at the end of the queue.
use Rattle.zy_shuffle.proofs.FollowLemmas.{follows_publish, publication_seat}
use Rattle.zy_shuffle.proofs.KnownLemmas.{between, since_is, may_follow, known_more}
use Rattle.zy_shuffle.proofs.RoleLemmas.{role_is, standing_of}
use Rattle.zy_shuffle.specs.declared.ring.view.Event.{Event}
use Rattle.std.proofs.Common.{◌≡◌, ◌≢◌, ℕ, ◌+◌, ◌/◌, ◌%◌, ◌<◌, ◌≤◌, List, ◌∷◌, ◌++◌, length, set, true, true≢false, refl, sym, ap, ◌∙◌, subst, arith, length-set, get_or-set_other, get_or-set_same}
use Rattle.std.specs.Prelude as std
use mathlib.Core.Option.{some}
use mathlib.Core.Logic.{dite}
use native.Mathlib.Decide.{ℕ_discrete}
use Rattle.std.specs.Int.{bit_at}
use Rattle.atomic_table.specs.Table.{gives, Allows}
use Rattle.atomic_table.proofs.Lists.{set_here, set_else}
use Rattle.zy_shuffle.proofs.HandLemmas.{marked_else, marked_here}
use Rattle.zy_shuffle.proofs.MoveLemmas.{moved, note_else, rung_else}
use Rattle.zy_shuffle.specs.Hand.{first_of, marked, rest_of}
use Rattle.zy_shuffle.specs.Holder.{Holder, at_bell, bell, core_count, in_hand, in_queue, nobody, weight}
use Rattle.zy_shuffle.specs.ShuffleRule.{IsRole, ShuffleRule}
use Rattle.zy_shuffle.specs.HomeRole.{IsActive, with_published}
use Rattle.zy_shuffle.specs.Run.{Before, AreOfSeat, IsKnown, publication}
use Rattle.zy_shuffle.specs.Step.{next_publication, published, publishing}
use Rattle.zy_shuffle.specs.Word.{bell_at, cell}
use Rattle.zy_shuffle.specs.declared.ring.view.Role.TheVariants.{Home}
use Rattle.zy_shuffle.specs.declared.ring.view.View.{View}
use Rattle.zy_table.proofs.MemberLemmas.{in_cons, in_front, in_more}
use Rattle.zy_table.proofs.PutLemmas.{at_put, put_else, put_here}
use Rattle.zy_table.specs.Member.{IsDistinct, is_in}
use Rattle.zy_table.specs.Put.{put}
use Rattle.zy_table.specs.declared.name.Name.{Name}
use Rattle.zy_shuffle.proofs.TakeLemmas.{ready_in}

module _ {T M : Type 0} (before : Before) (mark : T → M) (label : T → Name) where
  -- the store of the tail, after the block was put into its slot
  pub stores_tail : (n id p t out new : ℕ) (nt : std.Option (ℕ × ℕ)) (b : T) (v : View T) (cs : List (ℕ × std.Option T)) → v.role ≡ Home t (std.Some p) nt out → v.hand ≡ p ∷ rest_of v.hand → label b ≡ v.label → new ≡ t + 1
      → Allows (ShuffleRule mark label) n id (v, (p, std.Some b) ∷ cs) 16 (λ _. new) (λ _ m. published before mark (v, (p, std.Some b) ∷ cs) m)
  stores_tail n id p t out new nt b v cs role front tag next s r wide at _ =
      let m : ℕ = length s.homes in
      let k = r.each_seat id v at in
      let ws' : List ℕ = set s.words 16 new in
      let ks : List ℕ = rest_of v.hand in
      let home = role_is r id v at role in
      let t_is : t ≡ r.tail = home.2 in
      let has : is_in p v.hand ≡ true = ap (is_in p) front ∙ in_front p ks in
      let mine = k.hand p has in
      let near = mine.0 in
      let apart = subst IsDistinct front k.apart in
      let wide_is = r.wide in
      let ordered : r.head ≤ r.tail = (let a = r.sums in omega arith) in
      let long : 16 < length s.words = omega arith in
      let cells : (q : ℕ) → cell ws' m q ≡ cell s.words m q = λ q. get_or-set_other s.words 16 (32 + q % m) new 0 (λ e. omega arith) in
      let rings : (q : ℕ) → bell_at ws' m q ≡ bell_at s.words m q = λ q. ap (λ x. bit_at x (q % 64)) (get_or-set_other s.words 16 (32 + m + q / 64) new 0 (λ e. omega arith)) in
      let stored : cell ws' m r.tail ≡ p = cells r.tail ∙ home.4 in
      let role' : with_published v.role ≡ Home (t + 1) std.None nt out = ap with_published role in
      let in_rest : (q : ℕ) → is_in q ks ≡ true → (q ≢ p) × (is_in q v.hand ≡ true) = λ q e. ((λ f. true≢false (sym e ∙ ap (λ y. is_in y ks) f ∙ apart.0)), ap (is_in q) front ∙ in_more p q ks e) in
      let holders' : ℕ → Holder = put r.holders p (in_queue r.tail) in
      let marks' : ℕ → std.Option M = put r.marks p (std.Some (mark b)) in
      let kept' : List (ℕ × T) = (p, b) ∷ v.kept in
      let active : IsActive v.role = subst IsActive (sym role) tt in
      let f = r.follows in
      let acts : List Event = next_publication before mark v in
      let acts_are : acts ≡ publication before p (r.marks p) = ap (λ q. publication before q (marked mark q v.kept)) (ap first_of front) ∙ ap (publication before p) (home.6 p) in
      let own : AreOfSeat id acts = subst (λ n. AreOfSeat n acts) (sym home.0) (publication_seat before (first_of v.hand) (marked mark (first_of v.hand) v.kept)) in
      let since : ℕ × List Event = (id, between f.events s.views f.known id v at active) in
      let v' : View T = publishing since acts v ((p, std.Some b) ∷ cs) in
      let known : IsKnown (acts ++ f.events) (set s.views id v') = known_more f.events s.views f.known id v at active v' acts (ap (λ l. acts ++ l) (sym (since_is f.events s.views f.known id v at active))) refl own in
      let marks_now : (q : ℕ) → marked mark q kept' ≡ marks' q = λ q. dite (ℕ_discrete q p)
      (λ e. ap (λ y. marked mark y kept') e ∙ marked_here mark p b v.kept ∙ sym (put_here r.marks p (std.Some (mark b))) ∙ ap marks' (sym e))
      (λ ne. marked_else mark p q b v.kept ne ∙ home.6 q ∙ sym (put_else r.marks p (std.Some (mark b)) q ne)) in (
        v',
        gives,
        tt,
        moved mark label s r id p v v' 16 new (set s.homes p (some (std.Some b))) (in_queue r.tail) (std.Some (mark b)) r.head (r.tail + 1) record {
          at = at;
          near = near;
          mine = λ j e. let a = mine.1 in cc;
          kind = ap core_count role' ∙ sym (ap core_count role);
          active = subst IsActive (sym role) tt;
          long = length-set s.homes p (some (std.Some b));
          homes_else = λ q ne. set_else s.homes p q (some (std.Some b)) ne;
          heads = omega arith;
          tails = omega arith;
          head_now = get_or-set_other s.words 16 0 new 0 (λ e. omega arith) ∙ r.head_is;
          tail_now = get_or-set_same s.words 16 new 0 long ∙ next ∙ ap (λ x. x + 1) t_is;
          cells = λ q _ _. cells q;
          rings = λ q _. rings q;
          later = λ q c ne lt e. (ready_in s.words r.head r.tail m q c (r.holders q) e (r.each_place q lt).queued).0;
          sum = let a = ap weight mine.1 in omega arith;
          lies = (b, set_here s.homes p (some (std.Some b)) near, put_here r.marks p (std.Some (mark b)), tag ∙ home.1);
          ring = rings p ∙ (r.each_place p near).rings ∙ ap bell mine.1;
          queued = (ordered, omega arith, stored);
          cell_now = λ c a d. dite (ℕ_discrete c r.tail)
              (λ e. subst (λ x. (cell ws' m x < m) × (holders' (cell ws' m x) ≡ in_queue x)) (sym e) (subst (λ x. (x < m) × (holders' x ≡ in_queue r.tail)) (sym stored) (near, put_here r.holders p (in_queue r.tail))))
              (λ ne. subst (λ x. (x < m) × (holders' x ≡ in_queue c)) (sym (cells c))
              (let l = r.each_cell c a (omega arith) in (l.0, put_else r.holders p (in_queue r.tail) (cell s.words m c) (λ f. let g : in_queue c ≡ in_hand id = sym l.1 ∙ ap r.holders f ∙ mine.1 in cc) ∙ l.1)));
          quiet = λ e. let f = sym role ∙ e in cc;
          knows = record {
            hand = λ q e. let g = in_rest q e in let a = k.hand q g.1 in (a.0, put_else r.holders p (in_queue r.tail) q g.0 ∙ a.1);
            apart = apart.1;
            same = λ q e. marks_now q;
            head_seen = k.head_seen;
            tail_seen = let a = k.tail_seen in omega arith;
            note = note_else mark label s.words ws' r.head r.head r.tail (r.tail + 1) m v.note (omega arith) (omega arith) (λ q _ _. cells q) k.note;
            role = subst (IsRole mark label (record (standing_of r) { words = ws'; tail = r.tail + 1; holders = holders'; marks = marks' }) id v') (sym role') (
              home.0,
              home.1,
              ap (λ x. x + 1) t_is,
              home.3,
              tt,
              rung_else mark label m r.holders holders' nt (λ q. at_put r.holders p (in_queue r.tail) (λ a b. r.holders a ≡ at_bell → b ≡ at_bell) q (λ e. let a = mine.1 in cc) (λ _ e. e)) home.5,
              marks_now,
              λ q lt. at_put r.holders p (in_queue r.tail) (λ a b. b ≡ nobody → ⊥) q (λ e. cc) (λ _. home.7 q lt),
            );
          };
          follows = follows_publish m r.marks s.views before s.words ws' r.head r.tail p r.holders (mark b) ordered near (mine.1 ∙ ap in_hand home.0) (λ k _ _. cells k) stored f (set s.views id v')
              (subst (λ (es : List Event). IsKnown (es ++ f.events) (set s.views id v')) acts_are known);
          live_here = λ j e. cc;
          live_else = λ q ne e. sym (in_cons p q ks ne) ∙ sym (ap (is_in q) front) ∙ e;
        },
        (since, refl, may_follow f.events s.views f.known id v at active),
      )
