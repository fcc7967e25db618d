-- The steps on a doorbell word: a core gives a place back, and the home collects it.
use Rattle.zy_shuffle.proofs.FollowLemmas.{follows_give, follows_collect}
use Rattle.zy_shuffle.proofs.KnownLemmas.{between, since_is, may_follow, known_more}
use Rattle.zy_shuffle.proofs.RoleLemmas.{role_is, standing_of}
use Rattle.zy_shuffle.specs.declared.ring.view.Event.{Event}
use Rattle.zy_shuffle.specs.declared.ring.view.Event.TheVariants.{GiveBack, Collect}
use Rattle.std.proofs.Common.{◌≡◌, ◌≢◌, ℕ, ◌+◌, ◌*◌, ◌/◌, ◌%◌, ◌^◌, ◌<◌, ◌≤◌, List, [], ◌∷◌, length, get_or, set, true, false, true≢false, refl, sym, ap, ◌∙◌, subst, ⊎_elim, arith, length-set, get_or-set_other, get_or-set_same, bit_or, bit_and, w64}
use Rattle.std.specs.Prelude as std
use mathlib.Core.Option.{none, some}
use mathlib.Core.Logic.{dite}
use native.Mathlib.Decide.{ℕ_discrete}
use Rattle.std.specs.Int.{bit_at, bit_not, trailing_zeros}
use Rattle.std.proofs.lemmas.Nat.Bits.{bit_at_set_same, bit_at_set_other, bit_at_clear_same, bit_at_clear_other, bit_at-trailing_zeros}
use Rattle.atomic_table.specs.Table.{step, takes, gives, Allows}
use Rattle.atomic_table.proofs.Lists.{set_here, set_else}
use Rattle.zy_shuffle.proofs.HandLemmas.{marked_else}
use Rattle.zy_shuffle.proofs.MoveLemmas.{moved, note_else}
use Rattle.zy_shuffle.specs.Hand.{first_of, marked, rest_of}
use Rattle.zy_shuffle.specs.Holder.{Holder, at_bell, core_count, in_hand, in_queue, nobody, weight}
use Rattle.zy_shuffle.specs.ShuffleRule.{IsRole, IsStored, Lies, ShuffleRule}
use Rattle.zy_shuffle.specs.HomeRole.{IsActive, rung_place, with_bells}
use Rattle.zy_shuffle.specs.Step.{Seated, collected, collecting, gave, giving}
use Rattle.zy_shuffle.specs.Word.{bell_at, cell}
use Rattle.zy_shuffle.specs.declared.ring.view.Role.TheVariants.{Core, Home}
use Rattle.zy_shuffle.specs.declared.ring.view.View.{View}
use Rattle.zy_table.proofs.MemberLemmas.{in_cons, in_front, in_more, in_or, not_in}
use Rattle.zy_table.proofs.PutLemmas.{at_put, put_else, put_here}
use Rattle.zy_table.specs.Member.{IsDistinct, is_in}
use Rattle.zy_table.specs.Put.{put}
use Rattle.zy_table.specs.declared.name.Name.{Name}
use Rattle.zy_shuffle.proofs.TakeLemmas.{ready_in, taken_marks}

module _ {T M : Type 0} (mark : T → M) (label : T → Name) where
  -- the bit of place `p` in its doorbell word
  abbrev Bit : ℕ → ℕ
  Bit p = 1 * 2 ^ (p % 64) % 2 ^ 64

  -- the fetch-or of a core, after the block was put into its slot
  pub gives_back : (n id p i mask : ℕ) (b : T) (v : View T) (cs : List (ℕ × std.Option T)) → v.role ≡ Core → v.hand ≡ p ∷ rest_of v.hand → label b ≡ v.label → marked mark p v.kept ≡ std.Some (mark b) → i ≡ 32 + n + p / 64 → mask ≡ Bit p
      → Allows (ShuffleRule mark label) n id (v, (p, std.Some b) ∷ cs) i (λ y. bit_or y mask) (λ _ m. gave (v, (p, std.Some b) ∷ cs) m)
  gives_back n id p i mask b v cs role front tag unchanged i_is mask_is s r wide at _ =
      let m : ℕ = length s.homes in
      let k = r.each_seat id v at in
      let y : ℕ = get_or s.words i 0 in
      let new : ℕ = bit_or y mask in
      let ws' : List ℕ = set s.words i new in
      let ks : List ℕ = rest_of v.hand in
      let has : is_in p v.hand ≡ true = ap (is_in p) front ∙ in_front p ks in
      let mine = k.hand p has in
      let near = mine.0 in
      let apart = subst IsDistinct front k.apart in
      let wide_is = r.wide in
      let ordered : r.head ≤ r.tail = (let a = r.sums in omega arith) in
      let at_word : i ≡ 32 + m + p / 64 = (let a = i_is in omega arith) in
      let long : i < length s.words = omega arith in
      let new_is : new ≡ bit_or y (Bit p) = ap (bit_or y) mask_is in
      let cells : (q : ℕ) → cell ws' m q ≡ cell s.words m q = λ q. get_or-set_other s.words i (32 + q % m) new 0 (λ e. omega arith) in
      let here : get_or ws' i 0 ≡ new = get_or-set_same s.words i new 0 long in
      let rings : (q : ℕ) → q ≢ p → bell_at ws' m q ≡ bell_at s.words m q = λ q ne. dite (ℕ_discrete (q / 64) (p / 64))
      (λ e. let word : 32 + m + q / 64 ≡ i = omega arith in
      let ne' : q % 64 ≢ p % 64 = (λ f. ne (omega arith)) in
      ap (λ x. bit_at (get_or ws' x 0) (q % 64)) word ∙ ap (λ x. bit_at x (q % 64)) (here ∙ new_is) ∙ bit_at_set_other w64 y (p % 64) (omega arith) (q % 64) ne' ∙ ap (λ x. bit_at (get_or s.words x 0) (q % 64)) (sym word))
      (λ ne'. ap (λ x. bit_at x (q % 64)) (get_or-set_other s.words i (32 + m + q / 64) new 0 (λ e. omega arith))) in
      let ring : bell_at ws' m p ≡ 1 = ap (λ x. bit_at (get_or ws' x 0) (p % 64)) (sym at_word) ∙ ap (λ x. bit_at x (p % 64)) (here ∙ new_is) ∙ bit_at_set_same w64 y (p % 64) (omega arith) in
      let in_rest : (q : ℕ) → is_in q ks ≡ true → (q ≢ p) × (is_in q v.hand ≡ true) = λ q e. ((λ f. true≢false (sym e ∙ ap (λ y. is_in y ks) f ∙ apart.0)), ap (is_in q) front ∙ in_more p q ks e) in
      let core = role_is r id v at role in
      let tag_is : v.label ≡ r.name = core.0 in
      let holders' : ℕ → Holder = put r.holders p at_bell in
      let marks' : ℕ → std.Option M = put r.marks p (r.marks p) in
      let active : IsActive v.role = subst IsActive (sym role) tt in
      let f = r.follows in
      let since : ℕ × List Event = (id, between f.events s.views f.known id v at active) in
      let back = sym (since_is f.events s.views f.known id v at active) in
      let v' : View T = giving since v ((p, std.Some b) ∷ cs) in
      let kept' : List (ℕ × T) = (p, b) ∷ v.kept in (
        v',
        gives,
        tt,
        moved mark label s r id p v v' i new (set s.homes p (some (std.Some b))) at_bell (r.marks p) r.head r.tail record {
          at = at;
          near = near;
          mine = λ j e. let a = mine.1 in cc;
          kind = refl;
          active = subst IsActive (sym role) tt;
          long = length-set s.homes p (some (std.Some b));
          homes_else = λ q ne. set_else s.homes p q (some (std.Some b)) ne;
          heads = omega arith;
          tails = omega arith;
          head_now = get_or-set_other s.words i 0 new 0 (λ e. omega arith) ∙ r.head_is;
          tail_now = get_or-set_other s.words i 16 new 0 (λ e. omega arith) ∙ r.tail_is;
          cells = λ q _ _. cells q;
          rings = rings;
          later = λ q c ne lt e. (ready_in s.words r.head r.tail m q c (r.holders q) e (r.each_place q lt).queued).0;
          sum = let a = ap weight mine.1 in omega arith;
          lies = (b, set_here s.homes p (some (std.Some b)) near, put_here r.marks p (r.marks p) ∙ sym (k.same p has) ∙ unchanged, tag ∙ tag_is);
          ring = ring;
          queued = tt;
          cell_now = λ c a d. subst (λ x. (x < m) × (holders' x ≡ in_queue c)) (sym (cells c))
              (let l = r.each_cell c a d in (l.0, put_else r.holders p at_bell (cell s.words m c) (λ f. let g : in_queue c ≡ in_hand id = sym l.1 ∙ ap r.holders f ∙ mine.1 in cc) ∙ l.1));
          quiet = λ e. (refl, (λ f. let a = mine.1 in cc), refl, λ f. cc);
          knows = record {
            hand = λ q e. let g = in_rest q e in let a = k.hand q g.1 in (a.0, put_else r.holders p at_bell q g.0 ∙ a.1);
            apart = apart.1;
            same = λ q e. let g = in_rest q e in marked_else mark p q b v.kept g.0 ∙ k.same q g.1 ∙ sym (put_else r.marks p (r.marks p) q g.0);
            head_seen = k.head_seen;
            tail_seen = k.tail_seen;
            note = note_else mark label s.words ws' r.head r.head r.tail r.tail m v.note (omega arith) (omega arith) (λ q _ _. cells q) k.note;
            role = subst (IsRole mark label (record (standing_of r) { words = ws'; holders = holders'; marks = marks' }) id v') (sym role) core;
          };
          follows = follows_give m r.marks s.views (set s.views id v') s.words ws' r.head r.tail id p r.holders ordered near mine.1 core.1 (λ k _ _. cells k) f
              (known_more f.events s.views f.known id v at active v' (GiveBack id p ∷ []) (λ i. GiveBack id (ap first_of front i) ∷ back i) refl (refl, tt));
          live_here = λ j e. cc;
          live_else = λ q ne e. sym (in_cons p q ks ne) ∙ sym (ap (is_in q) front) ∙ e;
        },
        (since, refl, may_follow f.events s.views f.known id v at active),
      )

  -- the fetch-and of the home, at the lowest bit that it has noted
  pub collects : (n id i w x mask t out : ℕ) (st : std.Option ℕ) (me : Seated T) → me.0.role ≡ Home t st (std.Some (w, x)) out → i ≡ 32 + n + w → 0 < x → x < 2 ^ 64 → mask ≡ bit_not w64 (1 * 2 ^ trailing_zeros w64 x % 2 ^ 64)
      → Allows (ShuffleRule mark label) n id me i (λ y. bit_and y mask) (λ _ m. collected mark label (step n i mask 0 none) me m)
  collects n id i w x mask t out st me role i_is some_bit fits mask_is s r wide at _ =
      let m : ℕ = length s.homes in
      let v : View T = me.0 in
      let k = r.each_seat id v at in
      let low : ℕ = trailing_zeros w64 x in
      let bits = bit_at-trailing_zeros w64 x some_bit fits in
      let p : ℕ = rung_place v.role in
      let p_is : p ≡ 64 * w + low = ap rung_place role in
      let small : low < 64 = bits.0 in
      let home = role_is r id v at role in
      let rung = subst (λ q. (q < m) × (r.holders q ≡ at_bell)) (sym p_is) (home.5 low small bits.1) in
      let near = rung.0 in
      let is_rung = rung.1 in
      let has = subst (λ (x : Holder). Lies mark label s.homes r.marks r.name p x) is_rung (r.each_place p near).lies in
      let b : T = has.0 in
      let y : ℕ = get_or s.words i 0 in
      let new : ℕ = bit_and y mask in
      let ws' : List ℕ = set s.words i new in
      let wide_is = r.wide in
      let ordered : r.head ≤ r.tail = (let a = r.sums in omega arith) in
      let word_p : p / 64 ≡ w = omega arith in
      let bit_p : p % 64 ≡ low = omega arith in
      let at_word : i ≡ 32 + m + p / 64 = omega arith in
      let long : i < length s.words = omega arith in
      let new_is : new ≡ bit_and y (bit_not w64 (1 * 2 ^ (p % 64) % 2 ^ 64)) = ap (bit_and y) (mask_is ∙ ap (λ z. bit_not w64 (1 * 2 ^ z % 2 ^ 64)) (sym bit_p)) in
      let cells : (q : ℕ) → cell ws' m q ≡ cell s.words m q = λ q. get_or-set_other s.words i (32 + q % m) new 0 (λ e. omega arith) in
      let here : get_or ws' i 0 ≡ new = get_or-set_same s.words i new 0 long in
      let rings : (q : ℕ) → q ≢ p → bell_at ws' m q ≡ bell_at s.words m q = λ q ne. dite (ℕ_discrete (q / 64) (p / 64))
      (λ e. let word : 32 + m + q / 64 ≡ i = omega arith in
      let ne' : q % 64 ≢ p % 64 = (λ f. ne (omega arith)) in
      ap (λ x. bit_at (get_or ws' x 0) (q % 64)) word ∙ ap (λ x. bit_at x (q % 64)) (here ∙ new_is) ∙ bit_at_clear_other w64 y (p % 64) (omega arith) (q % 64) (omega arith) ne' ∙ ap (λ x. bit_at (get_or s.words x 0) (q % 64)) (sym word))
      (λ ne'. ap (λ x. bit_at x (q % 64)) (get_or-set_other s.words i (32 + m + q / 64) new 0 (λ e. omega arith))) in
      let ring : bell_at ws' m p ≡ 0 = ap (λ x. bit_at (get_or ws' x 0) (p % 64)) (sym at_word) ∙ ap (λ x. bit_at x (p % 64)) (here ∙ new_is) ∙ bit_at_clear_same w64 y (p % 64) (omega arith) in
      let holders' : ℕ → Holder = put r.holders p (in_hand id) in
      let marks' : ℕ → std.Option M = put r.marks p (r.marks p) in
      let kept' : List (ℕ × T) = (p, b) ∷ v.kept in
      let active : IsActive v.role = subst IsActive (sym role) tt in
      let f = r.follows in
      let since : ℕ × List Event = (id, between f.events s.views f.known id v at active) in
      let v' : View T = collecting p b since v in
      let role' : with_bells std.None v.role ≡ Home t st std.None out = ap (with_bells std.None) role in
      let not_mine : is_in p v.hand ≡ false = not_in p v.hand (λ e. let a = (k.hand p e).1 in cc) in
      let marks_now : (q : ℕ) → marked mark q kept' ≡ marks' q = λ q. taken_marks mark label r.marks p b v.kept has.2 q (λ _. home.6 q) in (
        v',
        takes p (std.Some b),
        has.1,
        moved mark label s r id p v v' i new (set s.homes p none) (in_hand id) (r.marks p) r.head r.tail record {
          at = at;
          near = near;
          mine = λ j e. cc;
          kind = ap core_count role' ∙ sym (ap core_count role);
          active = subst IsActive (sym role) tt;
          long = length-set s.homes p none;
          homes_else = λ q ne. set_else s.homes p q none ne;
          heads = omega arith;
          tails = omega arith;
          head_now = get_or-set_other s.words i 0 new 0 (λ e. omega arith) ∙ r.head_is;
          tail_now = get_or-set_other s.words i 16 new 0 (λ e. omega arith) ∙ r.tail_is;
          cells = λ q _ _. cells q;
          rings = rings;
          later = λ q c ne lt e. (ready_in s.words r.head r.tail m q c (r.holders q) e (r.each_place q lt).queued).0;
          sum = let a = ap weight is_rung in omega arith;
          lies = set_here s.homes p none near;
          ring = ring;
          queued = tt;
          cell_now = λ c a d. subst (λ x. (x < m) × (holders' x ≡ in_queue c)) (sym (cells c))
              (let l = r.each_cell c a d in (l.0, put_else r.holders p (in_hand id) (cell s.words m c) (λ f. let g : in_queue c ≡ at_bell = sym l.1 ∙ ap r.holders f ∙ is_rung in cc) ∙ l.1));
          quiet = λ e. let f = sym role ∙ e in cc;
          knows = record {
            hand = λ q e. ⊎_elim
                (λ (f : q ≡ p). subst (λ x. (x < m) × (holders' x ≡ in_hand id)) (sym f) (near, put_here r.holders p (in_hand id)))
                (λ (f : (q ≢ p) × (is_in q v.hand ≡ true)). let a = k.hand q f.1 in (a.0, put_else r.holders p (in_hand id) q f.0 ∙ a.1))
                (in_or p q v.hand e);
            apart = (not_mine, k.apart);
            same = λ q e. marks_now q;
            head_seen = k.head_seen;
            tail_seen = k.tail_seen;
            note = note_else mark label s.words ws' r.head r.head r.tail r.tail m v.note (omega arith) (omega arith) (λ q _ _. cells q) k.note;
            role = subst (IsRole mark label (record (standing_of r) { words = ws'; holders = holders'; marks = marks' }) id v') (sym role')
                (home.0, home.1, home.2, home.3, stored ws' (cells r.tail) st home.4, tt, marks_now, λ q lt. at_put r.holders p (in_hand id) (λ a b. b ≡ nobody → ⊥) q (λ e. cc) (λ _. home.7 q lt));
          };
          follows = follows_collect m r.marks s.views (set s.views id v') s.words ws' r.head r.tail id p r.holders ordered near is_rung home.0 (λ k _ _. cells k) f
              (known_more f.events s.views f.known id v at active v' (Collect p ∷ []) (ap (λ l. Collect p ∷ l) (sym (since_is f.events s.views f.known id v at active))) refl (sym home.0, tt));
          live_here = λ j e. ((cc), in_front p v.hand);
          live_else = λ q ne e. in_more p q v.hand e;
        },
        (b, since, refl, (omega arith, not_mine, has.3 ∙ sym home.1, λ _. home.6 p ∙ has.2), may_follow f.events s.views f.known id v at active),
      )
    where
      stored : (ws' : List ℕ) → cell ws' (length s.homes) r.tail ≡ cell s.words (length s.homes) r.tail → (x : std.Option ℕ) → IsStored s.words r.head r.tail (length s.homes) x → IsStored ws' r.head r.tail (length s.homes) x
      stored ws' c std.None h = tt
      stored ws' c (std.Some y) h = c ∙ h
