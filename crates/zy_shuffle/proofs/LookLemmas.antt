-- Steps that change no place: loads, an exchange that fails, and the store of a cell.
use Rattle.std.proofs.Common.{◌≡◌, ◌≢◌, ℕ, ◌+◌, ◌-◌, ◌*◌, ◌/◌, ◌%◌, ◌<◌, ◌≤◌, List, length, get_or, set, true, refl, sym, ap, ◌∙◌, subst, arith, get_or-set_other, get_or-set_same}
use Rattle.std.specs.Prelude as std
use mathlib.Core.Option.{Option, none, some}
use mathlib.Core.Logic.{dite}
use native.Mathlib.Decide.{dec_lt}
use lib.ListN.{get_elem?}
use lib.Seq.{set-get_or}
use Rattle.std.specs.Int.{bit_at}
use Rattle.atomic_table.specs.Table.{Act, step, stepped, keeps, carried_after, Valid, Allows}
use Rattle.atomic_table.proofs.Lists.{one_turn}
use Rattle.zy_shuffle.proofs.HandLemmas.{fetch_act, fetches}
use Rattle.zy_shuffle.proofs.MoveLemmas.{looked_on}
use Rattle.zy_shuffle.proofs.RoleLemmas.{IsRoleOf, reheld, role_is, standing_of}
use Rattle.zy_shuffle.specs.Hand.{emptied}
use Rattle.zy_shuffle.specs.Holder.{Holder, at_bell, bell, core_count, in_hand, in_queue, nobody, weight}
use Rattle.zy_shuffle.specs.ShuffleRule.{RingState, IsNote, IsRole, IsRung, Knows, Lies, ShuffleRule, Standing}
use Rattle.zy_shuffle.specs.HomeRole.{IsActive, with_bells, with_stored}
use Rattle.zy_shuffle.specs.Step.{Seated, fronted, fronting, noting, noting_bells, saw_bells, saw_cell, saw_head, saw_tail, stored_cell, storing}
use Rattle.zy_shuffle.specs.View.{head_step, plain_step, tail_step, traced, try_step}
use Rattle.zy_shuffle.specs.Word.{bell_at, cell}
use Rattle.zy_shuffle.specs.declared.ring.view.Role.TheVariants.{Core, Home}
use Rattle.zy_shuffle.specs.declared.ring.view.Trace.{Trace}
use Rattle.zy_shuffle.specs.declared.ring.view.View.{View}
use Rattle.zy_table.proofs.MemberLemmas.{front_distinct, front_in}
use Rattle.zy_table.proofs.SumLemmas.{sum_less}
use Rattle.zy_table.specs.Member.{is_in}
use Rattle.zy_table.specs.declared.name.Name.{Name}

module _ {T M : Type 0} (mark : T → M) (label : T → Name) where
  abbrev pub Goes : RingState T → ℕ → ℕ → Seated T → (Seated T → Type 0) → ℕ → Type 0
  Goes s i id me told w = (v : View T) × (a : Act (std.Option T)) × Valid s.homes me.1 a × ShuffleRule mark label (stepped s i w id me.1 v a) × told (v, carried_after me.1 a)

  -- a view with another trace and another note
  knows_looked : (now : Standing M) (j : ℕ) (v : View T) (t : Trace) (n : std.Option (ℕ × ℕ)) → t.head.value ≤ now.head → t.tail.value ≤ now.tail → IsNote now.words now.head now.tail now.places n
      → Knows mark label now j v → Knows mark label now j record v { trace = t; note = n }
  knows_looked now j v t n a b c k = record { hand = k.hand; apart = k.apart; same = k.same; head_seen = a; tail_seen = b; note = c; role = k.role }

  -- the table as it was, with another view of the same kind
  pub seen : (s : RingState T) (r : ShuffleRule mark label s) (id i : ℕ) (v v' : View T) → get_elem? s.views id ≡ some v → core_count v'.role ≡ core_count v.role → IsActive v.role
      → Knows mark label (standing_of r) id v' → ((q : ℕ) → is_in q v.hand ≡ true → is_in q v'.hand ≡ true) → v'.trace.run ≡ v.trace.run → v'.trace.seats ≡ v.trace.seats
      → ShuffleRule mark label record { words = set s.words i (get_or s.words i 0); homes = s.homes; views = set s.views id v' }
  seen s r id i v v' at kind active knows live run seats =
      let same : set s.words i (get_or s.words i 0) ≡ s.words = set-get_or s.words i 0 in
      looked_on mark label s r id v v' i (get_or s.words i 0) record {
        at = at;
        kind = kind;
        active = active;
        head_now = ap (λ ws. get_or ws 0 0) same ∙ r.head_is;
        tail_now = ap (λ ws. get_or ws 16 0) same ∙ r.tail_is;
        cells = λ k a b. ap (λ ws. cell ws (length s.homes) k) same;
        rings = λ q. ap (λ ws. bell_at ws (length s.homes) q) same;
        quiet = λ _. ap (λ ws. cell ws (length s.homes) r.tail) same;
        knows = subst (λ ws. Knows mark label (record (standing_of r) { words = ws }) id v') (sym same) knows;
        live = live;
        run = run;
        seats = seats;
      }

  pub loads_head : (n id : ℕ) (me : Seated T) → IsActive me.0.role → Allows (ShuffleRule mark label) n id me 0 (λ y. y) (saw_head (step n 0 0 0 none) me)
  loads_head n id me active s r wide at _ =
      let y : ℕ = get_or s.words 0 0 in
      let k = r.each_seat id me.0 at in
      let is = r.head_is in
      let v' : View T = traced (head_step y) me.0 in
      (v', keeps, tt, seen s r id 0 me.0 v' at refl active (knows_looked (standing_of r) id me.0 (head_step y me.0.trace) me.0.note (omega arith) k.tail_seen k.note k) (λ q e. e) refl refl, refl)

  pub loads_tail : (n id : ℕ) (me : Seated T) → IsActive me.0.role → Allows (ShuffleRule mark label) n id me 16 (λ y. y) (saw_tail (step n 16 0 0 none) me)
  loads_tail n id me active s r wide at _ =
      let y : ℕ = get_or s.words 16 0 in
      let k = r.each_seat id me.0 at in
      let is = r.tail_is in
      let v' : View T = traced (tail_step y r.head) me.0 in
      let hs = k.head_seen in
      let sums = r.sums in (
        v',
        keeps,
        tt,
        seen s r id 16 me.0 v' at refl active (knows_looked (standing_of r) id me.0 (tail_step y r.head me.0.trace) me.0.note k.head_seen (omega arith) k.note k) (λ q e. e) refl refl,
        (r.head, refl, omega arith, omega arith, λ e. is ∙ r.barren (wide ∙ e)),
      )

  pub loads_cell : (n id i : ℕ) (me : Seated T) → IsActive me.0.role → me.0.trace.head.value < me.0.trace.tail.value → i ≡ 32 + me.0.trace.head.value % n → Allows (ShuffleRule mark label) n id me i (λ y. y) (saw_cell (step n i 0 0 none) me)
  loads_cell n id i me active below is s r wide at _ =
      let y : ℕ = get_or s.words i 0 in
      let k = r.each_seat id me.0 at in
      let h : ℕ = me.0.trace.head.value in
      let v' : View T = noting h y me.0 in
      let ts = k.tail_seen in
      let at_cell : cell s.words (length s.homes) h ≡ y = ap (λ (m : ℕ). get_or s.words (32 + h % m) 0) wide ∙ ap (λ (m : ℕ). get_or s.words m 0) (sym is) in
      (v', keeps, tt, seen s r id i me.0 v' at refl active (knows_looked (standing_of r) id me.0 (plain_step me.0.trace) (std.Some (h, y)) k.head_seen k.tail_seen (omega arith, λ _. at_cell) k) (λ q e. e) refl refl, refl)

  -- an exchange of the head that fails
  pub misses : (s : RingState T) (r : ShuffleRule mark label s) (id : ℕ) (me : Seated T) (told : Seated T → Type 0) → get_elem? s.views id ≡ some me.0 → IsActive me.0.role → told (traced (try_step (get_or s.words 0 0)) me.0, me.1) → Goes s 0 id me told (get_or s.words 0 0)
  misses s r id me told at active t =
      let y : ℕ = get_or s.words 0 0 in
      let k = r.each_seat id me.0 at in
      let v' : View T = traced (try_step y) me.0 in
      (v', keeps, tt, seen s r id 0 me.0 v' at refl active (knows_looked (standing_of r) id me.0 (try_step y me.0.trace) me.0.note k.head_seen k.tail_seen k.note k) (λ q e. e) refl refl, t)

  -- the slots that a seat has taken out
  pub out_with : (s : RingState T) (r : ShuffleRule mark label s) (id : ℕ) (v : View T) → get_elem? s.views id ≡ some v → (q : ℕ) → is_in q v.hand ≡ true → get_elem? s.homes q ≡ some none
  out_with s r id v at q e =
      let h = (r.each_seat id v at).hand q e in
      subst (λ (x : Holder). Lies mark label s.homes r.marks r.name q x) h.1 (r.each_place q h.0).lies

  pub fronts : (n id p : ℕ) (me : Seated T) → me.1 ≡ emptied me.0.hand → IsActive me.0.role → is_in p me.0.hand ≡ true → Allows (ShuffleRule mark label) n id me 0 (λ y. y) (λ y m. fronted p me y m)
  fronts n id p me out active has s r wide at _ =
      let y : ℕ = get_or s.words 0 0 in
      let k = r.each_seat id me.0 at in
      let is = r.head_is in
      let hand : List ℕ = me.0.hand in
      let v' : View T = fronting p y me.0 in
      let f = fetches s.homes p hand has k.apart (out_with s r id me.0 at) in
      let knows : Knows mark label (standing_of r) id v' = record {
        hand = λ q e. k.hand q (sym (front_in p q hand has) ∙ e);
        apart = front_distinct p hand k.apart;
        same = λ q e. k.same q (sym (front_in p q hand has) ∙ e);
        head_seen = omega arith;
        tail_seen = k.tail_seen;
        note = k.note;
        role = reheld r id me.0 at active v'.hand;
      } in
      subst (λ (cs : List (ℕ × std.Option T)). (w : View T) × (a : Act (std.Option T)) × Valid s.homes cs a × ShuffleRule mark label (stepped s 0 y id cs w a) × fronted p me y (w, carried_after cs a)) (sym out) (
        v',
        fetch_act p hand,
        f.0,
        subst (λ (hs : List (Option (std.Option T))). ShuffleRule mark label record { words = set s.words 0 y; homes = hs; views = set s.views id v' }) (sym f.2) (seen s r id 0 me.0 v' at refl active knows (λ q e. front_in p q hand has ∙ e) refl refl),
        (λ i. (v', f.1 i)),
      )

  -- a holder counts for at most one
  pub light : (x : Holder) → weight x ≤ 1
  light nobody = omega arith
  light (in_queue k) = omega arith
  light (in_hand j) = omega arith
  light back = omega arith

  -- while a place is in a hand, the queue has room for it
  pub room : (s : RingState T) (r : ShuffleRule mark label s) (p j : ℕ) → p < length s.homes → r.holders p ≡ in_hand j → r.tail < r.head + length s.homes
  room s r p j near is =
      let a = sum_less (length s.homes) 1 p (λ q. weight (r.holders q)) (λ q. light (r.holders q)) near (let b = ap weight is in omega arith) in
      let b = r.sums in omega arith

  pub cell_apart : (s : RingState T) (r : ShuffleRule mark label s) (p j : ℕ) → p < length s.homes → r.holders p ≡ in_hand j → (k : ℕ) → r.head ≤ k → k < r.tail → k % length s.homes ≢ r.tail % length s.homes
  cell_apart s r p j near is k a b e = let c = room s r p j near is in let d = one_turn k r.tail (length s.homes) (omega arith) (omega arith) e in omega arith

  pub stores_cell : (n id p i t out : ℕ) (st : std.Option ℕ) (nt : std.Option (ℕ × ℕ)) (me : Seated T) → me.1 ≡ emptied me.0.hand → me.0.role ≡ Home t st nt out → is_in p me.0.hand ≡ true → i ≡ 32 + t % n
      → Allows (ShuffleRule mark label) n id me i (λ _. p) (λ _ m. stored_cell (step n i p 0 none) me m)
  stores_cell n id p i t out st nt me is_out role has is s r wide at _ =
      let k = r.each_seat id me.0 at in
      let m : ℕ = length s.homes in
      let hand : List ℕ = me.0.hand in
      let ws' : List ℕ = set s.words i p in
      let mine = k.hand p has in
      let near = mine.0 in
      let v' : View T = storing p me.0 in
      let f = fetches s.homes p hand has k.apart (out_with s r id me.0 at) in
      let home = role_is r id me.0 at role in
      let t_is : t ≡ r.tail = home.2 in
      let i_is : i ≡ 32 + r.tail % m = is ∙ ap (λ (x : ℕ × ℕ). 32 + x.0 % x.1) (λ j. (t_is j, sym wide j)) in
      let wide_is = r.wide in
      let lt : r.tail % m < m = omega arith in
      let long : i < length s.words = omega arith in
      let cells : (q : ℕ) → r.head ≤ q → q < r.tail → cell ws' m q ≡ cell s.words m q = λ q a b. get_or-set_other s.words i (32 + q % m) p 0 (λ e. cell_apart s r p id near mine.1 q a b (omega arith)) in
      let head_now : get_or ws' 0 0 ≡ r.head = get_or-set_other s.words i 0 p 0 (λ e. omega arith) ∙ r.head_is in
      let tail_now : get_or ws' 16 0 ≡ r.tail = get_or-set_other s.words i 16 p 0 (λ e. omega arith) ∙ r.tail_is in
      let rings : (q : ℕ) → bell_at ws' m q ≡ bell_at s.words m q = λ q. ap (λ x. bit_at x (q % 64)) (get_or-set_other s.words i (32 + m + q / 64) p 0 (λ e. omega arith)) in
      let stored : cell ws' m r.tail ≡ p = ap (λ x. get_or ws' x 0) (sym i_is) ∙ get_or-set_same s.words i p 0 long in
      let role' : with_stored p me.0.role ≡ Home t (std.Some p) nt out = ap (with_stored p) role in
      let after : Standing M = record (standing_of r) { words = ws' } in
      let knows : Knows mark label after id v' = record {
        hand = λ q e. k.hand q (sym (front_in p q hand has) ∙ e);
        apart = front_distinct p hand k.apart;
        same = λ q e. k.same q (sym (front_in p q hand has) ∙ e);
        head_seen = k.head_seen;
        tail_seen = k.tail_seen;
        note = noted ws' cells me.0.note k.note;
        role = subst (IsRole mark label after id v') (sym role') (home.0, home.1, home.2, home.3, stored, home.5, home.6, home.7);
      } in
      let done = looked_on mark label s r id me.0 v' i p record {
        at = at;
        kind = ap core_count role' ∙ sym (ap core_count role);
        active = subst IsActive (sym role) tt;
        head_now = head_now;
        tail_now = tail_now;
        cells = cells;
        rings = rings;
        quiet = λ e. absurd (home_core (sym role ∙ e));
        knows = knows;
        live = λ q e. front_in p q hand has ∙ e;
        run = refl;
        seats = refl;
      } in
      subst (λ (cs : List (ℕ × std.Option T)). (w : View T) × (a : Act (std.Option T)) × Valid s.homes cs a × ShuffleRule mark label (stepped s i p id cs w a) × stored_cell (step n i p 0 none) me (w, carried_after cs a)) (sym is_out) (
        v',
        fetch_act p hand,
        f.0,
        subst (λ (hs : List (Option (std.Option T))). ShuffleRule mark label record { words = ws'; homes = hs; views = set s.views id v' }) (sym f.2) done,
        (λ i. (v', f.1 i)),
      )
    where
      home_core : {t out : ℕ} {st : std.Option ℕ} {nt : std.Option (ℕ × ℕ)} → Home t st nt out ≡ Core → ⊥
      home_core e = cc

      noted : (ws' : List ℕ) → ((q : ℕ) → r.head ≤ q → q < r.tail → cell ws' (length s.homes) q ≡ cell s.words (length s.homes) q) → (x : std.Option (ℕ × ℕ)) → IsNote s.words r.head r.tail (length s.homes) x → IsNote ws' r.head r.tail (length s.homes) x
      noted ws' c std.None h = tt
      noted ws' c (std.Some x) h = (h.0, λ le. c x.0 le h.0 ∙ h.1 le)

  is_rung : (x : Holder) → bell x ≡ 1 → x ≡ at_bell
  is_rung nobody e = cc
  is_rung (in_queue k) e = cc
  is_rung (in_hand j) e = cc
  is_rung at_bell e = refl

  pub loads_bells : (n id i w t out : ℕ) (st : std.Option ℕ) (nt : std.Option (ℕ × ℕ)) (me : Seated T) → me.0.role ≡ Home t st nt out → i ≡ 32 + n + w → Allows (ShuffleRule mark label) n id me i (λ y. y) (saw_bells (step n i 0 0 none) me)
  loads_bells n id i w t out st nt me role i_is s r wide at _ =
      let y : ℕ = get_or s.words i 0 in
      let m : ℕ = length s.homes in
      let k = r.each_seat id me.0 at in
      let c : ℕ = i - (32 + n) in
      let w_is : c ≡ w = omega arith in
      let v' : View T = noting_bells c y me.0 in
      let home = role_is r id me.0 at role in
      let role' : with_bells (std.Some (c, y)) me.0.role ≡ Home t st (std.Some (c, y)) out = ap (with_bells (std.Some (c, y))) role in
      let rung : IsRung m r.holders (std.Some (c, y)) = λ b lt one.
      let q : ℕ = 64 * c + b in
      let word : 32 + m + q / 64 ≡ i = omega arith in
      let bit : bell_at s.words m q ≡ 1 = ap (λ (z : ℕ × ℕ). bit_at (get_or s.words z.0 0) z.1) (λ j. (word j, (let e : q % 64 ≡ b = omega arith in e) j)) ∙ one in
      dite (dec_lt q m)
      (λ near. (near, is_rung (r.holders q) (sym (r.each_place q near).rings ∙ bit)))
      (λ far. let a = r.blank q (omega arith) in absurd (omega arith)) in (
        v',
        keeps,
        tt,
        seen s r id i me.0 v' at (ap core_count role' ∙ sym (ap core_count role)) (subst IsActive (sym role) tt)
            record {
              hand = k.hand;
              apart = k.apart;
              same = k.same;
              head_seen = k.head_seen;
              tail_seen = k.tail_seen;
              note = k.note;
              role = subst (IsRoleOf r id v') (sym role') (home.0, home.1, home.2, home.3, home.4, rung, home.6, home.7);
            }
            (λ q e. e)
            refl
            refl,
        refl,
      )
