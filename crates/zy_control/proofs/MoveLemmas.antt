-- Each kind of step keeps the rule.
use Rattle.std.proofs.Common.{◌≡◌, ◌≢◌, ℕ, ◌+◌, ◌%◌, ◌^◌, ◌<◌, ◌≤◌, List, [], ◌∷◌, ◌++◌, get_or, set, true, false}
use Rattle.std.proofs.Common.{refl, sym, ap, ◌∙◌, subst, ⊎_elim, arith, length, length-set, get_or-set_same}
use Rattle.std.proofs.Common.{get_or-set_other}
use Rattle.std.specs.Int.{bit_at}
use Rattle.std.proofs.lemmas.Nat.Bits.{bit_at_or, bit_at-lt, bit_at-zero}
use Rattle.std.specs.Int.Bits.{bit_or}
use mathlib.Core.Logic.{dite}
use mathlib.Core.Option.{some}
use native.Mathlib.Decide.{ℕ_discrete}
use lib.ListN.{get_elem?}
use lib.Seq.{set-get_or}
use Rattle.atomic_table.specs.Table.{State, keeps, Allows, Splits, Enters}
use Rattle.atomic_table.proofs.Lists.{at_set, at_snoc}
use Rattle.zy_control.specs.declared.view.Role.{Role}
use Rattle.zy_control.specs.declared.view.Role.TheVariants.{Root, Core, Watcher}
use Rattle.zy_control.specs.declared.view.Trace.{Trace}
use Rattle.zy_control.specs.declared.view.View.{View}
use Rattle.zy_control.specs.View.{view, untraced, done_step, stop_step, counted, Covers, IsUncounted, MustHaveCounted}
use Rattle.zy_control.specs.View.{root_view, gave, newcomer}
use Rattle.zy_control.specs.ControlRule.{has_one, is_one, is_named, is_asleep, cores_in, IsRole, Knows, ControlRule}
use Rattle.zy_control.specs.Step.{counts, sees_done, sees_stop, stops, enters}
use Rattle.zy_control.proofs.CountLemmas.{counted_set, cores_set, counted_end, cores_end, missing}
use Rattle.zy_control.proofs.RestLemmas.{one_same, one_other, named_counted, asleep_counted, named_set, asleep_set}
use Rattle.zy_control.proofs.RestLemmas.{named_end, asleep_end}

-- ---- what other seats know

-- a role stays true when other seats change, as long as the number of seats given to cores stays
role_same : (vs ws : List View) (j : ℕ) (r : Role) → cores_in ws ≡ cores_in vs → IsRole vs j r → IsRole ws j r
role_same vs ws j (Root given) e k = (k.0, k.1 ∙ sym e)
role_same vs ws j (Core number has announced) e k = tt
role_same vs ws j Watcher e k = tt

-- what a seat knows stays true, as done has not fallen and no bit of stop was cleared
knows_same : (words words' : List ℕ) (vs ws : List View) (n j : ℕ) (v : View) → get_or words 0 0 ≤ get_or words' 0 0 → Covers (get_or words 1 0) (get_or words' 1 0) → cores_in ws ≡ cores_in vs → Knows words vs n j v → Knows words' ws n j v
knows_same words words' vs ws n j v more covers e k = record {
  cores_are = k.cores_are;
  done_seen = (let d = k.done_seen in omega arith);
  stop_seen = λ i h. covers i (k.stop_seen i h);
  role = role_same vs ws j v.role e k.role;
}

-- ---- a step of one seat that keeps its kind

-- what the words and the seat after a step must be
pub record Stepped (n : ℕ) (s : State ℕ View) (words : List ℕ) (id : ℕ) (v w : View) : Type 0 where
  pub at : get_elem? s.views id ≡ some v
  pub wide : length words ≡ 3
  pub done : get_or words 0 0 + has_one v.role ≡ get_or s.words 0 0 + has_one w.role
  pub less : has_one v.role ≤ has_one w.role
  pub kind : is_one w.role ≡ is_one v.role
  pub number : (i : ℕ) → is_named i w.role ≡ is_named i v.role
  pub sleepers : (i : ℕ) → bit_at (get_or words 2 0) i + is_asleep i v.role ≡ bit_at (get_or s.words 2 0) i + is_asleep i w.role
  pub stop : Covers (get_or s.words 1 0) (get_or words 1 0)
  pub knows : Knows words (set s.views id w) n id w

pub stepped : (n : ℕ) (s : State ℕ View) (words : List ℕ) (id : ℕ) (v w : View) → ControlRule n s → Stepped n s words id v w → ControlRule n (record { words = words; homes = s.homes; views = set s.views id w })
stepped n s words id v w r t = record {
  wide = t.wide;
  done = (let a = counted_set s.views id v w t.at in let b = r.done in let c = t.done in omega arith);
  few = (let a = cores_set s.views id v w t.at in let b = r.few in let c = t.kind in omega arith);
  fits = r.fits;
  alone = λ i. let a = named_set i s.views id v w t.at in let b = r.alone i in let c = t.number i in omega arith;
  given = λ i le. let a = named_set i s.views id v w t.at in let c = cores_set s.views id v w t.at in let k = t.kind in let b = r.given i (omega arith) in let d = t.number i in omega arith;
  sleepers = λ i. let a = asleep_set i s.views id v w t.at in let b = r.sleepers i in let c = t.sleepers i in omega arith;
  each = λ j x e. let c = cores_set s.views id v w t.at in let k = t.kind in let d = t.done in let l = t.less in ⊎_elim
      (λ (h : (j ≡ id) × (w ≡ x)). subst (λ (y : ℕ × View). Knows words (set s.views id w) n y.0 y.1) (λ i. (sym h.0 i, h.1 i)) t.knows)
      (λ (h : (j ≢ id) × (get_elem? s.views j ≡ some x)). knows_same s.words words s.views (set s.views id w) n j x (omega arith) t.stop (omega arith) (r.each j x h.1))
      (at_set s.views id j w x e);
}

-- a load of one of the words, after which the seat knows the value found
pub seen : (n : ℕ) (s : State ℕ View) (i id : ℕ) (v : View) (t : Trace) → ControlRule n s → get_elem? s.views id ≡ some v → t.done.value ≤ get_or s.words 0 0 → Covers t.stop.value (get_or s.words 1 0)
    → ControlRule n (record { words = set s.words i (get_or s.words i 0); homes = s.homes; views = set s.views id (view v.role v.cores t) })
seen n s i id v t r at done stop =
    let same : set s.words i (get_or s.words i 0) ≡ s.words = set-get_or s.words i 0 in
    let w : View = view v.role v.cores t in
    let k = r.each id v at in
    let few : cores_in (set s.views id w) + is_one v.role ≡ cores_in s.views + is_one v.role = cores_set s.views id v w at in
    subst (λ (ws : List ℕ). ControlRule n (record { words = ws; homes = s.homes; views = set s.views id w })) (sym same) (stepped n s s.words id v w r (record {
      at = at;
      wide = r.wide;
      done = refl;
      less = omega arith;
      kind = refl;
      number = λ j. refl;
      sleepers = λ j. refl;
      stop = λ j h. h;
      knows = record { cores_are = k.cores_are; done_seen = done; stop_seen = stop; role = role_same s.views (set s.views id w) id v.role (omega arith) k.role };
    }))

-- ---- the steps

-- a core that counts itself adds one to the number of those that did
counted_one : (r : Role) → IsUncounted r → has_one (counted r) ≡ has_one r + 1
counted_one (Root given) is = absurd is
counted_one (Core number true announced) is = absurd (cc)
counted_one (Core number false announced) is = refl
counted_one Watcher is = absurd is

-- and it is still the same core
counted_kind : (r : Role) → is_one (counted r) ≡ is_one r
counted_kind (Root given) = refl
counted_kind (Core number has announced) = refl
counted_kind Watcher = refl

counted_role : (vs : List View) (j : ℕ) (r : Role) → IsUncounted r → IsRole vs j (counted r)
counted_role vs j (Root given) is = absurd is
counted_role vs j (Core number has announced) is = tt
counted_role vs j Watcher is = absurd is

pub counts_allowed : (n slots id : ℕ) (v : View) → IsUncounted v.role → Allows (ControlRule n) slots id (v, []) 0 (λ y. (y + 1) % 2 ^ 64) (λ r w. counts (v, []) r w)
counts_allowed n slots id v is s r wide at low =
    let y : ℕ = get_or s.words 0 0 in
    let words : List ℕ = set s.words 0 ((y + 1) % 2 ^ 64) in
    let w : View = view (counted v.role) v.cores (done_step (y + 1) v.trace) in
    let m = missing s.views id v at is in let d = r.done in let f = r.few in let z = r.fits in let ws = r.wide in
    let here : get_or words 0 0 ≡ (y + 1) % 2 ^ 64 = get_or-set_same s.words 0 ((y + 1) % 2 ^ 64) 0 (omega arith) in
    let else : get_or words 1 0 ≡ get_or s.words 1 0 = get_or-set_other s.words 0 1 ((y + 1) % 2 ^ 64) 0 (omega arith) in
    let last : get_or words 2 0 ≡ get_or s.words 2 0 = get_or-set_other s.words 0 2 ((y + 1) % 2 ^ 64) 0 (omega arith) in
    let one = counted_one v.role is in
    let k = r.each id v at in (
      w,
      keeps,
      tt,
      stepped n s words id v w r (record {
        at = at;
        wide = length-set s.words 0 ((y + 1) % 2 ^ 64) ∙ r.wide;
        done = omega arith;
        less = omega arith;
        kind = counted_kind v.role;
        number = λ i. named_counted i v.role;
        sleepers = λ i. let a = asleep_counted i v.role in let b = ap (λ x. bit_at x i) last in omega arith;
        stop = λ j h. ap (λ x. bit_at x j) else ∙ h;
        knows = record {
          cores_are = k.cores_are;
          done_seen = omega arith;
          stop_seen = λ j h. ap (λ x. bit_at x j) else ∙ k.stop_seen j h;
          role = counted_role (set s.views id w) id v.role is;
        };
      }),
      refl,
    )

-- a seat that finds done at the number of cores has counted itself
pub all_counted : (n : ℕ) (s : State ℕ View) (id : ℕ) (v : View) (r : Role) → v.role ≡ r → ControlRule n s → get_elem? s.views id ≡ some v → get_or s.words 0 0 ≡ v.cores → MustHaveCounted r
all_counted n s id v (Root given) is r at found = tt
all_counted n s id v (Core number true announced) is r at found = refl
all_counted n s id v (Core number false announced) is r at found = absurd (
    let m = missing s.views id v at (subst IsUncounted (sym is) refl) in let d = r.done in let f = r.few in let c = (r.each id v at).cores_are in omega arith)
all_counted n s id v Watcher is r at found = tt

pub sees_done_allowed : (n slots id : ℕ) (v : View) → Allows (ControlRule n) slots id (v, []) 0 (λ y. y) (λ r w. sees_done (v, []) r w)
sees_done_allowed n slots id v s r wide at low =
    let k = r.each id v at in (
      view v.role v.cores (done_step (get_or s.words 0 0) v.trace),
      keeps,
      tt,
      seen n s 0 id v (done_step (get_or s.words 0 0) v.trace) r at (omega arith) k.stop_seen,
      (refl, k.done_seen, all_counted n s id v v.role refl r at),
    )

pub sees_stop_allowed : (n slots id : ℕ) (v : View) → Allows (ControlRule n) slots id (v, []) 1 (λ y. y) (λ r w. sees_stop (v, []) r w)
sees_stop_allowed n slots id v s r wide at low =
    let k = r.each id v at in (
      view v.role v.cores (stop_step (get_or s.words 1 0) v.trace),
      keeps,
      tt,
      seen n s 1 id v (stop_step (get_or s.words 1 0) v.trace) r at k.done_seen (λ i h. h),
      (refl, k.stop_seen),
    )

-- no bit is cleared by setting bits
or_covers : (a b : ℕ) → Covers a (bit_or a b)
or_covers a b i h = let e = bit_at_or a b i in let x = bit_at-lt a i in let y = bit_at-lt b i in omega arith

-- setting bit 0 sets it
pub first_bit : (a : ℕ) → bit_at (bit_or a 1) 0 ≡ 1
first_bit a = let e = bit_at_or a 1 0 in let x = bit_at-lt a 0 in let y : bit_at 1 0 ≡ 1 = refl in omega arith

pub stops_allowed : (n slots id mask : ℕ) (v : View) → Allows (ControlRule n) slots id (v, []) 1 (λ y. bit_or y mask) (λ r w. stops mask (v, []) r w)
stops_allowed n slots id mask v s r wide at low =
    let y : ℕ = get_or s.words 1 0 in
    let words : List ℕ = set s.words 1 (bit_or y mask) in
    let w : View = view v.role v.cores (stop_step (bit_or y mask) v.trace) in
    let ws = r.wide in
    let here : get_or words 1 0 ≡ bit_or y mask = get_or-set_same s.words 1 (bit_or y mask) 0 (omega arith) in
    let else : get_or words 0 0 ≡ get_or s.words 0 0 = get_or-set_other s.words 1 0 (bit_or y mask) 0 (omega arith) in
    let last : get_or words 2 0 ≡ get_or s.words 2 0 = get_or-set_other s.words 1 2 (bit_or y mask) 0 (omega arith) in
    let k = r.each id v at in
    let few : cores_in (set s.views id w) + is_one v.role ≡ cores_in s.views + is_one v.role = cores_set s.views id v w at in (
      w,
      keeps,
      tt,
      stepped n s words id v w r (record {
        at = at;
        wide = length-set s.words 1 (bit_or y mask) ∙ r.wide;
        done = omega arith;
        less = omega arith;
        kind = refl;
        number = λ i. refl;
        sleepers = λ i. let b = ap (λ x. bit_at x i) last in omega arith;
        stop = λ j h. ap (λ x. bit_at x j) here ∙ or_covers y mask j h;
        knows = record {
          cores_are = k.cores_are;
          done_seen = (let d = k.done_seen in omega arith);
          stop_seen = λ j h. ap (λ x. bit_at x j) here ∙ h;
          role = role_same s.views (set s.views id w) id v.role (omega arith) k.role;
        };
      }),
      (refl, λ j h. or_covers y mask j (k.stop_seen j h)),
    )

-- ---- seats that are added

-- a seat was added whose knowledge is true
came : (n : ℕ) (s : State ℕ View) (v : View) → ControlRule n s → has_one v.role ≡ 0 → is_one v.role ≡ 0 → ((i : ℕ) → is_named i v.role ≡ 0) → ((i : ℕ) → is_asleep i v.role ≡ 0) → ((j : ℕ) → Knows s.words (s.views ++ v ∷ []) n j v) → ControlRule n (record { words = s.words; homes = s.homes; views = s.views ++ v ∷ [] })
came n s v r none other unnamed awake knows =
    let a = counted_end s.views v in let b = cores_end s.views v in let d = r.done in let f = r.few in record {
      wide = r.wide;
      done = omega arith;
      few = omega arith;
      fits = r.fits;
      alone = λ i. let c = named_end i s.views v in let e = r.alone i in let g = unnamed i in omega arith;
      given = λ i le. let c = named_end i s.views v in let e = r.given i (omega arith) in let g = unnamed i in omega arith;
      sleepers = λ i. let c = asleep_end i s.views v in let e = r.sleepers i in let g = awake i in omega arith;
      each = λ j x e. ⊎_elim
          (λ (h : get_elem? s.views j ≡ some x). knows_same s.words s.words s.views (s.views ++ v ∷ []) n j x (omega arith) (λ i g. g) (omega arith) (r.each j x h))
          (λ (h : v ≡ x). subst (Knows s.words (s.views ++ v ∷ []) n j) h (knows j))
          (at_snoc s.views v x j e);
    }

pub watcher_enters : (n slots : ℕ) → Enters (ControlRule n) slots 1 (λ r w. enters (root_view n, []) r (w, []))
watcher_enters n slots s r wide low =
    let v : View = view Watcher n (stop_step (get_or s.words 1 0) untraced) in
    (v, came n s v r refl refl (λ i. refl) (λ i. refl) (λ j. record { cores_are = refl; done_seen = omega arith; stop_seen = λ i h. h; role = tt }), refl)

-- seat 0 is the only root
only_root : (vs ws : List View) (id j : ℕ) (r : Role) → id ≡ 0 → j ≢ id → IsRole vs j r → IsRole ws j r
only_root vs ws id j (Root given) z ne k = absurd (ne (k.0 ∙ sym z))
only_root vs ws id j (Core number has announced) z ne k = tt
only_root vs ws id j Watcher z ne k = tt

pub gives_allowed : (n id given cores : ℕ) (t : Trace) → given < n → Splits (ControlRule n) id (view (Root given) cores t) (gave (view (Root given) cores t)) (newcomer (view (Root given) cores t))
gives_allowed n id given cores t lt s r at =
    let v : View = view (Root given) cores t in
    let w : View = view (Root (given + 1)) cores t in
    let u : View = view (Core given false false) cores untraced in
    let vs : List View = set s.views id w ++ u ∷ [] in
    let k = r.each id v at in
    let a = counted_set s.views id v w at in let b = counted_end (set s.views id w) u in
    let c = cores_set s.views id v w at in let d = cores_end (set s.views id w) u in
    let is = k.cores_are in let one = k.role.1 in let done = r.done in record {
      wide = r.wide;
      done = omega arith;
      few = omega arith;
      fits = r.fits;
      alone = λ i. let e = named_set i s.views id v w at in let g = named_end i (set s.views id w) u in dite (ℕ_discrete given i)
          (λ (same : given ≡ i). let o = one_same given i same in let z = r.given i (omega arith) in omega arith)
          (λ (ne : given ≢ i). let o = one_other given i ne in let z = r.alone i in omega arith);
      given = λ i le. let e = named_set i s.views id v w at in let g = named_end i (set s.views id w) u in
          let o = one_other given i (λ same. absurd (let h : given ≡ i = same in omega arith)) in let z = r.given i (omega arith) in omega arith;
      sleepers = λ i. let e = asleep_set i s.views id v w at in let g = asleep_end i (set s.views id w) u in let h = r.sleepers i in omega arith;
      each = λ j x e. ⊎_elim
          (λ (h : get_elem? (set s.views id w) j ≡ some x). ⊎_elim
          (λ (g : (j ≡ id) × (w ≡ x)). subst (λ (y : ℕ × View). Knows s.words vs n y.0 y.1) (λ i. (sym g.0 i, g.1 i)) (record { cores_are = k.cores_are; done_seen = k.done_seen; stop_seen = k.stop_seen; role = (k.role.0, omega arith) }))
          (λ (g : (j ≢ id) × (get_elem? s.views j ≡ some x)). let o = r.each j x g.1 in record { cores_are = o.cores_are; done_seen = o.done_seen; stop_seen = o.stop_seen; role = only_root s.views vs id j x.role k.role.0 g.0 o.role })
          (at_set s.views id j w x h))
          (λ (h : u ≡ x). subst (Knows s.words vs n j) h (record { cores_are = k.cores_are; done_seen = omega arith; stop_seen = λ i g. absurd (let z = bit_at-zero i in omega arith); role = tt }))
          (at_snoc (set s.views id w) u x j e);
    }
