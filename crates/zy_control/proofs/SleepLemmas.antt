-- The steps on sleepers keep the rule.
use Rattle.std.proofs.Common.{◌≡◌, ◌≢◌, ℕ, ◌+◌, ◌*◌, ◌%◌, ◌^◌, ◌<◌, ◌≤◌, Bool, List, [], set, true, false, refl, sym}
use Rattle.std.proofs.Common.{ap, ◌∙◌, subst, arith, length-set, get_or, get_or-set_same, get_or-set_other, w64}
use Rattle.std.specs.Int.{bit_at, bit_not}
use Rattle.std.specs.Int.Bits.{bit_or, bit_and}
use Rattle.std.proofs.lemmas.Nat.Bits.{bit_at_and, bit_at_above, bit_at_set_same, bit_at_set_other, bit_at_clear_same}
use Rattle.std.proofs.lemmas.Nat.Bits.{bit_at_clear_other}
use mathlib.Core.Logic.{dite}
use mathlib.Core.Option.{some}
use native.Mathlib.Decide.{ℕ_discrete, dec_le}
use lib.ListN.{get_elem?}
use Rattle.atomic_table.specs.Table.{State, keeps, Allows}
use Rattle.zy_control.specs.declared.view.Role.{Role}
use Rattle.zy_control.specs.declared.view.Role.TheVariants.{Root, Core, Watcher}
use Rattle.zy_control.specs.declared.view.View.{View}
use Rattle.zy_control.specs.View.{view, sleepers_step, announcing}
use Rattle.zy_control.specs.ControlRule.{is_named, is_asleep, has_one, is_one, IsRole, ControlRule}
use Rattle.zy_control.specs.Step.{announces, withdraws, sees_sleepers}
use Rattle.zy_control.proofs.RestLemmas.{one_same, one_other, asleep_else, asleep_some}
use Rattle.zy_control.proofs.MoveLemmas.{stepped, seen}

-- the bit of a core, and every other bit
abbrev pub bit_of : ℕ → ℕ
bit_of number = 1 * 2 ^ number % 2 ^ 64

abbrev pub others : ℕ → ℕ
others number = bit_not w64 (bit_of number)

-- the seat is of the core with this number
abbrev pub IsNumbered : ℕ → Role → Type 0
IsNumbered number (Root given) = ⊥
IsNumbered number (Core n has announced) = number ≡ n
IsNumbered number Watcher = ⊥

-- announcing changes only whether the core has announced itself
one_announced : (is : Bool) (r : Role) → has_one (announcing is r) ≡ has_one r
one_announced is (Root given) = refl
one_announced is (Core number true announced) = refl
one_announced is (Core number false announced) = refl
one_announced is Watcher = refl

kind_announced : (is : Bool) (r : Role) → is_one (announcing is r) ≡ is_one r
kind_announced is (Root given) = refl
kind_announced is (Core number has announced) = refl
kind_announced is Watcher = refl

named_announced : (is : Bool) (i : ℕ) (r : Role) → is_named i (announcing is r) ≡ is_named i r
named_announced is i (Root given) = refl
named_announced is i (Core number has announced) = refl
named_announced is i Watcher = refl

role_announced : (is : Bool) (vs : List View) (j number : ℕ) (r : Role) → IsNumbered number r → IsRole vs j (announcing is r)
role_announced is vs j number (Root given) of = absurd of
role_announced is vs j number (Core n has announced) of = tt
role_announced is vs j number Watcher of = absurd of

-- the seats with this number
here_named : (number i : ℕ) (r : Role) → IsNumbered number r → i ≡ number → is_named i r ≡ 1
here_named number i (Root given) of e = absurd of
here_named number i (Core n has announced) of e = one_same n i (sym of ∙ sym e)
here_named number i Watcher of e = absurd of

here_asleep : (number i : ℕ) (r : Role) → IsNumbered number r → i ≡ number → is_asleep i (announcing true r) ≡ 1
here_asleep number i (Root given) of e = absurd of
here_asleep number i (Core n has announced) of e = one_same n i (sym of ∙ sym e)
here_asleep number i Watcher of e = absurd of

here_awake : (i : ℕ) (r : Role) → is_asleep i (announcing false r) ≡ 0
here_awake i (Root given) = refl
here_awake i (Core n has announced) = refl
here_awake i Watcher = refl

-- every other seat
else_asleep : (is : Bool) (number i : ℕ) (r : Role) → IsNumbered number r → i ≢ number → is_asleep i (announcing is r) ≡ 0
else_asleep is number i (Root given) of ne = absurd of
else_asleep true number i (Core n has announced) of ne = one_other n i (λ e. ne (sym e ∙ sym of))
else_asleep false number i (Core n has announced) of ne = refl
else_asleep is number i Watcher of ne = absurd of

else_before : (number i : ℕ) (r : Role) → IsNumbered number r → i ≢ number → is_asleep i r ≡ 0
else_before number i (Root given) of ne = absurd of
else_before number i (Core n has true) of ne = one_other n i (λ e. ne (sym e ∙ sym of))
else_before number i (Core n has false) of ne = refl
else_before number i Watcher of ne = absurd of

-- before its step, the bit of a core says whether it has announced itself
pub own_bit : (n : ℕ) (s : State ℕ View) (id number : ℕ) (v : View) → ControlRule n s → get_elem? s.views id ≡ some v → IsNumbered number v.role
    → bit_at (get_or s.words 2 0) number ≡ is_asleep number v.role
own_bit n s id number v r at of =
    let a = r.sleepers number in let b = asleep_else number s.views id v at in let c = asleep_some number s.views id v at in let d = r.alone number in
    let e = here_named number number v.role of refl in omega arith

-- a step on sleepers that gives the core's bit what the core then knows, and leaves the others
turned : (n slots id number : ℕ) (is : Bool) (v : View) (x : ℕ) (s : State ℕ View) → ControlRule n s → get_elem? s.views id ≡ some v → IsNumbered number v.role
    → bit_at x number ≡ is_asleep number (announcing is v.role) → ((i : ℕ) → i ≢ number → bit_at x i ≡ bit_at (get_or s.words 2 0) i)
    → ControlRule n (record { words = set s.words 2 x; homes = s.homes; views = set s.views id (view (announcing is v.role) v.cores (sleepers_step x v.trace)) })
turned n slots id number is v x s r at of here else =
    let words : List ℕ = set s.words 2 x in
    let w : View = view (announcing is v.role) v.cores (sleepers_step x v.trace) in
    let wide = r.wide in
    let new : get_or words 2 0 ≡ x = get_or-set_same s.words 2 x 0 (omega arith) in
    let done : get_or words 0 0 ≡ get_or s.words 0 0 = get_or-set_other s.words 2 0 x 0 (omega arith) in
    let stop : get_or words 1 0 ≡ get_or s.words 1 0 = get_or-set_other s.words 2 1 x 0 (omega arith) in
    let one = one_announced is v.role in
    let k = r.each id v at in
    stepped n s words id v w r (record {
      at = at;
      wide = length-set s.words 2 x ∙ r.wide;
      done = omega arith;
      less = omega arith;
      kind = kind_announced is v.role;
      number = λ i. named_announced is i v.role;
      sleepers = λ i. let b = ap (λ y. bit_at y i) new in dite (ℕ_discrete i number)
          (λ (e : i ≡ number). let c = own_bit n s id number v r at of in
          subst (λ (m : ℕ). bit_at (get_or words 2 0) m + is_asleep m v.role ≡ bit_at (get_or s.words 2 0) m + is_asleep m w.role) (sym e)
          (let f = ap (λ y. bit_at y number) new in omega arith))
          (λ (ne : i ≢ number). let c = else i ne in let d = else_asleep is number i v.role of ne in let f = else_before number i v.role of ne in omega arith);
      stop = λ i h. ap (λ y. bit_at y i) stop ∙ h;
      knows = record {
        cores_are = k.cores_are;
        done_seen = (let d = k.done_seen in omega arith);
        stop_seen = λ i h. ap (λ y. bit_at y i) stop ∙ k.stop_seen i h;
        role = role_announced is (set s.views id w) id number v.role of;
      };
    })

pub announces_allowed : (n slots id number : ℕ) (v : View) → IsNumbered number v.role → number < 64
    → Allows (ControlRule n) slots id (v, []) 2 (λ y. bit_or y (bit_of number)) (λ r w. announces (bit_of number) (v, []) r w)
announces_allowed n slots id number v of lt s r wide at low =
    let y : ℕ = get_or s.words 2 0 in (
      view (announcing true v.role) v.cores (sleepers_step (bit_or y (bit_of number)) v.trace),
      keeps,
      tt,
      turned n slots id number true v (bit_or y (bit_of number)) s r at of
          (bit_at_set_same w64 y number lt ∙ sym (here_asleep number number v.role of refl))
          (λ i ne. bit_at_set_other w64 y number lt i ne),
      refl,
    )

pub withdraws_allowed : (n slots id number : ℕ) (v : View) → IsNumbered number v.role → number < 64
    → Allows (ControlRule n) slots id (v, []) 2 (λ y. bit_and y (others number)) (λ r w. withdraws (others number) (v, []) r w)
withdraws_allowed n slots id number v of lt s r wide at low =
    let y : ℕ = get_or s.words 2 0 in (
      view (announcing false v.role) v.cores (sleepers_step (bit_and y (others number)) v.trace),
      keeps,
      tt,
      turned n slots id number false v (bit_and y (others number)) s r at of
          (bit_at_clear_same w64 y number lt ∙ sym (here_awake number v.role))
          (λ i ne. dite (dec_le 64 i)
          (λ (high : 64 ≤ i). let a = bit_at_above y 64 i low high in let b = bit_at_and y (others number) i in omega arith)
          (λ (not : ¬ (64 ≤ i)). bit_at_clear_other w64 y number lt i (omega arith) ne)),
      refl,
    )

pub sees_sleepers_allowed : (n slots id : ℕ) (v : View) → Allows (ControlRule n) slots id (v, []) 2 (λ y. y) (λ r w. sees_sleepers (v, []) r w)
sees_sleepers_allowed n slots id v s r wide at low =
    let k = r.each id v at in (
      view v.role v.cores (sleepers_step (get_or s.words 2 0) v.trace),
      keeps,
      tt,
      seen n s 2 id v (sleepers_step (get_or s.words 2 0) v.trace) r at k.done_seen k.stop_seen,
      refl,
    )
