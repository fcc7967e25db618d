-- What a seat of a ring knows by its role, while the rule of the ring's table holds.
use Rattle.std.proofs.Common.{◌≡◌, ◌≢◌, ℕ, ◌≤◌, List, [], refl, sym, ◌∙◌, subst, arith}
use mathlib.Core.Option.{some}
use lib.ListN.{get_elem?}
use Rattle.zy_shuffle.proofs.HandLemmas.{cores_at}
use Rattle.zy_shuffle.specs.Hand.{marked}
use Rattle.zy_shuffle.specs.Holder.{core_count, cores}
use Rattle.zy_shuffle.specs.HomeRole.{IsActive, IsHome}
use Rattle.zy_shuffle.specs.ShuffleRule.{IsRole, RingState, ShuffleRule, Standing, standing}
use Rattle.zy_shuffle.specs.declared.ring.view.Role.{Role}
use Rattle.zy_shuffle.specs.declared.ring.view.Role.TheVariants.{Closed, Core, Home, Spent, Start}
use Rattle.zy_shuffle.specs.declared.ring.view.View.{View}
use Rattle.zy_table.specs.declared.name.Name.{Name}

module _ {T M : Type 0} {mark : T → M} {label : T → Name} {s : RingState T} (r : ShuffleRule mark label s) where
  -- how the table stands by its rule
  abbrev pub standing_of : Standing M
  standing_of = standing s r.head r.tail r.name r.holders r.marks

  -- what seat `j` with this view knows if it has this role
  abbrev pub IsRoleOf : ℕ → View T → Role → Type 0
  IsRoleOf j v x = IsRole mark label standing_of j v x

module _ {T M : Type 0} {mark : T → M} {label : T → Name} {s : RingState T} (r : ShuffleRule mark label s) (j : ℕ) (v : View T) (at : get_elem? s.views j ≡ some v) where
  -- what it knows, if it has this role
  pub role_is : {x : Role} → v.role ≡ x → IsRoleOf r j v x
  role_is e = subst (IsRoleOf r j v) e (r.each_seat j v at).role

  -- an active seat has the label of the ring
  pub tag_of : IsActive v.role → v.label ≡ r.name
  tag_of active = go v.role active (r.each_seat j v at).role
    where
      go : (x : Role) → IsActive x → IsRoleOf r j v x → v.label ≡ r.name
      go Spent a h = absurd a
      go Start a h = absurd a
      go Core a h = h.0
      go (Home t st nt out) a h = h.1
      go (Closed gone) a h = absurd a

  -- the home keeps the mark of each place
  pub kept_of : IsHome v.role → (p : ℕ) → marked mark p v.kept ≡ r.marks p
  kept_of home p = go v.role home (r.each_seat j v at).role
    where
      go : (x : Role) → IsHome x → IsRoleOf r j v x → marked mark p v.kept ≡ r.marks p
      go Spent a h = absurd a
      go Start a h = absurd a
      go Core a h = absurd a
      go (Home t st nt out) a h = h.6 p
      go (Closed gone) a h = absurd a

  -- the role of an active seat does not depend on a hand
  pub reheld : IsActive v.role → (hand : List ℕ) → IsRoleOf r j (record v { hand = hand }) v.role
  reheld active hand = go v.role active (r.each_seat j v at).role
    where
      go : (x : Role) → IsActive x → IsRoleOf r j v x → IsRoleOf r j (record v { hand = hand }) x
      go Spent a h = absurd a
      go Start a h = absurd a
      go Core a h = h
      go (Home t st nt out) a h = h
      go (Closed gone) a h = absurd a

  -- while it is active, no other seat is at its start or its end
  pub lone : IsActive v.role → (other : ℕ) → other ≢ j → other ≡ 0 → cores s.views ≡ 0 → ⊥
  lone active other ne first none = go v.role active (r.each_seat j v at).role (cores_at s.views j v at)
    where
      go : (x : Role) → IsActive x → IsRoleOf r j v x → core_count x ≤ cores s.views → ⊥
      go Spent a h c = a
      go Start a h c = a
      go Core a h c = let n = none in omega arith
      go (Home t st nt out) a h c = ne (first ∙ sym h.0)
      go (Closed gone) a h c = a

  -- if it is active and another seat is the home's, it is a core's
  pub other_core : IsActive v.role → (other : ℕ) → other ≢ j → other ≡ 0 → v.role ≡ Core
  other_core active other ne first = go v.role active (r.each_seat j v at).role
    where
      go : (x : Role) → IsActive x → IsRoleOf r j v x → x ≡ Core
      go Spent a h = absurd a
      go Start a h = absurd a
      go Core a h = refl
      go (Home t st nt out) a h = absurd (ne (first ∙ sym h.0))
      go (Closed gone) a h = absurd a

  -- while no core is out, it has an empty hand, unless it is the home's
  pub alone : cores s.views ≡ 0 → j ≢ 0 → (v.role ≡ Spent) × (v.hand ≡ [])
  alone none ne = go v.role (r.each_seat j v at).role (cores_at s.views j v at)
    where
      go : (x : Role) → IsRoleOf r j v x → core_count x ≤ cores s.views → (x ≡ Spent) × (v.hand ≡ [])
      go Spent h c = (refl, h)
      go Start h c = absurd (ne h.0)
      go Core h c = let n = none in absurd (omega arith)
      go (Home t st nt out) h c = absurd (ne h.0)
      go (Closed gone) h c = absurd (ne h.0)
