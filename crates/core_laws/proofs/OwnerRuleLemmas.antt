-- What follows from the rule: the queue is bounded, and each place is in one hand, or once in the
-- queue, or at its doorbell.
use Rattle.std.proofs.Common.{◌≡◌, ◌≢◌, ◌⊎◌, ℕ, ◌+◌, ◌<◌, ◌≤◌, length, true, refl, sym, ap, ◌∙◌, subst, inl, inr}
use Rattle.std.proofs.Common.{arith}
use Rattle.zy_table.specs.declared.name.Name.{Name}
use Rattle.zy_table.specs.Member.{is_in}
use Rattle.zy_table.proofs.SumLemmas.{sum_bound}
use Rattle.zy_shuffle.specs.declared.ring.view.View.{View}
use Rattle.zy_shuffle.specs.Word.{cell, bell_at}
use Rattle.zy_shuffle.specs.Holder.{Holder, nobody, in_queue, in_hand, at_bell, weight, bell}
use Rattle.zy_shuffle.specs.HomeRole.{IsHome}
use Rattle.core_laws.specs.OnePlace.{Holds, IsQueued}
use Rattle.zy_shuffle.specs.ShuffleRule.{InQueue, RingState, ShuffleRule}
use Rattle.zy_shuffle.specs.declared.ring.view.Role.{Role}
use Rattle.zy_shuffle.specs.declared.ring.view.Role.TheVariants.{Closed, Core, Home, Spent, Start}
use Rattle.zy_shuffle.proofs.LookLemmas.{light}
use Rattle.zy_shuffle.proofs.RoleLemmas.{IsRoleOf}
use mathlib.Core.Option.{some}
use lib.ListN.{get_elem?}

module _ {T M : Type 0} (mark : T → M) (label : T → Name) (s : RingState T) (r : ShuffleRule mark label s) where
  -- the queue has at most as many entries as the ring has places
  pub bounded : (r.head ≤ r.tail) × (r.tail ≤ r.head + length s.homes)
  bounded =
      let few = sum_bound (length s.homes) 1 (λ p. weight (r.holders p)) (λ p. light mark label (r.holders p)) in
      let sums = r.sums in (omega arith, omega arith)

  -- a place is in at most one hand
  pub one_hand : (i j p : ℕ) (v w : View T) → get_elem? s.views i ≡ some v → get_elem? s.views j ≡ some w → is_in p v.hand ≡ true → is_in p w.hand ≡ true → i ≡ j
  one_hand i j p v w at_i at_j in_v in_w = let a = ((r.each_seat i v at_i).hand p in_v).1 in let b = ((r.each_seat j w at_j).hand p in_w).1 in cc

  -- a place is in the queue at most once
  pub once_queued : (i j : ℕ) → r.head ≤ i → i < r.tail → r.head ≤ j → j < r.tail → cell s.words (length s.homes) i ≡ cell s.words (length s.homes) j → i ≡ j
  once_queued i j a b c d same =
      let x : r.holders (cell s.words (length s.homes) j) ≡ in_queue i = ap r.holders (sym same) ∙ (r.each_cell i a b).1 in
      let y = (r.each_cell j c d).1 in cc

  -- a place in a hand is not at its doorbell, and not in the queue
  pub hand_apart : (j p : ℕ) (v : View T) → get_elem? s.views j ≡ some v → is_in p v.hand ≡ true
      → (bell_at s.words (length s.homes) p ≡ 0) × ((k : ℕ) → r.head ≤ k → k < r.tail → cell s.words (length s.homes) k ≢ p)
  hand_apart j p v at has =
      let mine = (r.each_seat j v at).hand p has in (
        (r.each_place p mine.0).rings ∙ ap bell mine.1,
        λ k a b e. let x : r.holders p ≡ in_queue k = ap r.holders (sym e) ∙ (r.each_cell k a b).1 in let y = mine.1 in cc,
      )

  -- a place in the queue is not at its doorbell
  pub queue_apart : (k : ℕ) → r.head ≤ k → k < r.tail → bell_at s.words (length s.homes) (cell s.words (length s.homes) k) ≡ 0
  queue_apart k a b = let c = r.each_cell k a b in (r.each_place (cell s.words (length s.homes) k) c.0).rings ∙ ap bell c.1

  -- each place is in a hand, or in the queue, or at its doorbell
  pub somewhere : (v : View T) → get_elem? s.views 0 ≡ some v → IsHome v.role → (p : ℕ) → p < length s.homes
      → ((j : ℕ) × Holds s j p)
      ⊎ (((k : ℕ) × IsQueued s r.head r.tail k p) ⊎ (bell_at s.words (length s.homes) p ≡ 1))
  somewhere v at home p near = go (r.holders p) refl
    where
      taken : (x : Role) → IsHome x → IsRoleOf r 0 v x → r.holders p ≡ nobody → ⊥
      taken Spent a h = absurd a
      taken Start a h = absurd a
      taken Core a h = absurd a
      taken (Home t st nt out) a h = h.7 p near
      taken (Closed gone) a h = absurd a

      go : (x : Holder) → r.holders p ≡ x → ((j : ℕ) × Holds s j p)
          ⊎ (((k : ℕ) × IsQueued s r.head r.tail k p) ⊎ (bell_at s.words (length s.homes) p ≡ 1))
      go nobody e = absurd (taken v.role home (r.each_seat 0 v at).role e)
      go (in_queue k) e = let q = subst (InQueue s.words r.head r.tail (length s.homes) p) e (r.each_place p near).queued in inr (inl (k, (q.0, q.1, q.2)))
      go (in_hand j) e = let l = r.live p j near e in inl (j, (l.0, l.1, l.2))
      go at_bell e = inr (inr ((r.each_place p near).rings ∙ ap bell e))
