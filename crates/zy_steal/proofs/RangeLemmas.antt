-- Passes that make claims one after the other.
use Rattle.std.proofs.Common.{⊎_elim, inl, inr, ◌≡◌, ◌≢◌, ℕ, ◌+◌, ◌<◌, ◌≤◌, List, length, set, slice_get, sym, ap, ◌∙◌, subst, arith}
use Rattle.std.specs.Prelude.{Option, Some}
use mathlib.Core.Logic.{dite}
use native.Mathlib.Decide.{ℕ_discrete, dec_lt}
use Rattle.zy_table.proofs.SliceLemmas.{get_set_else, get_set_there, set_there}
use Rattle.zy_shuffle.specs.Pass.{Held}
use Rattle.zy_steal.specs.declared.looks.Look.{Look}
use Rattle.zy_steal.specs.declared.looks.Look.TheVariants.{Empty, Raced}
use Rattle.zy_steal.specs.Look.{look_at}
use Rattle.zy_steal.specs.Order.{other_core}
use Rattle.zy_steal.specs.Steal.{seat_of, seats_of, Found}
use Rattle.zy_steal.specs.Range.{MissesAt, Ranges}
use Rattle.zy_steal.proofs.OrderLemmas.{others-apart}
use Rattle.zy_steal.proofs.SeatLemmas.{seats-set, seats-get}

module _ {T : Type 0} where
  -- a claim that took nothing leaves the seat
  found_seat : (v w : Held T) (look : Look) → Found v w look → seat_of w ≡ seat_of v
  found_seat v w (Empty at) f = ap seat_of f.0
  found_seat v w (Raced saw found) f = ap seat_of f.0

  -- one further claim, which took nothing
  pub ranges_on : (core : ℕ) (vs ws us : List (Held T)) (a b c : List (Option Look)) (from at : ℕ) → from ≤ at → Ranges core vs ws a b from at → MissesAt core ws us b c at → Ranges core vs us a c from (at + 1)
  ranges_on core vs ws us a b c from at ge r m =
      let seat = found_seat m.before m.after m.look m.found in
      let now : slice_get us at ≡ Some m.after = ap (λ l. slice_get l at) m.is ∙ get_set_there ws at m.after m.before m.was in
      let else_at : (k : ℕ) → k ≢ at → slice_get us k ≡ slice_get ws k = λ k ne. ap (λ l. slice_get l k) m.is ∙ get_set_else ws at k m.after ne in
      let was : slice_get vs at ≡ Some m.before = sym (r.rest at (inr (omega arith))) ∙ m.was in
      let still : (k : ℕ) → k ≢ at → look_at c (other_core core k) ≡ look_at b (other_core core k) = λ k ne. m.notes.others (other_core core k) (others-apart core k at ne) in record {
        seats = ap seats_of m.is ∙ seats-set ws at m.after ∙ ap (set (seats_of ws) at) seat ∙ set_there (seats_of ws) at (seat_of m.before) (seats-get ws at m.before m.was) ∙ r.seats;
        looked = λ k le lt x y ex ey. dite (ℕ_discrete k at)
            (λ here.
            let xs : Some m.before ≡ Some x = sym was ∙ ap (slice_get vs) (sym here) ∙ ex in
            let ys : Some m.after ≡ Some y = sym now ∙ ap (slice_get us) (sym here) ∙ ey in
            let x_is : m.before ≡ x = cc in let y_is : m.after ≡ y = cc in
            (m.look, ap (λ z. look_at c (other_core core z)) here ∙ m.notes.here, subst (λ (z : Held T). Found z y m.look) x_is (subst (λ (z : Held T). Found m.before z m.look) y_is m.found)))
            (λ ne. let old = r.looked k le (omega arith) x y ex (sym (else_at k ne) ∙ ey) in (old.0, still k ne ∙ old.1, old.2));
        rest = λ k out.
            let ne : k ≢ at = λ same. ⊎_elim (λ (h : k < from). absurd (omega arith)) (λ (h : at + 1 ≤ k). absurd (omega arith)) out in
            else_at k ne ∙ r.rest k (⊎_elim (λ (h : k < from). inl h) (λ (h : at + 1 ≤ k). inr (omega arith)) out);
        others = λ other free.
            m.notes.others other (λ e. free at (omega arith) (omega arith) (sym e))
            ∙ r.others other (λ k le lt. free k le (omega arith));
      }

  -- one range after the other: first the later numbers, then the earlier ones
  pub ranges_both : (core : ℕ) (vs ws us : List (Held T)) (a b c : List (Option Look)) (start count : ℕ) → start ≤ count → count ≡ length vs → Ranges core vs ws a b start count → Ranges core ws us b c 0 start → Ranges core vs us a c 0 count
  ranges_both core vs ws us a b c start count le whole r q = record {
    seats = q.seats ∙ r.seats;
    looked = λ k low high x y ex ey. dite (dec_lt k start)
        (λ lt. q.looked k (omega arith) lt x y (r.rest k (inl lt) ∙ ex) ey)
        (λ ge. let old = r.looked k (omega arith) high x y ex (sym (q.rest k (inr (omega arith))) ∙ ey) in
        (old.0, q.others (other_core core k) (λ j _ lt. others-apart core j k (λ e. omega arith)) ∙ old.1, old.2));
    rest = λ k out. ⊎_elim
        (λ (h : k < 0). absurd (omega arith))
        (λ (h : count ≤ k). q.rest k (inr (omega arith)) ∙ r.rest k (inr h)) out;
    others = λ other free. q.others other (λ k low high. free k low (omega arith)) ∙ r.others other (λ k low high. free k (omega arith) high);
  }
