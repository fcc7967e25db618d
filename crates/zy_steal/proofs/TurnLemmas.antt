-- A turn of claims round the other cores, and what a thief learns from it.
use Rattle.std.proofs.Common.{inl, inr, ◌≡◌, ◌≢◌, ℕ, ◌+◌, ◌-◌, ◌%◌, ◌<◌, ◌≤◌, List, length, set, slice_get, sym, ap, ◌∙◌, arith}
use Rattle.std.specs.Prelude.{Option, Some, None}
use Rattle.std.proofs.lemmas.Bool.Decides.{nat_tests}
use Rattle.std.proofs.Math.Nat.{add-mod-mod}
use mathlib.Core.Logic.{dite}
use native.Mathlib.Decide.{dec_lt}
use Rattle.zy_table.specs.declared.name.Name.{Name}
use Rattle.zy_table.specs.Member.{is_in}
use Rattle.zy_table.proofs.MemberLemmas.{in_front}
use Rattle.zy_table.proofs.SliceLemmas.{get_set_else, get_set_there}
use Rattle.zy_shuffle.specs.declared.claim.Claim.TheVariants as claims
use Rattle.zy_shuffle.specs.Hand.{marked}
use Rattle.zy_shuffle.specs.Pass.{Held}
use Rattle.zy_shuffle.proofs.HandLemmas.{marked_here}
use Rattle.zy_steal.specs.declared.looks.Look.{Look}
use Rattle.zy_steal.specs.declared.passes.Taken.{Taken}
use Rattle.zy_steal.specs.Order.{victim, other_core, number_of}
use Rattle.zy_steal.specs.Steal.{PassList, Thief, seat_of, seats_of, TakesFrom, InTurn}
use Rattle.zy_steal.specs.Range.{ClaimsAt, Ranges, RangesTo, StopsAt, StopsInTurn, TurnsTo, IsFirst, turned}
use Rattle.zy_steal.proofs.OrderLemmas.{number_of-other, victim_is}
use Rattle.zy_steal.proofs.SeatLemmas.{seats-set}
use Rattle.zy_steal.proofs.RangeLemmas.{ranges_both}

-- the numbers of a turn before it passes the end
turned-early : (start count t : ℕ) → start + t < count → turned start count t ≡ start + t
turned-early start count t lt = grind (arith, nat_tests)

-- the numbers of a turn after it passed the end
turned-late : (start count t : ℕ) → count ≤ start + t → turned start count t ≡ start + t - count
turned-late start count t le = grind (arith, nat_tests)

module _ {T M : Type 0} (mark : T → M) (label : T → Name) where
  -- the other passes are as they were before the claim that took
  else_at : (middle ws : List (Held T)) (at k : ℕ) (place : ℕ) (block : T) → ClaimsAt mark label middle ws at (claims.Took place block) → k ≢ at → slice_get ws k ≡ slice_get middle k
  else_at middle ws at k place block c ne = ap (λ l. slice_get l k) c.is ∙ get_set_else middle at k c.after ne

  -- the block was taken in the first part of the turn
  pub stops_early : (core : ℕ) (vs ws : List (Held T)) (a b : List (Option Look)) (start count : ℕ) (taken : Taken T) → StopsAt mark label core vs ws a b start count taken → StopsInTurn mark label core vs ws start count taken
  stops_early core vs ws a b start count taken s =
      let at : ℕ = taken.at in
      let from_on = s.from_on in
      let below = s.below in record {
        turn = at - start;
        few = omega arith;
        is = sym (turned-early start count (at - start) (omega arith) ∙ omega arith);
        earlier = λ t v w lt ev ew.
            let k : turned start count t ≡ start + t = turned-early start count t (omega arith) in
            let near : turned start count t < at = omega arith in
            let look = s.ranges.looked (turned start count t) (omega arith) near v w ev (sym (else_at s.middle ws at (turned start count t) taken.place taken.block s.takes (λ e. omega arith)) ∙ ew) in
            (look.0, look.2);
        later = λ t lt few. dite (dec_lt (start + t) count)
            (λ early. let k = turned-early start count t early in
            else_at s.middle ws at (turned start count t) taken.place taken.block s.takes (λ e. omega arith) ∙ s.ranges.rest (turned start count t) (inr (omega arith)))
            (λ late. let k = turned-late start count t (omega arith) in
            else_at s.middle ws at (turned start count t) taken.place taken.block s.takes (λ e. omega arith) ∙ s.ranges.rest (turned start count t) (inl (omega arith)));
        middle = s.middle;
        seats = s.ranges.seats;
        same = s.ranges.rest at (inr (omega arith));
        takes = s.takes;
      }

  -- the block was taken in the second part
  pub stops_late : (core : ℕ) (vs ms ws : List (Held T)) (a b c : List (Option Look)) (start count : ℕ) (taken : Taken T) → start ≤ count → Ranges core vs ms a b start count → StopsAt mark label core ms ws b c 0 start taken → StopsInTurn mark label core vs ws start count taken
  stops_late core vs ms ws a b c start count taken le r s =
      let at : ℕ = taken.at in
      let below = s.below in record {
        turn = at + count - start;
        few = omega arith;
        is = sym (turned-late start count (at + count - start) (omega arith) ∙ omega arith);
        earlier = λ t v w lt ev ew. dite (dec_lt (start + t) count)
            (λ early.
            let k = turned-early start count t early in
            let same = else_at s.middle ws at (turned start count t) taken.place taken.block s.takes (λ e. omega arith) ∙ s.ranges.rest (turned start count t) (inr (omega arith)) in
            let look = r.looked (turned start count t) (omega arith) (omega arith) v w ev (sym same ∙ ew) in (look.0, look.2))
            (λ late.
            let k = turned-late start count t (omega arith) in
            let look = s.ranges.looked (turned start count t) (omega arith) (omega arith) v w (r.rest (turned start count t) (inl (omega arith)) ∙ ev) (sym (else_at s.middle ws at (turned start count t) taken.place taken.block s.takes (λ e. omega arith)) ∙ ew) in
            (look.0, look.2));
        later = λ t lt few.
            let k = turned-late start count t (omega arith) in
            else_at s.middle ws at (turned start count t) taken.place taken.block s.takes (λ e. omega arith)
            ∙ s.ranges.rest (turned start count t) (inr (omega arith)) ∙ r.rest (turned start count t) (inl (omega arith));
        middle = s.middle;
        seats = s.ranges.seats ∙ r.seats;
        same = s.ranges.rest at (inr (omega arith)) ∙ r.rest at (inl (omega arith));
        takes = s.takes;
      }

  -- the second part of the turn
  pub turns_late : (core : ℕ) (vs ms ws : List (Held T)) (a b c : List (Option Look)) (start count : ℕ) (result : Option (Taken T)) → start ≤ count → count ≡ length vs → Ranges core vs ms a b start count → RangesTo mark label core ms ws b c 0 start result
      → TurnsTo mark label core vs ws a c start count result
  turns_late core vs ms ws a b c start count None le whole r s = ranges_both core vs ms ws a b c start count le whole r s
  turns_late core vs ms ws a b c start count (Some taken) le whole r s = stops_late core vs ms ws a b c start count taken le r s

  -- ---- what a thief learns from a turn

  -- the block that was taken
  pub takes_from : (p q : PassList T) (start : ℕ) (taken : Taken T) → StopsInTurn mark label p.core p.items q.items start (length p.items) taken → TakesFrom mark label p q (other_core p.core taken.at) taken.place taken.block
  takes_from p q start taken s =
      let c = s.takes in
      let joined = c.claimed.0 in
      let number = number_of-other p.core taken.at in
      let there : slice_get q.items taken.at ≡ Some c.after = ap (λ l. slice_get l taken.at) c.is ∙ get_set_there s.middle taken.at c.after c.before c.was in record {
        before = c.before;
        after = c.after;
        was = ap (slice_get p.items) number ∙ sym s.same ∙ c.was;
        is = ap (slice_get q.items) number ∙ there;
        seat = ap seat_of joined.is;
        seats = ap seats_of c.is ∙ seats-set s.middle taken.at c.after ∙ (λ i. set (s.seats i) (sym number i) (seat_of c.after));
        kept = ap (λ (v : Held T). v.kept) joined.is;
        holds = record {
          hand = ap (λ (v : Held T). is_in taken.place v.hand) joined.is ∙ in_front taken.place c.before.hand;
          labelled = joined.labelled ∙ sym (ap (λ (v : Held T). v.label) joined.is);
          kept = ap (λ (v : Held T). marked mark taken.place v.kept) joined.is ∙ marked_here mark taken.place taken.block c.before.kept;
        };
      }

  -- its core is that of one turn
  pub in_turn : (h : Thief) (p q : PassList T) (start : ℕ) (taken : Taken T) → h.core ≡ p.core → h.core < h.cores → length p.items + 1 ≡ h.cores → IsFirst h start → StopsInTurn mark label p.core p.items q.items start (length p.items) taken → InTurn h p q (other_core p.core taken.at)
  in_turn h p q start taken core near count first s =
      let few = s.few in
      let size : h.cores - 1 ≡ length p.items = omega arith in
      let begins : start ≡ (h.core + h.calls) % (h.cores - 1) = first.1 (omega arith) in
      let turn_is : (t : ℕ) → t < length p.items → victim h.cores h.core h.calls t ≡ other_core h.core (turned start (length p.items) t) = λ t lt.
      victim_is h.cores h.core h.calls start t near (omega arith) begins ∙ ap (λ n. other_core h.core (turned start n t)) size in
      let number : (t : ℕ) → t < length p.items → number_of h.core (victim h.cores h.core h.calls t) ≡ turned start (length p.items) t = λ t lt. ap (number_of h.core) (turn_is t lt) ∙ number_of-other h.core (turned start (length p.items) t) in record {
        turn = s.turn;
        few = omega arith;
        is = ap (other_core p.core) s.is ∙ ap (λ c. other_core c (turned start (length p.items) s.turn)) (sym core) ∙ sym (turn_is s.turn few);
        earlier = λ t v w lt ev ew. s.earlier t v w lt (ap (slice_get p.items) (sym (number t (omega arith))) ∙ ev) (ap (slice_get q.items) (sym (number t (omega arith))) ∙ ew);
        later = λ t lt more. ap (slice_get q.items) (number t (omega arith)) ∙ s.later t lt (omega arith) ∙ ap (slice_get p.items) (sym (number t (omega arith)));
      }

-- the number with which a thief begins
pub first_is : (core calls n : ℕ) → (core + calls % n) % n ≡ (core + calls) % n
first_is core calls n = add-mod-mod core calls n
