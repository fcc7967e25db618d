-- Walking through the entries: the latest moment at which a command was sent so far.
use Rattle.std.specs.List.{slice_get}
use Rattle.std.proofs.Common.{◌≡◌, ℕ, ◌+◌, ◌<◌, ◌≤◌, max, List, ◌∷◌, drop, Option, None, Some, refl, sym, ap, ◌∙◌, subst, arith}
use Rattle.std.specs.Prelude.{◌↔◌}
use mathlib.Core.Logic.{dite}
use native.Mathlib.Decide.{dec_lt}
use Rattle.mc_calls.specs.declared.entry.Entry.{Entry}
use Rattle.zy_check.proofs.WalkLemmas.{left_first}
use Rattle.zy_times.specs.Recording.{Recording}
use Rattle.zy_times.specs.InTime.{IsEntrySent, IsEntryEnded, AreLate, IsOutOfTime}
use Rattle.zy_times.specs.Spans.{IsFrom}
use Rattle.zy_times.specs.Recorded.{CameBefore, IsLateAt, IsFirstUnsent}
use Rattle.zy_times.proofs.InTimeLemmas.{sent_later}

-- before the first entry
pub before_first : (r : Recording) → CameBefore r 0 0
before_first r = record {
  none = λ p q order below late. omega arith;
  sent = λ p e below is. absurd (omega arith);
  unsent = λ moment below. absurd (omega arith);
}

module _ (r : Recording) (at latest : ℕ) (e : Entry) (first : Option ℕ) (is : slice_get r.entries at ≡ Some e) (ends : (moment : ℕ) → IsEntryEnded r e moment ↔ IsFrom first moment) (h : CameBefore r at latest) where
  -- no earlier entry is of a command that was sent later than this one's end
  not_late : ((moment : ℕ) → first ≡ Some moment → latest ≤ moment) → (p : ℕ) → p < at → AreLate r p at → ⊥
  not_late on_time p order late =
      let both : Some late.e ≡ Some e = sym late.is_last ∙ is in
      let same : late.e ≡ e = cc in
      let ended : IsEntryEnded r e late.late.moment = subst (λ (x : Entry). IsEntryEnded r x late.late.moment) same late.late.ended in
      go first on_time ((ends late.late.moment).0 ended)
    where
      go : (o : Option ℕ) → ((moment : ℕ) → o ≡ Some moment → latest ≤ moment) → IsFrom o late.late.moment → ⊥
      go None on_time from = from
      go (Some moment) on_time from =
          let order_is = on_time moment refl in
          late.late.unsent (sent_later r late.other latest late.late.moment (omega (arith, order_is, from)) (h.sent p late.other order late.is_first))

  -- it is not late
  pub before_more : (sent : ℕ) → ((moment : ℕ) → IsEntrySent r e moment ↔ (sent ≤ moment)) → ((moment : ℕ) → first ≡ Some moment → latest ≤ moment) → CameBefore r (at + 1) (max latest sent)
  before_more sent from on_time = record {
    none = λ p q order below late. dite (dec_lt q at)
        (λ low. h.none p q order low late)
        (λ high. let last : q ≡ at = omega arith in not_late on_time p (omega arith) (subst (λ (n : ℕ). AreLate r p n) last late));
    sent = λ p x below there. dite (dec_lt p at)
        (λ low. sent_later r x latest (max latest sent) (omega arith) (h.sent p x low there))
        (λ high.
        let last : p ≡ at = omega arith in
        let both : Some e ≡ Some x = sym is ∙ ap (slice_get r.entries) (sym last) ∙ there in
        let same : e ≡ x = cc in
        subst (λ (y : Entry). IsEntrySent r y (max latest sent)) same ((from (max latest sent)).1 (omega arith)));
    unsent = λ moment below. dite (dec_lt moment latest)
        (λ low. let other = h.unsent moment low in let near = other.1 in (other.0, omega (arith, near), other.2))
        (λ high. (at, omega arith, (e, is, λ here. let low = (from moment).0 here in omega (arith, low, below, high))));
  }

  -- it is late
  pub late_here : (moment : ℕ) → first ≡ Some moment → moment < latest → IsLateAt r at moment
  late_here moment first_is below = record {
    e = e;
    is = is;
    ended = (here moment).1 (omega arith);
    first = λ other ended. (here other).0 ended;
    unsent = h.unsent moment below;
    before = h.none;
  }
    where
      here : (n : ℕ) → IsEntryEnded r e n ↔ IsFrom (Some moment) n
      here = subst (λ (o : Option ℕ). (n : ℕ) → IsEntryEnded r e n ↔ IsFrom o n) first_is ends

-- the first entry for which it is late
pub out_of_time : (r : Recording) (at moment first : ℕ) → IsLateAt r at moment → IsFirstUnsent r moment first → IsOutOfTime r at first
out_of_time r at moment first late unsent = record {
  order = order;
  late = record { other = unsent.e; e = late.e; is_first = unsent.is; is_last = late.is; late = record { moment = moment; ended = late.ended; unsent = unsent.unsent } };
  before = late.before;
  least = λ p below one.
      let both : Some one.e ≡ Some late.e = sym one.is_last ∙ late.is in
      let same : one.e ≡ late.e = cc in
      let from = late.first one.late.moment (subst (λ (x : Entry). IsEntryEnded r x one.late.moment) same one.late.ended) in
      one.late.unsent (sent_later r one.other moment one.late.moment from (unsent.before p one.other below one.is_first));
}
  where
    order : first < at
    order =
        let other = late.unsent in
        let near = other.1 in
        dite (dec_lt other.0 first)
        (λ below. absurd (other.2.2 (unsent.before other.0 other.2.0 below other.2.1)))
        (λ above. omega (arith, near, above))

-- the first entry that is left of a journal is the one at its place
pub entry_there : (r : Recording) (es : List Entry) (at : ℕ) (e : Entry) (rest : List Entry) → r.entries ≡ es → drop at es ≡ e ∷ rest → slice_get r.entries at ≡ Some e
entry_there r es at e rest are left = ap (λ (l : List Entry). slice_get l at) are ∙ (left_first es at e rest left).0
