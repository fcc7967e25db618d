-- The first moment at which marks do not fit, by the marks of each session.
use Rattle.std.specs.List.{slice_get}
use Rattle.std.proofs.Common.{◌≡◌, ℕ, zero, suc, ◌+◌, ◌<◌, ◌≤◌, min, ◌-◌, Bool, List, length, take, Option, None, Some, refl, sym, ap, ◌∙◌, subst, arith}
use Rattle.std.proofs.lemmas.List.{take_all}
use Rattle.std.proofs.lemmas.Option.{slice_get_within}
use mathlib.Core.Logic.{dite}
use native.Mathlib.Decide.{dec_lt}
use Rattle.zy_capture.specs.declared.record.Record.{Record}
use Rattle.zy_capture.specs.Streams.{closes}
use Rattle.zy_times.specs.declared.session.Session.{Session}
use Rattle.zy_times.specs.Line.{SessionHolds}
use Rattle.zy_times.specs.Recording.{Recording, FitAt, MarksFit}
use Rattle.zy_times.specs.Sessions.{sent_in, marks_at, MarksFitIn}
use Rattle.zy_times.specs.Times.{marks_in, trues}
use Rattle.zy_times.specs.InTime.{IsEarlyEnd}
use Rattle.zy_times.specs.Fitting.{AreGood, SessionFits, IsUnfitAt, FoundUnfitBelow, FoundUnfit, FoundUnfitConnection, earlier_of}
use Rattle.zy_times.proofs.FirstLemmas.{later, in_order}
use Rattle.zy_times.proofs.TrueLemmas.{trues_rise, trues_most}
use Rattle.zy_times.proofs.RecordLemmas.{marks_past}
use Rattle.zy_times.proofs.SessionLemmas.{none_past, sent_grows, marks_grow, marks_stay, mark_from, mark_never}

-- ---- a session

module _ (records : List Record) (conn session : ℕ) (s : Session) (answered : List Bool) (h : SessionHolds records conn session s) where
  abbrev marks : List ℕ
  marks = s.marks.items

  -- the number of answered commands that are sent at a moment
  abbrev answered_at : ℕ → ℕ
  answered_at moment = trues (take (sent_in records conn session moment) answered)

  -- the first `count` marks find theirs
  abbrev Good : ℕ → Type 0
  Good count = AreGood records conn session marks answered count

  abbrev Found : Option ℕ → Type 0
  Found found = IsUnfitAt (length records) (MarksFitIn records conn session answered) found

  -- if those up to a moment do, the marks fit at it
  good_fits : (moment : ℕ) → ((number at : ℕ) → slice_get marks number ≡ Some at → at ≤ moment → number < answered_at at) → MarksFitIn records conn session answered moment
  good_fits moment good = go (marks_at records conn session moment) refl
    where
      by_mark : (number : ℕ) → number < marks_at records conn session moment → (mark : Option ℕ) → slice_get marks number ≡ mark → number < answered_at moment
      by_mark number above None is = absurd (mark_never records conn session s h number moment is above)
      by_mark number above (Some at) is =
          let order = (mark_from records conn session s h number at moment is).0 above in
          let found = good number at is order in
          let sent = later (sent_in records conn session) (sent_grows records conn session) at moment order in
          let more = trues_rise (sent_in records conn session at) (sent_in records conn session moment) answered sent in
          omega (arith, found, more)

      go : (count : ℕ) → marks_at records conn session moment ≡ count → MarksFitIn records conn session answered moment
      go zero is = omega (arith, is)
      go (suc number) is = let found = by_mark number (omega (arith, is)) (slice_get marks number) refl in omega (arith, is, found)

  -- all marks find theirs
  pub all_good : (count : ℕ) → slice_get marks count ≡ None → Good count → Found None
  all_good count none good = λ moment. good_fits moment (λ number at is order.
      good number at (let low = slice_get_within marks number at is in let most = none_past marks count none in omega (arith, low, most)) is)

  -- this mark is the first that does not
  pub one_bad : (number moment : ℕ) → slice_get marks number ≡ Some moment → Good number → answered_at moment ≤ number → Found (Some moment)
  one_bad number moment is good few = (
    some,
    (h.marks.each number moment is).0,
    (λ earlier before. good_fits earlier (λ other at there order.
        good other at (in_order (marks_at records conn session) (length records) marks (marks_grow records conn session) (marks_stay records conn session) h.marks other number at moment there is (omega (arith, order, before))) there)),
    λ fits. let above = (h.marks.each number moment is).1.above in omega (arith, above, few, fits),
  )
    where
      some : 1 ≤ moment
      some = go moment (h.marks.each number moment is).1.above
        where
          go : (m : ℕ) → number < marks_at records conn session m → 1 ≤ m
          go zero above = absurd (omega (arith, above))
          go (suc m) above = omega arith

  -- this mark comes before the command that it ends
  pub sent_late : (number index moment : ℕ) → slice_get marks number ≡ Some moment → Good number → number ≡ trues (take index answered) → sent_in records conn session moment ≤ index → Found (Some moment)
  sent_late number index moment is good count unsent =
      let few = trues_rise (sent_in records conn session moment) index answered unsent in one_bad number moment is good (omega (arith, few, count))

  -- a further mark finds its command, which is sent before it
  pub good_more : (number index moment : ℕ) → Good number → slice_get marks number ≡ Some moment → index < sent_in records conn session moment → trues (take (index + 1) answered) ≡ number + 1 → Good (number + 1)
  good_more number index moment good is sent next other at below there = dite (dec_lt other number)
      (λ low. good other at low there)
      (λ high.
      let last : other ≡ number = omega (arith, high, below) in
      let both : Some moment ≡ Some at = sym is ∙ ap (slice_get marks) (sym last) ∙ there in
      let same : moment ≡ at = cc in
      let more = trues_rise (index + 1) (sent_in records conn session moment) answered (omega (arith, sent)) in
      subst (λ (m : ℕ). other < answered_at m) same (omega (arith, next, more, last)))

  -- behind the last command of the session
  pub found_last : (ended : ℕ) (next : Option ℕ) → slice_get marks ended ≡ next → Good ended → ended ≡ trues answered → Found next
  found_last ended None is good all = all_good ended is good
  found_last ended (Some moment) is good all = let few = trues_most (sent_in records conn session moment) answered in one_bad ended moment is good (omega (arith, few, all))

-- ---- several

-- two together
unfit_both : (end : ℕ) (P Q : ℕ → Type 0) (one other : Option ℕ) → IsUnfitAt end P one → IsUnfitAt end Q other → IsUnfitAt end (λ m. P m × Q m) (earlier_of one other)
unfit_both end P Q None None one other = λ m. (one m, other m)
unfit_both end P Q None (Some second) one other = (other.0, other.1, (λ m below. (one m, other.2 m below)), λ both. other.3 both.1)
unfit_both end P Q (Some first) None one other = (one.0, one.1, (λ m below. (one.2 m below, other m)), λ both. one.3 both.0)
unfit_both end P Q (Some first) (Some second) one other =
    let some = one.0 in
    let more = other.0 in
    let within = one.1 in
    dite (dec_lt first second)
    (λ low.
    let is : min first second ≡ first = omega arith in
    (omega (arith, some, more), omega (arith, within, low), (λ m below. (one.2 m (omega (arith, below)), other.2 m (omega (arith, below)))), λ both. one.3 (subst P is both.0)))
    (λ high.
    let is : min first second ≡ second = omega arith in
    let inside = other.1 in
    (omega (arith, some, more), omega (arith, inside, high), (λ m below. (one.2 m (omega (arith, below)), other.2 m (omega (arith, below)))), λ both. other.3 (subst Q is both.1)))

-- the same said otherwise
unfit_as : (end : ℕ) (P Q : ℕ → Type 0) (found : Option ℕ) → ((m : ℕ) → P m → Q m) → ((m : ℕ) → Q m → P m) → IsUnfitAt end P found → IsUnfitAt end Q found
unfit_as end P Q None on back is = λ m. on m (is m)
unfit_as end P Q (Some first) on back is = (is.0, is.1, (λ m below. on m (is.2 m below)), λ holds. is.3 (back first holds))

-- one further place
unfit_next : (end : ℕ) (P : ℕ → ℕ → Type 0) (count : ℕ) (one other : Option ℕ) → IsUnfitAt end (λ m. (k : ℕ) → k < count → P k m) one → IsUnfitAt end (P count) other
    → IsUnfitAt end (λ m. (k : ℕ) → k < count + 1 → P k m) (earlier_of one other)
unfit_next end P count one other before here =
    unfit_as end (λ m. ((k : ℕ) → k < count → P k m) × P count m) (λ m. (k : ℕ) → k < count + 1 → P k m) (earlier_of one other)
    (λ m both k low. dite (dec_lt k count)
    (λ below. both.0 k below)
    (λ high. let last : count ≡ k = omega (arith, low, high) in subst (λ (n : ℕ). P n m) last both.1))
    (λ m all. ((λ k low. all k (omega (arith, low))), all count (omega arith)))
    (unfit_both end (λ m. (k : ℕ) → k < count → P k m) (P count) one other before here)

-- one further connection
pub unfit_connections : (r : Recording) (conn : ℕ) (one other : Option ℕ) → FoundUnfitConnection r conn one → FoundUnfit r conn other → FoundUnfitConnection r (conn + 1) (earlier_of one other)
unfit_connections r = unfit_next (length r.records) (λ conn moment. (session : ℕ) → SessionFits r conn session moment)

-- what has no marks at the end never had
pub never_marked : (r : Recording) (conn session moment : ℕ) → marks_in r.records conn session ≡ 0 → marks_at r.records conn session moment ≡ 0
never_marked r conn session moment none =
    let grown = later (marks_at r.records conn session) (marks_grow r.records conn session) moment (moment + length r.records) (omega arith) in
    let stays = marks_stay r.records conn session (moment + length r.records) (omega arith) in
    let whole = ap (λ (rs : List Record). marks_in rs conn session) (take_all (length r.records) r.records (omega arith)) in
    omega (arith, grown, stays, whole, none)

-- one further session
pub unfit_sessions : (r : Recording) (conn count : ℕ) (one other : Option ℕ) → FoundUnfitBelow r conn count one → IsUnfitAt (length r.records) (SessionFits r conn count) other → FoundUnfitBelow r conn (count + 1) (earlier_of one other)
unfit_sessions r conn = unfit_next (length r.records) (SessionFits r conn)

-- a session behind the last has no marks
pub unfit_all : (r : Recording) (conn count : ℕ) (found : Option ℕ) → closes conn r.records + 1 ≤ count → FoundUnfitBelow r conn count found → FoundUnfit r conn found
unfit_all r conn count found past =
    unfit_as (length r.records) (λ m. (session : ℕ) → session < count → SessionFits r conn session m) (λ m. (session : ℕ) → SessionFits r conn session m) found
    (λ m fits session. dite (dec_lt session count)
    (λ low. fits session low)
    (λ high. let none = never_marked r conn session m (marks_past r.records 0 conn session (omega (arith, past, high))) in omega (arith, none)))
    (λ m fits session low. fits session)

-- ---- all connections

module _ (r : Recording) (count : ℕ) (others : (conn session moment : ℕ) → count ≤ conn → marks_at r.records conn session moment ≡ 0) where
  all_fit : (moment : ℕ) → ((conn : ℕ) → conn < count → (session : ℕ) → SessionFits r conn session moment) → FitAt r moment
  all_fit moment fits conn session = dite (dec_lt conn count)
      (λ low. fits conn low session)
      (λ high. let none = others conn session moment (omega arith) in omega (arith, none))

  pub marks_fit : FoundUnfitConnection r count None → MarksFit r
  marks_fit found moment = all_fit moment (found moment)

  early_end_next : (moment : ℕ) → FoundUnfitConnection r count (Some (suc moment)) → IsEarlyEnd r moment
  early_end_next moment found = record {
    within = let inside = found.1 in omega (arith, inside);
    before = λ earlier low. all_fit earlier (found.2 earlier (omega arith));
    wrong = λ fits. let next : moment + 1 ≡ suc moment = omega arith in found.3 (λ conn low session. subst (λ (m : ℕ). SessionFits r conn session m) next (fits conn session));
  }

  pub early_end : (moment : ℕ) → FoundUnfitConnection r count (Some moment) → IsEarlyEnd r (moment - 1)
  early_end zero found = let some = found.0 in absurd (omega (arith, some))
  early_end (suc moment) found = let is : moment ≡ suc moment - 1 = omega arith in subst (IsEarlyEnd r) is (early_end_next moment found)
