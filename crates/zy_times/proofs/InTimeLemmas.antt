-- A journal is in time exactly if no entry is late.
use Rattle.std.specs.List.{slice_get}
use Rattle.std.proofs.Common.{◌≡◌, ◌⊎◌, inl, inr, ℕ, zero, suc, ◌+◌, ◌<◌, ◌≤◌, max, List, [], ◌∷◌, ◌++◌, length, take, Some, refl, sym, ap, ◌∙◌, subst, arith}
use Rattle.std.proofs.lemmas.List.{take_all}
use Rattle.std.proofs.lemmas.Option.{slice_get_within}
use mathlib.Core.Logic.{dite}
use native.Mathlib.Decide.{dec_lt}
use Rattle.mc_calls.specs.declared.entry.Entry.{Entry}
use Rattle.zy_capture.specs.declared.record.Record.{Record}
use Rattle.zy_capture.specs.declared.record.Record.TheVariants as Kinds
use Rattle.zy_capture.specs.Streams.{closes}
use Rattle.mc_parse.specs.declared.command.Command.{Command}
use Rattle.zy_frame.specs.Cut.{commands_of}
use Rattle.zy_check.proofs.ListLemmas.{there, take_one}
use Rattle.zy_times.specs.First.{IsFirstRise, Grows}
use Rattle.zy_times.specs.Recording.{Recording, answered_in, MarksFit}
use Rattle.zy_times.specs.Sessions.{sent_in, marks_at}
use Rattle.zy_times.specs.Times.{marks_in}
use Rattle.zy_times.specs.InTime.{numbered_entry, IsEntrySent, IsEntryEnded, AreOfCommands, IsInTime, IsLateAfter, NoneIsLate}
use Rattle.zy_times.proofs.FirstLemmas.{later}
use Rattle.zy_times.proofs.TrueLemmas.{trues_rise}
use Rattle.zy_times.proofs.RecordLemmas.{marks_more, mark_bytes}
use Rattle.zy_times.proofs.StreamLemmas.{bytes_of, stream_same, bytes_none, bytes_close}
use Rattle.zy_times.proofs.NumberLemmas.{number_within}
use Rattle.zy_times.proofs.SessionLemmas.{count_of, no_commands, sent_grows, marks_grow}

-- ---- the first moment

-- a count that is above a number was so for the first time
first_exists : (count : ℕ → ℕ) → Grows count → (number bound : ℕ) → number < count bound → (moment : ℕ) × (moment ≤ bound) × IsFirstRise count number moment
first_exists count grows number zero above = (0, omega arith, record { above = above; first = λ earlier before. absurd (omega arith) })
first_exists count grows number (suc bound) above = dite (dec_lt number (count bound))
    (λ sooner. let found = first_exists count grows number bound sooner in let low = found.1 in (found.0, omega (arith, low), found.2))
    (λ not_sooner. (
      suc bound,
      omega arith,
      record {
        above = above;
        first = λ earlier before. let grown = later count grows earlier bound (omega arith) in omega (arith, grown, not_sooner);
      },
    ))

-- ---- the greatest of several

abbrev most : List ℕ → ℕ
most [] = 0
most (x ∷ xs) = max x (most xs)

most_rises : (few many : ℕ) (xs : List ℕ) → few ≤ many → most (take few xs) ≤ most (take many xs)
most_rises zero many xs order = omega arith
most_rises (suc few) zero xs order = absurd (omega arith)
most_rises (suc few) (suc many) [] order = omega arith
most_rises (suc few) (suc many) (x ∷ xs) order = let rest = most_rises few many xs (omega arith) in omega (arith, rest)

most_above : (n p m : ℕ) (xs : List ℕ) → slice_get xs p ≡ Some m → p < n → m ≤ most (take n xs)
most_above zero p m xs is below = absurd (omega arith)
most_above (suc n) p m [] is below = absurd (cc)
most_above (suc n) zero m (x ∷ xs) is below = let same : x ≡ m = cc in omega (arith, same)
most_above (suc n) (suc p) m (x ∷ xs) is below = let rest = most_above n p m xs is (omega arith) in omega (arith, rest)

-- it is one of them, unless it is zero
most_is : (n : ℕ) (xs : List ℕ) → 1 ≤ most (take n xs) → (p : ℕ) × (p < n) × (slice_get xs p ≡ Some (most (take n xs)))
most_is zero xs some = absurd (omega arith)
most_is (suc n) [] some = absurd (omega arith)
most_is (suc n) (x ∷ xs) some = dite (dec_lt x (most (take n xs)))
    (λ low.
    let rest = most_is n xs (omega arith) in
    let below = rest.1 in
    let is : most (take n xs) ≡ max x (most (take n xs)) = omega arith in
    (suc rest.0, omega (arith, below), rest.2 ∙ ap (λ (k : ℕ). Some k) is))
    (λ high. let is : x ≡ max x (most (take n xs)) = omega arith in (0, omega arith, ap (λ (k : ℕ). Some k) is))

most_within : (n bound : ℕ) (xs : List ℕ) → ((p m : ℕ) → slice_get xs p ≡ Some m → m ≤ bound) → most (take n xs) ≤ bound
most_within zero bound xs each = omega arith
most_within (suc n) bound [] each = omega arith
most_within (suc n) bound (x ∷ xs) each =
    let rest = most_within n bound xs (λ p m is. each (suc p) m is) in
    let first = each 0 x refl in
    omega (arith, rest, first)

module _ (r : Recording) where
  -- ---- later moments

  -- the number of commands of an entry's session that were sent
  abbrev sent_with : Entry → ℕ → ℕ
  sent_with e = sent_in r.records e.tag.conn (numbered_entry r e).session

  -- a sent command stays sent
  pub sent_later : (e : Entry) (first last : ℕ) → first ≤ last → IsEntrySent r e first → IsEntrySent r e last
  sent_later e first last order is =
      let grown = later (sent_with e) (sent_grows r.records e.tag.conn (numbered_entry r e).session) first last order in omega (arith, grown, is)

  -- an ended one stays ended
  pub ended_later : (e : Entry) (first last : ℕ) → first ≤ last → IsEntryEnded r e first → IsEntryEnded r e last
  ended_later e first last order is =
      let session = (numbered_entry r e).session in
      let grown = later (marks_at r.records e.tag.conn session) (marks_grow r.records e.tag.conn session) first last order in
      omega (arith, grown, is)

  -- ---- steps

  -- no mark comes with the next record
  abbrev NoMark : ℕ → Type 0
  NoMark moment = (conn session : ℕ) → marks_at r.records conn session (moment + 1) ≡ marks_at r.records conn session moment

  -- no command is sent with it
  abbrev NoneSent : ℕ → Type 0
  NoneSent moment = (conn session : ℕ) → sent_in r.records conn session (moment + 1) ≡ sent_in r.records conn session moment

  step_kind : (moment : ℕ) → NoMark moment ⊎ NoneSent moment
  step_kind moment = dite (dec_lt moment (length r.records))
      (λ low. let at = there r.records moment low in by_kind at.0 (take_one r.records moment at.0 at.1))
      (λ high. inr (λ conn session. ap (count_of conn session) (take_all (moment + 1) r.records (omega arith)) ∙ sym (ap (count_of conn session) (take_all moment r.records (omega arith)))))
    where
      -- a record without bytes
      quiet : (x : Record) → take (moment + 1) r.records ≡ take moment r.records ++ x ∷ [] → ((now conn session : ℕ) → bytes_of now conn session x ≡ []) → NoneSent moment
      quiet x is none conn session =
          ap (count_of conn session) is ∙ ap (λ (b : List ℕ). length (commands_of b)) (stream_same (take moment r.records) x conn session (none (closes conn (take moment r.records)) conn session))

      by_kind : (x : Record) → take (moment + 1) r.records ≡ take moment r.records ++ x ∷ [] → NoMark moment ⊎ NoneSent moment
      by_kind (Kinds.Close closed) is = inr (quiet (Kinds.Close closed) is (λ now conn session. bytes_close now conn session closed))
      by_kind (Kinds.Segment s) is = by_bytes s.bytes refl
        where
          by_bytes : (bytes : List ℕ) → s.bytes ≡ bytes → NoMark moment ⊎ NoneSent moment
          by_bytes [] none = inr (quiet (Kinds.Segment s) is (λ now conn session. bytes_none now conn session s none))
          by_bytes (byte ∷ bytes) some = inl (λ conn session.
              let more = ap (λ (rs : List Record). marks_in rs conn session) is ∙ marks_more (take moment r.records) (Kinds.Segment s) conn session in
              let own = mark_bytes (closes conn (take moment r.records)) conn session s (λ none. let both : byte ∷ bytes ≡ [] = sym some ∙ none in cc) in
              omega (arith, more, own))

  -- ---- from moments to pairs

  pub none_late : IsInTime r → NoneIsLate r
  none_late t p q order late = absurd (
      let within = slice_get_within r.entries q late.e late.is_last in
      let rises = t.rises p q (omega arith) (omega (arith, within)) in
      dite (dec_lt late.late.moment (t.moment p))
      (λ before. t.unended q late.e late.is_last (ended_later late.e late.late.moment (t.moment q) (omega (arith, before, rises)) late.late.ended))
      (λ behind. late.late.unsent (sent_later late.other (t.moment p) late.late.moment (omega (arith, behind)) (t.sent p late.other late.is_first))))

  -- ---- from pairs to moments

  module _ (fit : MarksFit r) (commands : AreOfCommands r) (none : NoneIsLate r) where
    -- at this moment the command of an entry was sent first
    abbrev IsFirst : Entry → ℕ → Type 0
    IsFirst e moment = (moment ≤ length r.records) × IsFirstRise (sent_with e) (numbered_entry r e).number moment

    first_of : (p : ℕ) (e : Entry) → slice_get r.entries p ≡ Some e → (moment : ℕ) × IsFirst e moment
    first_of p e is =
        let session = (numbered_entry r e).session in
        let low = number_within r e.tag.conn e.tag.index (commands p e is) in
        let whole = ap (count_of e.tag.conn session) (take_all (length r.records) r.records (omega arith)) in
        let found = first_exists (sent_with e) (sent_grows r.records e.tag.conn session) (numbered_entry r e).number (length r.records) (omega (arith, low, whole)) in
        (found.0, (found.1, found.2))

    -- those of some entries from a place on
    record Firsts (from : ℕ) (es : List Entry) : Type 0 where
      moments : List ℕ
      size : length moments ≡ length es
      each : (p moment : ℕ) (e : Entry) → slice_get es p ≡ Some e → slice_get moments p ≡ Some moment → IsFirst e moment

    firsts : (from : ℕ) (es : List Entry) → ((p : ℕ) (e : Entry) → slice_get es p ≡ Some e → slice_get r.entries (from + p) ≡ Some e) → Firsts from es
    firsts from [] are = record { moments = []; size = refl; each = λ p moment e is there. absurd (cc) }
    firsts from (e ∷ es) are =
        let zero_on : from + 0 ≡ from = omega arith in
        let first = first_of from e (ap (slice_get r.entries) (sym zero_on) ∙ are 0 e refl) in
        let rest = firsts (from + 1) es (λ p x is. let on : from + 1 + p ≡ from + suc p = omega arith in ap (slice_get r.entries) on ∙ are (suc p) x is) in record {
          moments = first.0 ∷ rest.moments;
          size = ap suc rest.size;
          each = λ p moment x is there. here first.0 first.1 rest p moment x is there;
        }
      where
        here : (m : ℕ) → IsFirst e m → (rest : Firsts (from + 1) es) → (p moment : ℕ) (x : Entry) → slice_get (e ∷ es) p ≡ Some x → slice_get (m ∷ rest.moments) p ≡ Some moment → IsFirst x moment
        here m is_first rest zero moment x is there =
            let same_entry : e ≡ x = cc in
            let same_moment : m ≡ moment = cc in
            subst (IsFirst x) same_moment (subst (λ (y : Entry). IsFirst y m) same_entry is_first)
        here m is_first rest (suc p) moment x is there = rest.each p moment x is there

    abbrev all : Firsts 0 r.entries
    all = firsts 0 r.entries (λ p e is. let on : 0 + p ≡ p = omega arith in ap (slice_get r.entries) on ∙ is)

    -- the latest moment at which a command of the first entries was sent
    abbrev moment_of : ℕ → ℕ
    moment_of p = most (take (p + 1) all.moments)

    found : (p : ℕ) (e : Entry) → slice_get r.entries p ≡ Some e → (moment : ℕ) × (slice_get all.moments p ≡ Some moment)
    found p e is = let within = slice_get_within r.entries p e is in let size = all.size in there all.moments p (omega (arith, within, size))

    -- a command that is first sent at a moment is not before
    unsent : (p last : ℕ) (e : Entry) → slice_get r.entries p ≡ Some e → slice_get all.moments p ≡ Some (suc last) → IsEntrySent r e last → ⊥
    unsent p last e is at sent = let low = (all.each p (suc last) e is at).1.first last (omega arith) in omega (arith, low, sent)

    open_at : (p : ℕ) (e : Entry) → slice_get r.entries p ≡ Some e → (moment : ℕ) → moment_of p ≡ moment → IsEntryEnded r e moment → ⊥
    open_at p e is zero moment_is ended =
        let at = found p e is in
        let above = most_above (p + 1) p at.0 all.moments at.1 (omega arith) in
        let first = (all.each p at.0 e is at.1).1.above in
        let none_at_zero : at.0 ≡ 0 = omega (arith, above, moment_is) in
        let sent = subst (IsEntrySent r e) none_at_zero first in
        let nothing = ap (λ (l : List Command). length l) no_commands in
        omega (arith, sent, nothing)
    open_at p e is (suc last) moment_is ended =
        let source = most_is (p + 1) all.moments (omega (arith, moment_is)) in
        let size = all.size in
        let below = source.1 in
        let near = slice_get_within r.entries p e is in
        let other = there r.entries source.0 (omega (arith, below, near)) in
        let at : slice_get all.moments source.0 ≡ Some (suc last) = source.2 ∙ ap (λ (m : ℕ). Some m) moment_is in
        let next : last + 1 ≡ suc last = omega arith in
        elim (step_kind last) [
          | inl no_mark ↦ (
              let session = (numbered_entry r e).session in
              let marked = no_mark e.tag.conn session in
              let now = ap (marks_at r.records e.tag.conn session) next in
              let before : IsEntryEnded r e last = omega (arith, ended, marked, now) in
              dite (dec_lt source.0 p)
              (λ earlier. none source.0 p earlier (record { other = other.0; e = e; is_first = other.1; is_last = is; late = record { moment = last; ended = before; unsent = unsent source.0 last other.0 other.1 at } }))
              (λ same_place.
              let same : source.0 ≡ p = omega (arith, below, same_place) in
              let here : slice_get all.moments p ≡ Some (suc last) = ap (slice_get all.moments) (sym same) ∙ at in
              let low = (all.each p (suc last) e is here).1.first last (omega arith) in
              let fits = fit last e.tag.conn session in
              let few = trues_rise (sent_with e last) (numbered_entry r e).number (answered_in r e.tag.conn session) low in
              omega (arith, fits, few, before)))
          | inr none_sent ↦ (
              let above = (all.each source.0 (suc last) other.0 other.1 at).1.above in
              let same = none_sent other.0.tag.conn (numbered_entry r other.0).session in
              let now = ap (sent_with other.0) next in
              absurd (unsent source.0 last other.0 other.1 at (omega (arith, above, same, now))))
        ]

    pub in_time : IsInTime r
    in_time = record {
      moment = moment_of;
      rises = λ p q order within. most_rises (p + 1) (q + 1) all.moments (omega arith);
      within = λ p within. most_within (p + 1) (length r.records) all.moments (λ k m is.
          let size = all.size in
          let low = slice_get_within all.moments k m is in
          let e = there r.entries k (omega (arith, size, low)) in
          (all.each k m e.0 e.1 is).0);
      sent = λ p e is.
          let at = found p e is in
          let above = most_above (p + 1) p at.0 all.moments at.1 (omega arith) in
          sent_later e at.0 (moment_of p) above (all.each p at.0 e is at.1).1.above;
      unended = λ p e is ended. open_at p e is (moment_of p) refl ended;
    }

  -- ---- what a reader wants to know

  -- a call whose answer was complete before the command of another was sent comes first
  pub order_kept : IsInTime r → (p q : ℕ) (e other : Entry) → slice_get r.entries p ≡ Some e → slice_get r.entries q ≡ Some other → IsLateAfter r other e → p < q
  order_kept t p q e other is_e is_other late = dite (dec_lt p q)
      (λ order. order)
      (λ not_before.
      let within = slice_get_within r.entries p e is_e in
      let rises = t.rises q p (omega arith) (omega (arith, within)) in
      absurd (dite (dec_lt late.moment (t.moment q))
      (λ before. t.unended p e is_e (ended_later e late.moment (t.moment p) (omega (arith, before, rises)) late.ended))
      (λ behind. late.unsent (sent_later other (t.moment q) late.moment (omega (arith, behind)) (t.sent q other is_other)))))
