-- What the moments of the notes say.
use Rattle.std.specs.List.{slice_get}
use Rattle.std.specs.Prelude.{◌↔◌}
use Rattle.std.proofs.Common.{◌≡◌, ℕ, ◌<◌, ◌≤◌, List, length, Some, sym, ap, ◌∙◌, arith}
use Rattle.std.proofs.lemmas.List.{take_all}
use Rattle.mc_parse.specs.declared.command.Command.{Command}
use Rattle.zy_capture.specs.declared.record.Record.{Record}
use Rattle.zy_times.specs.First.{AreRises, Grows}
use Rattle.zy_times.specs.Sessions.{sent_in, marks_at, IsSentIn}
use Rattle.zy_times.proofs.FirstLemmas.{above_from, at_first}
use Rattle.zy_times.proofs.SessionLemmas.{count_of, sent_grows, sent_stays, marks_grow, marks_stay}
use Rattle.zy_sessions.specs.declared.session.Session.{Session}
use Rattle.zy_sessions.specs.Sessions.{SessionHolds}

-- the moments at which a count rose never fall
never_fall : (count : ℕ → ℕ) (last : ℕ) (moments : List ℕ) → Grows count → ((moment : ℕ) → last ≤ moment → count moment ≡ count last) → AreRises count last moments
    → (p q first second : ℕ) → slice_get moments p ≡ Some first → slice_get moments q ≡ Some second → p ≤ q → first ≤ second
never_fall count last moments grows stays are p q first second is_first is_second order =
    let above = above_from count last moments grows stays are q second second is_second (omega arith) in
    at_first count last moments grows stays are p second first is_first (omega (arith, above, order))

module _ (records : List Record) (conn session : ℕ) (s : Session) (h : SessionHolds records conn session s) where
  pub sent_in_order : (p q first last : ℕ) → slice_get s.sent.items p ≡ Some first → slice_get s.sent.items q ≡ Some last → p ≤ q → first ≤ last
  sent_in_order = never_fall (sent_in records conn session) (length records) s.sent.items (sent_grows records conn session) (sent_stays records conn session) h.sent

  pub marks_in_order : (p q first last : ℕ) → slice_get s.marks.items p ≡ Some first → slice_get s.marks.items q ≡ Some last → p ≤ q → first ≤ last
  marks_in_order = never_fall (marks_at records conn session) (length records) s.marks.items (marks_grow records conn session) (marks_stay records conn session) h.marks

  pub sent_size : length s.sent.items ≡ length s.commands.items
  sent_size = h.sent.size ∙ ap (count_of conn session) (take_all (length records) records (omega arith)) ∙ ap (λ (l : List Command). length l) (sym h.commands)

  pub sent_from : (index at moment : ℕ) → slice_get s.sent.items index ≡ Some at → (IsSentIn records conn session index moment ↔ at ≤ moment)
  sent_from index at moment is = (
    at_first (sent_in records conn session) (length records) s.sent.items (sent_grows records conn session) (sent_stays records conn session) h.sent index moment at is,
    above_from (sent_in records conn session) (length records) s.sent.items (sent_grows records conn session) (sent_stays records conn session) h.sent index moment at is,
  )

  pub marked_from : (number at moment : ℕ) → slice_get s.marks.items number ≡ Some at → (number < marks_at records conn session moment ↔ at ≤ moment)
  marked_from number at moment is = (
    at_first (marks_at records conn session) (length records) s.marks.items (marks_grow records conn session) (marks_stay records conn session) h.marks number moment at is,
    above_from (marks_at records conn session) (length records) s.marks.items (marks_grow records conn session) (marks_stay records conn session) h.marks number moment at is,
  )
