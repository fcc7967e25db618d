-- What is counted of a session, from moment to moment: its commands and its marks.
use Rattle.std.specs.List.{slice_get}
use Rattle.std.specs.Prelude.{◌↔◌}
use Rattle.std.proofs.Common.{◌≡◌, ℕ, ◌<◌, ◌≤◌, List, [], ◌∷◌, ◌++◌, length, map, None, Some, sym, ap, ◌∙◌, arith}
use Rattle.std.proofs.lemmas.List.{take_all, length-append}
use mathlib.Core.Logic.{dite}
use native.Mathlib.Decide.{dec_lt}
use Rattle.mc_parse.specs.declared.command.Command.{Command}
use Rattle.zy_capture.specs.declared.record.Record.{Record}
use Rattle.zy_capture.specs.Streams.{closes, stream}
use Rattle.zy_frame.specs.Frame.{command_of}
use Rattle.zy_frame.specs.Cut.{commands_of}
use Rattle.zy_frame.proofs.CutLaws.{commands_first, frames_of_nil}
use Rattle.zy_check.proofs.ListLemmas.{there}
use Rattle.zy_times.specs.declared.session.Session.{Session}
use Rattle.zy_times.specs.First.{Grows}
use Rattle.zy_times.specs.Line.{SessionHolds}
use Rattle.zy_times.specs.Sessions.{commands_of_session, sent_in, marks_at, IsSentIn}
use Rattle.zy_times.specs.Times.{marks_in}
use Rattle.zy_times.proofs.CountLemmas.{count_grows, count_stays}
use Rattle.zy_times.proofs.FirstLemmas.{above_from, at_first, never_above}
use Rattle.zy_times.proofs.RecordLemmas.{marks_rise}
use Rattle.zy_times.proofs.StreamLemmas.{bytes_of, stream_more}

-- a list without an element at a place is no longer
pub none_past : {A : Type 0} (xs : List A) (k : ℕ) → slice_get xs k ≡ None → length xs ≤ k
none_past xs k none = dite (dec_lt k (length xs))
    (λ low.
    let at = there xs k low in
    let both : Some at.0 ≡ None = sym at.1 ∙ none in
    absurd (cc))
    (λ high. omega arith)

-- ---- counts

-- the number of commands of a session
abbrev pub count_of : ℕ → ℕ → List Record → ℕ
count_of conn session records = length (commands_of_session records conn session)

-- the number of its marks
abbrev pub marks_count : ℕ → ℕ → List Record → ℕ
marks_count conn session records = marks_in records conn session

pub count_rises : (conn session : ℕ) (records : List Record) (r : Record) → count_of conn session records ≤ count_of conn session (records ++ r ∷ [])
count_rises conn session records r =
    let first = commands_first (stream conn session records) (bytes_of (closes conn records) conn session r) in
    let whole = ap (λ (s : List ℕ). length (commands_of s)) (stream_more records r conn session) ∙ ap (λ (l : List Command). length l) first.1
    ∙ length-append (commands_of (stream conn session records)) first.0 in
    omega (arith, whole)

pub no_commands : commands_of [] ≡ []
no_commands = ap (map command_of) frames_of_nil

module _ (records : List Record) (conn session : ℕ) where
  pub sent_grows : Grows (sent_in records conn session)
  sent_grows = count_grows (count_of conn session) (count_rises conn session) records

  pub sent_stays : (moment : ℕ) → length records ≤ moment → sent_in records conn session moment ≡ sent_in records conn session (length records)
  sent_stays = count_stays (count_of conn session) (count_rises conn session) records

  pub marks_grow : Grows (marks_at records conn session)
  marks_grow = count_grows (marks_count conn session) (λ rs x. marks_rise rs x conn session) records

  pub marks_stay : (moment : ℕ) → length records ≤ moment → marks_at records conn session moment ≡ marks_at records conn session (length records)
  marks_stay = count_stays (marks_count conn session) (λ rs x. marks_rise rs x conn session) records

-- ---- moments

module _ (records : List Record) (conn session : ℕ) (s : Session) (h : SessionHolds records conn session s) where
  pub sent_size : length s.sent.items ≡ length (commands_of_session records conn session)
  sent_size = h.sent.size ∙ ap (count_of conn session) (take_all (length records) records (omega arith))

  pub sent_from : (index at moment : ℕ) → slice_get s.sent.items index ≡ Some at → (IsSentIn records conn session index moment ↔ at ≤ moment)
  sent_from index at moment is = (
    at_first (sent_in records conn session) (length records) s.sent.items (sent_grows records conn session) (sent_stays records conn session) h.sent index moment at is,
    above_from (sent_in records conn session) (length records) s.sent.items (sent_grows records conn session) (sent_stays records conn session) h.sent index moment at is,
  )

  pub mark_from : (number at moment : ℕ) → slice_get s.marks.items number ≡ Some at → (number < marks_at records conn session moment ↔ at ≤ moment)
  mark_from number at moment is = (
    at_first (marks_at records conn session) (length records) s.marks.items (marks_grow records conn session) (marks_stay records conn session) h.marks number moment at is,
    above_from (marks_at records conn session) (length records) s.marks.items (marks_grow records conn session) (marks_stay records conn session) h.marks number moment at is,
  )

  pub mark_never : (number moment : ℕ) → slice_get s.marks.items number ≡ None → number < marks_at records conn session moment → ⊥
  mark_never number moment none =
      never_above (marks_at records conn session) (length records) s.marks.items (marks_grow records conn session) (marks_stay records conn session) h.marks number moment (none_past s.marks.items number none)
