-- The flags and commands of a session, as the sessions of a connection are gone through.
use Rattle.std.specs.List.{slice_get, slice_range}
use Rattle.std.proofs.Common.{◌≡◌, ℕ, ◌+◌, ◌-◌, ◌<◌, ◌≤◌, Bool, List, length, take, drop, Option, Some, ap, ◌∙◌, subst, arith}
use Rattle.std.proofs.lemmas.Option.{slice_get_within}
use Rattle.zy_capture.specs.Streams.{closes}
use Rattle.zy_times.specs.declared.line.Line.{Line}
use Rattle.zy_times.specs.declared.session.Session.{Session}
use Rattle.zy_times.specs.declared.span.Span.{Span}
use Rattle.zy_times.specs.Line.{SessionHolds, LineHolds}
use Rattle.zy_times.specs.Recording.{Recording, first_in, answered_in}
use Rattle.zy_times.specs.Recorded.{flags_in}
use Rattle.zy_times.specs.Sessions.{commands_of_session, MarksFitIn}
use Rattle.zy_times.specs.Fitting.{IsUnfitAt, FoundUnfitBelow, earlier_of}
use Rattle.zy_times.specs.Spans.{AreSpansBelow}
use Rattle.zy_times.proofs.NumberLemmas.{first_more, flags_within, flags_part, answered_long}
use Rattle.zy_times.proofs.SessionLemmas.{sent_size}
use Rattle.zy_times.proofs.FitLemmas.{unfit_sessions}

-- this is a session of a line, and these are the offsets of its flags
pub record IsPart (r : Recording) (conn : ℕ) (line : Line) (answered : List Bool) (at : ℕ) (s : Session) (first last : ℕ) : Type 0 where
  pub lines : LineHolds r.records conn line
  pub flags : answered ≡ flags_in r conn
  pub there : slice_get line.sessions.items at ≡ Some s
  pub begins : first ≡ first_in r conn at
  pub ends : last ≡ first + length s.sent.items

module _ {r : Recording} {conn : ℕ} {line : Line} {answered : List Bool} {at : ℕ} {s : Session} {first last : ℕ} (p : IsPart r conn line answered at s first last) where
  pub held : SessionHolds r.records conn at s
  held = p.lines.sessions at s p.there

  begun : at < closes conn r.records + 1
  begun = let low = slice_get_within line.sessions.items at s p.there in let count = p.lines.count in omega (arith, low, count)

  pub own_within : last ≤ length answered
  own_within =
      let size = sent_size r.records conn at s held in
      let within = flags_within r conn at begun in
      let long = ap (λ (l : List Bool). length l) p.flags in
      omega (arith, size, within, long, p.begins, p.ends)

  pub own_is : slice_range answered first last ≡ answered_in r conn at
  own_is =
      let size = sent_size r.records conn at s held in
      let count : last - first ≡ length (commands_of_session r.records conn at) = omega (arith, size, p.ends) in
      (λ i. take (count i) (drop (p.begins i) (p.flags i))) ∙ flags_part r conn at begun

  pub next_is : last ≡ first_in r conn (at + 1)
  next_is =
      let size = sent_size r.records conn at s held in
      let more = first_more r conn at begun in
      omega (arith, size, more, p.begins, p.ends)

  pub unfit_next : (one other : Option ℕ) → FoundUnfitBelow r conn at one → IsUnfitAt (length r.records) (MarksFitIn r.records conn at (slice_range answered first last)) other → FoundUnfitBelow r conn (at + 1) (earlier_of one other)
  unfit_next one other before here =
      unfit_sessions r conn at one other before (subst (λ (flags : List Bool). IsUnfitAt (length r.records) (MarksFitIn r.records conn at flags) other) own_is here)

  pub spans_next : (spans : List Span) → AreSpansBelow r conn (first_in r conn at + length (slice_range answered first last)) spans → AreSpansBelow r conn (first_in r conn (at + 1)) spans
  spans_next spans are =
      let long = ap (λ (l : List Bool). length l) own_is in
      let size = answered_long r conn at begun in
      let more = first_more r conn at begun in
      let next : first_in r conn at + length (slice_range answered first last) ≡ first_in r conn (at + 1) = omega (arith, long, size, more) in
      subst (λ (n : ℕ). AreSpansBelow r conn n spans) next are
