-- Marks and moments of a journal in time are those of the sessions of its calls' names.
use Rattle.std.specs.List.{slice_get}
use Rattle.std.proofs.Common.{◌≡◌, ℕ, ◌+◌, ◌-◌, ◌<◌, List, length, Some, ap, sym, ◌∙◌, subst, arith}
use Rattle.mc_calls.specs.declared.entry.Entry.{Entry}
use Rattle.zy_capture.specs.declared.record.Record.{Record}
use Rattle.zy_frame.specs.Cut.{commands_of}
use Rattle.zy_run.specs.Commands.{streams_in, commands_in}
use Rattle.zy_run.specs.Output.{commands_before}
use Rattle.zy_times.specs.Recording.{Recording, Numbered, numbered_of, IsSent, IsEnded, MarksFit}
use Rattle.zy_times.specs.InTime.{IsInTime}
use Rattle.zy_times.proofs.NumberLemmas.{numbered, numbered_is}
use Rattle.judge_laws.proofs.PlaceLemmas.{session_at, before_next, placed}
use Rattle.judge_laws.proofs.ExplainLemmas.{stream_is, AreTimed}

module _ (records : List Record) (es : List Entry) where
  abbrev r : Recording
  r = record { records = records; entries = es }

  -- the session and number of a command are those of its calls' names
  number_named : (conn index : ℕ) → index < length (commands_in records conn)
      → numbered_of r conn index ≡ numbered (session_at (streams_in records conn) index) (index - commands_before (session_at (streams_in records conn) index) (streams_in records conn))
  number_named conn index within =
      let streams = streams_in records conn in
      let session = session_at streams index in
      let number = index - commands_before session streams in
      let at = placed streams index within in
      let from = at.from in
      let until = at.until in
      let next = before_next streams session in
      let own = ap (λ (s : List ℕ). length (commands_of s)) (stream_is records conn session) in
      let on : index ≡ commands_before session streams + number = omega (arith, from) in
      ap (numbered_of r conn) on ∙ numbered_is r conn session number (omega (arith, from, until, next, own))

  -- the marks fit, and the journal is in time, by sessions
  pub timed_by_session : ((p : ℕ) (e : Entry) → slice_get es p ≡ Some e → e.tag.index < length (commands_in records e.tag.conn)) → MarksFit r → (t : IsInTime r) → AreTimed records es t.moment
  timed_by_session within fit t = record {
    fit = λ conn session moment. fit moment conn session;
    rises = t.rises;
    within = t.within;
    sent = λ p e is. subst (λ (at : Numbered). IsSent r e.tag.conn at (t.moment p)) (number_named e.tag.conn e.tag.index (within p e is)) (t.sent p e is);
    unended = λ p e is ended. t.unended p e is (subst (λ (at : Numbered). IsEnded r e.tag.conn at (t.moment p)) (sym (number_named e.tag.conn e.tag.index (within p e is))) ended);
  }
