-- From which moments on commands were sent and had ended. No public clause cites this module.
use Rattle.std.specs.Prelude.{◌≡◌, ◌↔◌, ℕ, ◌≤◌, Bool, List, length, is_some, Option, None, Some, IfSome}
use Rattle.std.specs.List.{slice_get}
use Rattle.zy_run.specs.Commands.{commands_in}
use Rattle.zy_times.specs.declared.span.Span.{Span}
use Rattle.zy_times.specs.declared.spans.Spans.{Spans}
use Rattle.zy_times.specs.Fitting.{FoundUnfitConnection}
use Rattle.zy_times.specs.Recording.{Recording, Numbered, numbered_of, IsSent, IsEnded}

-- there is a first moment, and this one is not before it
abbrev pub IsFrom : Option ℕ → ℕ → Type 0
IsFrom None moment = ⊥
IsFrom (Some first) moment = first ≤ moment

-- a command is sent from one moment on, and ended from another on or never
pub record SpanHolds (r : Recording) (conn : ℕ) (n : Numbered) (span : Span) : Type 0 where
  pub sent : (moment : ℕ) → IsSent r conn n moment ↔ (span.sent ≤ moment)
  pub within : IfSome span.end (λ moment. moment ≤ length r.records)
  pub ended : (moment : ℕ) → IsEnded r conn n moment ↔ IsFrom span.end moment

-- so for the first `count` commands of a connection
pub record AreSpansBelow (r : Recording) (conn count : ℕ) (spans : List Span) : Type 0 where
  pub size : length spans ≡ count
  pub each : (index : ℕ) (span : Span) → slice_get spans index ≡ Some span
      → SpanHolds r conn (numbered_of r conn index) span

-- so for all commands of `count` connections, and the first moment at which their marks do not fit
pub record AreSpans (r : Recording) (count : ℕ) (spans : Spans) : Type 0 where
  pub size : length spans.lines.items ≡ count
  pub each : (conn : ℕ) (line : _) → slice_get spans.lines.items conn ≡ Some line
      → AreSpansBelow r conn (length (commands_in r.records conn)) line.items
  pub unfit : FoundUnfitConnection r count spans.unfit

-- some mark ends the command
abbrev pub has_end : Span → Bool
has_end span = is_some span.end
