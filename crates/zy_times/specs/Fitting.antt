-- The first moment at which marks do not fit. No public clause cites this module.
use Rattle.std.specs.Prelude.{◌≡◌, ℕ, ◌<◌, ◌≤◌, min, Bool, List, length, take, Option, None, Some}
use Rattle.std.specs.List.{slice_get}
use Rattle.zy_capture.specs.declared.record.Record.{Record}
use Rattle.zy_times.specs.Recording.{Recording, answered_in}
use Rattle.zy_times.specs.Sessions.{sent_in, MarksFitIn}
use Rattle.zy_times.specs.Times.{trues}

-- the first `count` marks of a session each find an answered command that is sent
abbrev pub AreGood : List Record → ℕ → ℕ → List ℕ → List Bool → ℕ → Type 0
AreGood records conn session marks answered count = (number moment : ℕ) → number < count
    → slice_get marks number ≡ Some moment → number < trues (take (sent_in records conn session moment) answered)

-- what fits at every moment, or this is the first of the moments up to `last` at which it does not
abbrev pub IsUnfitAt : ℕ → (ℕ → Type 0) → Option ℕ → Type 0
IsUnfitAt last Fits None = (moment : ℕ) → Fits moment
IsUnfitAt last Fits (Some first) =
    (1 ≤ first) × (first ≤ last) × ((moment : ℕ) → moment < first → Fits moment) × (Fits first → ⊥)

-- the marks of a session fit at a moment
abbrev pub SessionFits : Recording → ℕ → ℕ → ℕ → Type 0
SessionFits r conn session moment = MarksFitIn r.records conn session (answered_in r conn session) moment

-- the first moment at which the marks of some session of a connection do not fit, of those before a session
abbrev pub FoundUnfitBelow : Recording → ℕ → ℕ → Option ℕ → Type 0
FoundUnfitBelow r conn count found =
    IsUnfitAt (length r.records) (λ moment. (session : ℕ) → session < count → SessionFits r conn session moment) found

-- the same of all sessions of a connection
abbrev pub FoundUnfit : Recording → ℕ → Option ℕ → Type 0
FoundUnfit r conn found =
    IsUnfitAt (length r.records) (λ moment. (session : ℕ) → SessionFits r conn session moment) found

-- the same of the connections before one
abbrev pub FoundUnfitConnection : Recording → ℕ → Option ℕ → Type 0
FoundUnfitConnection r count found =
    IsUnfitAt (length r.records)
    (λ moment. (conn : ℕ) → conn < count → (session : ℕ) → SessionFits r conn session moment) found

-- the earlier of two moments, if there are any
abbrev pub earlier_of : Option ℕ → Option ℕ → Option ℕ
earlier_of (Some moment) (Some next) = Some (min moment next)
earlier_of (Some moment) None = Some moment
earlier_of None next = next
