-- What the cores of a run were sent.
use Rattle.std.specs.Prelude.{◌≡◌, ℕ, List, length, Some, slice_get}
use Rattle.zy_capture.specs.declared.record.Record.{Record}
use Rattle.zy_rx.specs.declared.rx.Rx.{Rx}
use Rattle.zy_feed.specs.Routing.{offered_to}

-- each core was sent just what it is offered of these records
abbrev pub AllSent : List (List Rx) → List Record → Type 0
AllSent sents records =
    (core : ℕ) (sent : List Rx) → slice_get sents core ≡ Some sent → sent ≡ offered_to (length sents) core records
