-- The effect of a feeder's step on the ends to which items are offered.
use Rattle.std.specs.Prelude.{◌≡◌, ℕ, List, [], ◌∷◌, ◌++◌, map, Some, slice_get, slice_set}
use Rattle.zy_rx.specs.declared.rx.Rx.{Rx}
use Rattle.zy_rx.specs.Ring.{RingName, Offering, Taking}

-- the rings of inlets, by core
abbrev pub rings_of : List Offering → List RingName
rings_of inlets = map (λ (i : Offering). i.ring) inlets

-- the items that were offered, by core
abbrev pub sent_by : List Offering → List (List Rx)
sent_by inlets = map (λ (i : Offering). i.sent) inlets

-- one item was offered to one core
pub record HasOffered (before after : List Offering) : Type 0 where
  pub core : ℕ
  pub sent : List Rx
  pub item : Rx
  pub was : slice_get (sent_by before) core ≡ Some sent
  pub is : sent_by after ≡ slice_set (sent_by before) core (sent ++ item ∷ [])

-- one inlet knows no free slot
pub record HasNoRoom (inlets : List Offering) : Type 0 where
  pub core : ℕ
  pub inlet : Offering
  pub there : slice_get inlets core ≡ Some inlet
  pub full : inlet.free ≡ 0

-- the items offered to this core are those that its outlet has taken, followed by those that it knows
abbrev pub HasMet : ℕ → List Offering → Taking → Type 0
HasMet core inlets outlet =
    (inlet : Offering) → slice_get inlets core ≡ Some inlet → inlet.sent ≡ outlet.taken ++ outlet.known
