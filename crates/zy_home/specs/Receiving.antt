-- What the steps of receiving do: items are cut, and then the blocks of the places that were touched are settled. No
-- public clause cites this module.
use Rattle.std.specs.Prelude.{◌≡◌, ℕ, List, [], ◌∷◌, ◌++◌, length, Bool, true, false, Option, Some, None, slice_get}
use Rattle.std.specs.Prelude.{Result, Ok, Err}
use Rattle.zy_base.specs.declared.outside.NoMemory.{NoMemory}
use Rattle.zy_rx.specs.declared.rx.Rx.{Rx}
use Rattle.zy_shuffle.specs.Run.{was_idle}
use Rattle.zy_conn.specs.Block.{Blocked}
use Rattle.zy_home.specs.Link.{Link}
use Rattle.zy_home.specs.Idle.{IsIdleWith}
use Rattle.zy_home.specs.Home.{Homed, StandsHome, StandsMore}
use Rattle.zy_home.specs.Place.{Settles}
use Rattle.zy_home.specs.Items.{CutsOne, CutsEach, SettlesEach, StandsAll}

-- ---- cutting

-- an idle block that is in the slot is still idle
abbrev pub StaysIdle : Option Blocked → Link → Link → Type 0
StaysIdle slot l l' = (block : Blocked) → slot ≡ Some block → IsIdleWith block.work l → IsIdleWith block.work l'

-- the places left to settle, after an item was cut for the connection at one
abbrev pub left_after : ℕ → Result Bool NoMemory → List ℕ → List ℕ
left_after place (Ok true) left = left ++ place ∷ []
left_after place (Ok false) left = left
left_after place (Err e) left = left

-- an item was cut, and may have been received
abbrev pub CutsIn : Homed → Rx → Homed → Type 0
CutsIn h item h' = CutsOne h item h' × StandsMore h item h'

-- this number of items was taken from the outlet and cut
pub record CutsAll (h : Homed) (taken : List Rx) (h' : Homed) (taken' : List Rx) (count : ℕ) : Type 0 where
  pub items : List Rx
  pub size : length items ≡ count
  pub taken_is : taken' ≡ taken ++ items
  pub cuts : CutsEach h items h'
  pub stands : StandsAll h items h'

-- ---- settling

-- what was done with the block of a place, if it was in its slot
abbrev pub StepsIn : ℕ → Option Blocked → Homed → Homed → Type 0
StepsIn place None h h' = h' ≡ h
StepsIn place (Some given) h h' = Settles was_idle place given h h' × StandsHome h h'

-- the block of a place was settled, if it was in its slot, and nothing was done otherwise
pub record SettlesAt (place : ℕ) (h h' : Homed) : Type 0 where
  pub slot : Option Blocked
  pub there : slice_get h.blocks place ≡ Some slot
  pub steps : StepsIn place slot h h'

-- blocks were settled, one after another
pub record SettlesOn (h h' : Homed) : Type 0 where
  pub places : List ℕ
  pub settles : SettlesEach h places h'
  pub stands : StandsHome h h'
