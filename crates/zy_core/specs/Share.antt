-- What contracts see of what all cores share.
use Rattle.std.specs.Prelude.{List}
use Rattle.zy_shuffle.specs.Pass.{Ringed}
use Rattle.mc_store.specs.Pass.{Stored}
use Rattle.zy_control.specs.Pass.{Controlled}

-- the rings of all cores, the store, and the control words
pub record Sharing : Type 0 where
  pub rings : List Ringed
  pub store : Stored
  pub control : Controlled

-- these parts, as what all cores share
abbrev pub sharing : List Ringed → Stored → Controlled → Sharing
sharing rings store control = record { rings = rings; store = store; control = control }
