-- What the steps of a turn at home come to together. No public clause cites this module.
use Rattle.zy_rx.specs.Ring.{Taking}
use Rattle.zy_home.specs.Home.{Homed}
use Rattle.zy_home.specs.Place.{OwnsTo}
use Rattle.zy_core.specs.declared.steps.AtHome.{AtHome}
use Rattle.zy_core.specs.Turn.{ReceivesTo, CollectsAll}

-- items were received, blocks were collected, and one was claimed
pub record HasHomeSteps (h : Homed) (o : Taking) (h' : Homed) (o' : Taking) (came : AtHome) : Type 0 where
  pub received : Homed
  pub collected : Homed
  pub receives : ReceivesTo h o received o' came.received
  pub collects : CollectsAll h.pass.table.slots received collected came.collected
  pub claims : OwnsTo h.pass.table.slots collected h' came.own
