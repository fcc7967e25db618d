-- What a step of a feeder answers, and what it leaves in the rings.
use Rattle.std.specs.Prelude.{◌≡◌, ◌≢◌, ◌↔◌, List}
use Rattle.zy_rx.specs.Ring.{Offering}
use Rattle.zy_rx.specs.declared.feeder.Fed.{Fed}
use Rattle.zy_rx.specs.declared.feeder.Fed.TheVariants as Answers
use Rattle.zy_rx.specs.Feed.{rings_of, sent_by, HasOffered, HasNoRoom}
use Rattle.zygos_tail.specs.declared.feeder.Stage.{Stage}
use Rattle.zygos_tail.specs.declared.feeder.Stage.TheVariants as Stages

-- what a step's answer means for inlets and stage
pub record StepSays (before after : List Offering) (stage : Stage) (fed : Fed) : Type 0 where
  pub offered : fed ≡ Answers.Offered → HasOffered before after
  pub kept : fed ≢ Answers.Offered → sent_by after ≡ sent_by before
  pub full : fed ≡ Answers.Full → HasNoRoom after
  pub ended : (fed ≡ Answers.Ended) ↔ (stage ≡ Stages.Ended)
  pub broken : (fed ≡ Answers.Broken) ↔ (stage ≡ Stages.Broken)
  pub rings : rings_of after ≡ rings_of before
