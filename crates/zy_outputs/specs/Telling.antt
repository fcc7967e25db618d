-- What is found of some session, or the calls of all. No public clause cites this module.
use Rattle.std.specs.Prelude.{◌≡◌, List, Option, None, Some}
use Rattle.zy_refute.specs.declared.observed.Observed.{Observed}
use Rattle.zy_outputs.specs.declared.finding.Finding.{Finding}
use Rattle.zy_outputs.specs.declared.observing.Observing.{Observing}
use Rattle.zy_outputs.specs.declared.observing.Observing.TheVariants.{Calls}
use Rattle.zy_outputs.specs.Observing.{IsFoundBy}

-- what is found is told, or these calls are
abbrev pub IsTold : Option Finding → List Observed → Observing → Type 0
IsTold None calls (Calls own) = own.items ≡ calls
IsTold None calls observing = ⊥
IsTold (Some finding) calls observing = IsFoundBy finding observing
