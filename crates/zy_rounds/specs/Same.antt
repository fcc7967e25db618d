-- What stays of cores and of a pass at the bells while cores are driven.
use Rattle.std.specs.Prelude.{◌≡◌, List}
use Rattle.zy_park.specs.Pass.{Passed}
use Rattle.zy_core.specs.Core.{Cored, identity_of}
use Rattle.zy_core.specs.Cores.{identities}

-- what stays of a core is as it was
abbrev pub SameCore : Cored → Cored → Type 0
SameCore before after = identity_of after ≡ identity_of before

-- what stays of each of several cores is as it was
abbrev pub SameCores : List Cored → List Cored → Type 0
SameCores before after = identities after ≡ identities before

-- a pass is at the same bells, and of the same core
abbrev pub SameBell : Passed → Passed → Type 0
SameBell before after = (after.bells ≡ before.bells) × (after.core ≡ before.core)
