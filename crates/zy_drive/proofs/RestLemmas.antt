-- The passes of cores that rest.
use Rattle.std.proofs.Common.{◌≡◌, List, [], ◌∷◌, ◌++◌}
use Rattle.zy_park.specs.Pass.{Bells, Passed}
use Rattle.zy_drive.specs.Resters.{AllAt}

-- one more pass is at the bells
pub at_last : (bells : Bells) (ps : List Passed) (p : Passed) → AllAt bells ps → p.bells ≡ bells → AllAt bells (ps ++ p ∷ [])
at_last bells [] p all here = (here, tt)
at_last bells (x ∷ xs) p all here = (all.0, at_last bells xs p all.1 here)
