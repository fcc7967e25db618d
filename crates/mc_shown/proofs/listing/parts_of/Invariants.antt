use Rattle.std.proofs.Common.{◌≡◌, length}
use Rattle.mc_shown.specs.Listing.{AreSuitedAt}
use Rattle.mc_shown.proofs.listing.parts_of.Given as goal

-- what was said so far suits the parts
abbrev pub invariant-loop-i : goal.invariant-loop-i
invariant-loop-i l = record { count : length l.parts.items ≡ l.i; suited : AreSuitedAt l.asked l.keys l.items l.parts.items }
