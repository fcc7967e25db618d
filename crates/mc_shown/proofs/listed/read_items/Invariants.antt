use Rattle.mc_shown.specs.Listing.{AreRead}
use Rattle.mc_shown.proofs.listed.read_items.Given as goal

-- the text so far is these items
abbrev pub invariant-loop : goal.invariant-loop
invariant-loop l = AreRead l.asked l.items.items l.text l.at
