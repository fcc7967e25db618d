use Rattle.mc_answers.specs.Kinds.{IsItemText}
use Rattle.mc_kind.proofs.SeriesLemmas.{AreItems}
use Rattle.mc_kind.proofs.listing.first_listing.Given as goal

-- the bytes so far are items
abbrev pub invariant-loop : goal.invariant-loop
invariant-loop l = AreItems (IsItemText l.asked l.keys) l.bytes l.at
