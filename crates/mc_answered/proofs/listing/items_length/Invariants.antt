use Rattle.std.proofs.Common.{◌≡◌, ◌≤◌, ◌++◌, length, take, drop}
use Rattle.mc_answered.specs.With.{said_items}
use Rattle.mc_answered.proofs.listing.items_length.Given as goal

-- the items so far are those of the keys so far
abbrev pub invariant-loop-i : goal.invariant-loop-i
invariant-loop-i l = record {
  low : l.at ≤ length l.bytes;
  is : said_items l.asked l.keys l.saids ≡ take l.at l.bytes ++ said_items l.asked (drop l.i l.keys) (drop l.i l.saids);
}
