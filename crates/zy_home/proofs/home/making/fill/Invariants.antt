use Rattle.std.proofs.Common.{◌≡◌, ◌+◌, ◌≤◌, ◌++◌, List, length, map, Some, vec_capacity}
use Rattle.zy_conn.specs.Ring.{EventInlet}
use Rattle.zy_conn.specs.Block.{Blocked}
use Rattle.zy_home.specs.Parts.{AreFresh, rings_of_blocks, rings_of_inlets}
use Rattle.zy_home.proofs.home.making.fill.Given as goal

-- of what was done so far, and what is left
abbrev pub invariant-loop-block : goal.invariant-loop-block
invariant-loop-block l = record {
  done : List Blocked;
  used : List EventInlet;
  blocks : done ++ l.blocks ≡ l.fn.blocks;
  inlets : used ++ l.inlets ≡ l.fn.inlets;
  rings : rings_of_inlets l.inlets ≡ rings_of_blocks l.blocks;
  slots : l.slots.items ≡ map Some done;
  links : AreFresh done used l.links.items;
  slot_room : length l.slots.items + length l.blocks ≤ vec_capacity l.slots;
  link_room : length l.links.items + length l.blocks ≤ vec_capacity l.links;
}

abbrev pub decreases-loop-block : goal.decreases-loop-block
decreases-loop-block l = length l.blocks
