use Rattle.std.proofs.Common.{◌≡◌, drop}
use Rattle.zy_home.specs.Home.{all_here}
use Rattle.zy_home.proofs.home.are_here.Given as goal

abbrev pub invariant-loop-block : goal.invariant-loop-block
invariant-loop-block l = all_here (drop l.block-index l.blocks) ≡ all_here l.blocks
