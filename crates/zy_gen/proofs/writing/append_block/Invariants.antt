use Rattle.std.proofs.Common.{◌≡◌, ◌+◌, ◌-◌, ◌++◌}
use Rattle.zy_gen.specs.Traffic.{block}
use Rattle.zy_gen.proofs.writing.append_block.Given as goal

-- what is written, followed by the letters that are left, is what was there, followed by the whole
-- block
abbrev pub invariant-loop-i : goal.invariant-loop-i
invariant-loop-i l = l.out ++ block (l.letter + l.i) (l.size - l.i) ≡ l.initial.out ++ block l.letter l.size
