use Rattle.std.proofs.Common.{◌≡◌, drop}
use Rattle.zy_command_line.specs.Grammar.{is_ascii}
use Rattle.zy_command_line.proofs.plain.is_ascii.Given as goal

abbrev pub invariant-loop-byte : goal.invariant-loop-byte
invariant-loop-byte l = is_ascii (drop l.byte-index l.fn.word) ≡ is_ascii l.fn.word
