use Rattle.std.proofs.Common.{◌≡◌, ◌++◌, map, drop}
use Rattle.std.specs.List.{list_all}
use Rattle.zy_command_line.specs.Grammar.{is_plain}
use Rattle.zy_command_line.proofs.asking.texts.Given as goal

abbrev pub invariant-loop-word : goal.invariant-loop-word
invariant-loop-word l = (map (λ t. t.now) l.texts.items ++ drop l.word-index l.fn.words ≡ l.fn.words)
    × (list_all is_plain (drop l.word-index l.fn.words) ≡ list_all is_plain l.fn.words)
