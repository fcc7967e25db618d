-- The form of an answer before it is written. No public clause cites this module.
use Rattle.std.specs.Prelude.{ℕ, Bool, true, false, List, [], codes, decimal, ◌++◌}
use Rattle.mc_reply.specs.declared.answer.Answer.{Answer}
use Rattle.mc_reply.specs.declared.answer.Answer.TheVariants.{Nothing, Line, Number}
use Rattle.mc_reply.specs.Text.{line_end, line}

-- the text of an answer
abbrev pub answer_text : Answer → List ℕ
answer_text Nothing = []
answer_text (Line text) = text.now
answer_text (Number number) = line (decimal number)

-- a space and a number, in front of a text
abbrev pub spaced_number : ℕ → List ℕ → List ℕ
spaced_number number text = codes " " ++ decimal number ++ text

-- what is after the key in the first line of an item, whose value has `count` bytes
abbrev pub numbers_text : Bool → ℕ → ℕ → ℕ → List ℕ
numbers_text true flags count unique =
    spaced_number flags (spaced_number count (spaced_number unique line_end))
numbers_text false flags count unique = spaced_number flags (spaced_number count line_end)
