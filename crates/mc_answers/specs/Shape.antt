-- The shape of the answers to a command, wide enough for each server: of which bytes they are, and where they end.
use Rattle.std.specs.Prelude.{◌⊎◌, Bool, true, false, ℕ, List}
use Rattle.mc_meta.specs.Flags.{is_among}
use Rattle.mc_parse.specs.Saying.{a_found}
use Rattle.mc_parse.specs.Saying.{Saying, says_reply, says_items, says_counts, says_line, says_marks}
use Rattle.mc_reply.specs.MetaText.{value_letter}
use Rattle.mc_answers.specs.Cut.{IsLine, IsSeries}
use Rattle.mc_answers.specs.Kinds.{IsItemText, IsEndText, IsValueText, IsMissLine}
use Rattle.mc_answers.specs.Answer.{IsUnless, IsCounts}

-- what shows an item, with its value or not, or that there is none
abbrev pub IsFoundText : Bool → List ℕ → List ℕ → List ℕ → Type 0
IsFoundText true key letters text = IsValueText key letters text ⊎ IsMissLine key text
IsFoundText false key letters text = IsLine text

-- a text that answers so; the same item may be in it several times
abbrev pub IsShaped : Saying → List ℕ → Type 0
IsShaped (says_reply quiet) text = IsUnless quiet IsLine text
IsShaped (says_items keys asked) text = IsSeries (IsItemText asked keys) IsEndText text
IsShaped says_counts text = IsCounts text
IsShaped (says_line fixed quiet) text = IsUnless quiet IsLine text
IsShaped (says_marks a_found key letters) text = IsFoundText (is_among letters value_letter) key letters text
IsShaped (says_marks about key letters) text = IsLine text
