-- What the words after the name of a storage command say, read one after the other. No public clause cites this
-- module.
use Rattle.std.specs.Prelude.{◌≡◌, ℕ, Bool, true, false, if◌then◌else◌, List, [], ◌∷◌, ◌++◌, Option, None, Some, Result}
use Rattle.std.specs.Prelude.{Ok, Err}
use Rattle.mc_parse.specs.declared.error_line.ErrorLine.{ErrorLine}
use Rattle.mc_parse.specs.declared.name.Name.{Name}
use Rattle.mc_parse.specs.declared.storing.Storing.{Storing}
use Rattle.mc_parse.specs.Words.{is_noreply}
use Rattle.mc_parse.specs.Form.{Form, faulty, asks}
use Rattle.mc_parse.specs.Parsed.{stored_ask}

-- a text is some bytes, a word, and the text after it
pub record Parts (text word rest : List ℕ) : Type 0 where
  pub front : List ℕ
  pub is : text ≡ front ++ (word ++ rest)

-- whether the words after the numbers ask for no answer; nothing if others follow
abbrev pub quiet_by : List (List ℕ) → Option Bool
quiet_by [] = Some false
quiet_by (word ∷ []) = if is_noreply word then Some true else None
quiet_by (word ∷ next ∷ words) = None

-- what a storage line with this name says, by what was read of it
abbrev pub storing_form : Name → Storing → Form
storing_form name said = asks (stored_ask name said.key.now said.flags said.bytes said.unique) said.quiet

-- the same, or its fault
abbrev pub storing_seen : Name → Result Storing ErrorLine → Form
storing_seen name (Ok said) = storing_form name said
storing_seen name (Err fault) = faulty fault
