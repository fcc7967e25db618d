-- What the parts of a parsed line say. No public clause cites this module.
use Rattle.std.specs.Prelude.{ℕ, Bool, false, ◌==◌, List, [], ◌∷◌, map, filter, length, take, ⊤, Result, Ok, Err}
use Rattle.std.specs.Borrow.{Bor}
use Rattle.mc_parse.specs.declared.args.Args.{Args}
use Rattle.mc_parse.specs.declared.command.Command.{Command}
use Rattle.mc_parse.specs.declared.command.Command.TheVariants.{Get}
use Rattle.mc_parse.specs.declared.error_line.ErrorLine.{ErrorLine}
use Rattle.mc_parse.specs.declared.error_line.ErrorLine.TheVariants.{Unknown}
use Rattle.mc_parse.specs.declared.line.Line.{Line}
use Rattle.mc_parse.specs.declared.name.Name.{Name}
use Rattle.mc_parse.specs.declared.name.Name.TheVariants as Names
use Rattle.mc_parse.specs.declared.line.Line.TheVariants.{Fault, Asks}
use Rattle.mc_parse.specs.declared.meta_ask.MetaAsk.{MetaAsk as SeenMetaAsk}
use Rattle.mc_parse.specs.Name.{names}
use Rattle.mc_parse.specs.MetaAsk.{meta_ask_seen}
use Rattle.mc_parse.specs.Form.{Form, ask_seen, faulty, asks, metas}
use Rattle.mc_parse.specs.Meaning.{fault}

-- ---- words

-- words as texts
abbrev pub texts : List (Bor (List ℕ)) → List (List ℕ)
texts words = map (λ (word : Bor (List ℕ)). word.now) words

-- the words after a name
abbrev pub words_in : Args → List (List ℕ)
words_in args = texts (take args.count args.words)

-- the number of words that may follow a name is limited
abbrev pub IsLimited : Name → Type 0
IsLimited (Names.Get unique) = ⊥
IsLimited name = ⊤

-- at most three words may follow a name
abbrev pub HasFew : Name → Type 0
HasFew (Names.Get unique) = ⊥
HasFew (Names.Store verb) = ⊥
HasFew Names.Cas = ⊥
HasFew name = ⊤

-- ---- names

-- a name has this length
abbrev pub has_length : ℕ → List ℕ × Name → Bool
has_length count entry = length entry.0 == count

-- the names of this length
abbrev pub names_of_length : ℕ → List (List ℕ × Name)
names_of_length count = filter (has_length count) names

-- ---- lines

-- what a parsed line of a classic command says
abbrev pub form_seen : Line → Form
form_seen (Fault line) = faulty line
form_seen (Asks ask quiet) = asks (ask_seen ask) quiet

-- what a line says when it is read as a meta command
abbrev pub meta_seen : Result SeenMetaAsk ErrorLine → Form
meta_seen (Ok ask) = asks (metas (meta_ask_seen ask)) false
meta_seen (Err line) = faulty line

-- ---- commands

-- a retrieval of these keys; a fault if there are none
abbrev pub retrieval : List (List ℕ) → Bool → Command
retrieval [] unique = fault Unknown
retrieval (key ∷ keys) unique = Get (key ∷ keys) unique
