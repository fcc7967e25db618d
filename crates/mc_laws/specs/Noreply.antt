-- Lines that may ask for no answer, and the word noreply (docs/PROFILE.md, "noreply").
use Rattle.std.specs.Prelude.{◌≡◌, ℕ, Bool, true, false, not, ◌&&◌, ◌||◌, List, [], ◌∷◌, ◌++◌, codes}
use Rattle.mc_parse.specs.declared.command.Command.{Command}
use Rattle.mc_parse.specs.declared.command.Command.TheVariants.{Store, Cas, Get, Delete, Count, Version}
use Rattle.mc_parse.specs.declared.command.Command.TheVariants.{Verbosity, Flush, Fault, Meta, Stats}
use Rattle.mc_parse.specs.declared.need.Need.TheVariants.{Nothing}
use Rattle.mc_parse.specs.Words.{words}
use Rattle.mc_parse.specs.Need.{need}
use Rattle.mc_parse.specs.Meaning.{line_command, block_command, large_command, IsBlockFor, IsTooLarge}
use Rattle.mc_parse.specs.Deed.{says_of, is_unsaid}
use Rattle.mc_parse.specs.Form.{Ask, alone_command, value_command}
use Rattle.mc_parse.specs.Form.{metas, Form, form_of, line_form, faulty, asks}

-- ---- lines

-- a line with one more word, by which it asks for no answer
abbrev pub with_noreply : List ℕ → List ℕ
with_noreply line = line ++ codes " noreply"

-- a request may be quiet: its command is then not answered, with a block or without
abbrev pub may_be_quiet : Ask → Bool
may_be_quiet (metas ask) = false
may_be_quiet ask =
    is_unsaid (says_of (alone_command ask true)) || is_unsaid (says_of (value_command ask true []))

-- what a line says may be quiet, and is not
abbrev pub is_loud : Form → Bool
is_loud (faulty line) = false
is_loud (asks ask quiet) = may_be_quiet ask && not quiet

-- a line without a fault that may be quiet, and is not
abbrev pub takes_noreply : List ℕ → Bool
takes_noreply line = is_loud (line_form line)

-- what a line says is quiet
abbrev pub is_quiet : Form → Bool
is_quiet (faulty line) = false
is_quiet (asks ask quiet) = quiet

-- the same, asked for quietly
abbrev pub silent : Form → Form
silent (faulty line) = faulty line
silent (asks ask quiet) = asks ask true

-- the words of a line end in noreply, and say quietly what those before it say
pub record EndsInNoreply (line : List ℕ) : Type 0 where
  pub front : List (List ℕ)
  -- the words are those before it, and noreply
  pub ends : words line ≡ front ++ codes "noreply" ∷ []
  -- those before it say something that may be quiet, and is not
  pub loud : is_loud (form_of front) ≡ true
  -- with it they say the same, quietly
  pub says : line_form line ≡ silent (form_of front)

-- ---- commands

-- a command without its answer; a retrieval, the version and a meta command do not take the word noreply
abbrev pub silenced : Command → Command
silenced (Store verb key flags value quiet) = Store verb key flags value true
silenced (Cas key flags unique value quiet) = Cas key flags unique value true
silenced (Get keys unique) = Get keys unique
silenced (Delete key quiet) = Delete key true
silenced (Count key up amount quiet) = Count key up amount true
silenced Version = Version
silenced Stats = Stats
silenced (Verbosity quiet) = Verbosity true
silenced (Flush quiet) = Flush true
silenced (Fault line quiet) = Fault line true
silenced (Meta meta) = Meta meta

-- with the word noreply added, a line means the same, but is quiet
pub record OnlyFallsSilent (line : List ℕ) : Type 0 where
  -- the same must come with it
  pub wants : need (with_noreply line) ≡ need line
  -- the line without a block
  pub alone : need line ≡ Nothing → line_command (with_noreply line) ≡ silenced (line_command line)
  -- a line with its block
  pub with_its_block : (block : List ℕ) → IsBlockFor (need line) block
      → block_command (with_noreply line) block ≡ silenced (block_command line block)
  -- a line with a block that is too large
  pub too_large : IsTooLarge (need line)
      → large_command (with_noreply line) ≡ silenced (large_command line)
