-- The command of a line, and of a line with its block (docs/PROFILE.md, "Commands").
use Rattle.std.specs.Prelude.{◌≡◌, ℕ, ◌+◌, ◌-◌, ◌<◌, ◌≤◌, Bool, if◌then◌else◌}
use Rattle.std.specs.Prelude.{List, [], ◌∷◌, length, take, drop}
use Rattle.std.specs.Str.{bytes_eq}
use Rattle.mc_parse.specs.declared.command.Command.{Command}
use Rattle.mc_parse.specs.declared.command.Command.TheVariants.{Fault}
use Rattle.mc_parse.specs.declared.error_line.ErrorLine.TheVariants.{LongLine, BadChunk, TooLarge}
use Rattle.mc_calls.specs.Shard.{value_limit}
use Rattle.mc_parse.specs.declared.need.Need.{Need}
use Rattle.mc_parse.specs.declared.need.Need.TheVariants.{Nothing, Block, Quit}
use Rattle.mc_parse.specs.Form.{Form, line_form, faulty, asks}
pub use Rattle.mc_parse.specs.Form.{fault, alone_meta, value_meta, alone_command, value_command}

-- ---- blocks

-- the two bytes that end a block
abbrev pub line_end : List ℕ
line_end = 13 ∷ 10 ∷ []

-- the value in a block: all but its last two bytes
abbrev pub value_of : List ℕ → List ℕ
value_of block = take (length block - 2) block

-- a block ends in the two bytes that must end it
abbrev pub is_ended : List ℕ → Bool
is_ended block = bytes_eq (drop (length block - 2) block) line_end

-- the block is that of a line with this need, and its value is within the limit
abbrev pub IsBlockFor : Need → List ℕ → Type 0
IsBlockFor Nothing block = ⊥
IsBlockFor (Block bytes) block = (bytes ≤ value_limit) × (length block ≡ bytes + 2)
IsBlockFor Quit block = ⊥

-- a line with this need has a block whose value is over the limit
abbrev pub IsTooLarge : Need → Type 0
IsTooLarge Nothing = ⊥
IsTooLarge (Block bytes) = value_limit < bytes
IsTooLarge Quit = ⊥

-- ---- what a line says, as a command

-- a line that needs nothing
abbrev pub command_for : Form → Command
command_for (faulty line) = fault line
command_for (asks ask quiet) = alone_command ask quiet

-- a line with a block
abbrev pub block_command_for : List ℕ → Form → Command
block_command_for block (faulty line) = fault line
block_command_for block (asks ask quiet) =
    if is_ended block then value_command ask quiet (value_of block) else Fault BadChunk quiet

-- the command of a line with a block that is too large, by what the line says
abbrev pub large_command_for : Form → Command
large_command_for (faulty line) = fault line
large_command_for (asks ask quiet) = Fault TooLarge quiet

-- ---- requests

-- the command of a line that needs nothing
unfoldable pub line_command : List ℕ → Command
line_command line = command_for (line_form line)

-- the command of a line with its block, whose last two bytes end it
unfoldable pub block_command : List ℕ → List ℕ → Command
block_command line block = block_command_for block (line_form line)

-- the command of a line with a block whose value is over the limit
unfoldable pub large_command : List ℕ → Command
large_command line = large_command_for (line_form line)

-- the command of a line that is too long
abbrev pub long_command : Command
long_command = fault LongLine
