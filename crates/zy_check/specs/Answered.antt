-- Which commands are answered: those with a text that is not empty.
use Rattle.std.specs.Prelude.{◌≡◌, ℕ, List, [], ◌∷◌, Bool, true, false, length, map, Some}
use Rattle.std.specs.List.{slice_get}
use Rattle.mc_calls.specs.declared.entry.Entry.{Entry}
use Rattle.mc_calls.specs.Order.{of_connection}
use Rattle.mc_parse.specs.declared.command.Command.{Command}
use Rattle.mc_reply.specs.Texts.{texts_of}
use Rattle.zy_run.specs.Commands.{commands_held}
use Rattle.zy_check.specs.Given.{Given}

-- a text has a byte
abbrev pub has_bytes : List ℕ → Bool
has_bytes [] = false
has_bytes (byte ∷ bytes) = true

-- which of a connection's commands are answered, by the replies of its own entries
abbrev pub answered_by : List Command → List Entry → List Bool
answered_by commands own = map has_bytes (texts_of commands own)

-- for each connection, which of its commands are answered
pub record AreAnswered (g : Given) (answered : List (List Bool)) : Type 0 where
  pub count : length answered ≡ length g.streams
  pub each : (conn : ℕ) (flags : List Bool) → slice_get answered conn ≡ Some flags
      → flags ≡ answered_by (commands_held g.streams conn) (of_connection conn g.entries)
