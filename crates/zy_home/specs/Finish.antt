-- A connection at the end, when all that it received was executed.
use Rattle.std.specs.Prelude.{◌≡◌, ℕ, List, length, flat_map}
use Rattle.mc_calls.specs.declared.entry.Entry.{Entry}
use Rattle.mc_parse.specs.declared.command.Command.{Command}
use Rattle.mc_parse.specs.Calls.{due, dues_of}
use Rattle.mc_reply.specs.Texts.{texts_of}
use Rattle.zy_frame.specs.Cut.{commands_of}
use Rattle.zy_calls.specs.Output.{Output}
use Rattle.zy_rx.specs.Session.{Sessions, streams_of}
use Rattle.zy_home.specs.Link.{ends_from}

-- the commands of a connection's sessions, one session after another
abbrev pub commands_received : Sessions → List Command
commands_received s = flat_map commands_of (streams_of s)

-- the end of a connection that received these sessions, with its calls on `shards` shards, its
-- output, and the ends of its sessions: each expected call was made, in order; the output has the
-- texts of all commands, each from the replies of its own calls; all commands are finished; and
-- each closed session ends after its commands
pub record ConnEnd (shards : ℕ) (calls : List Entry) (s : Sessions) (output : Output) (ends : List ℕ) : Type 0 where
  pub dues : dues_of calls ≡ due shards output.conn (commands_received s)
  pub texts : output.texts ≡ texts_of (commands_received s) calls
  pub finished : output.finished ≡ length (commands_received s)
  pub ends_are : ends ≡ ends_from 0 s.closed
