-- The texts of a connection's commands, each with the replies of its own entries.
use Rattle.std.specs.Prelude.{ℕ, ◌+◌, List, [], ◌∷◌}
use Rattle.mc_calls.specs.declared.entry.Entry.{Entry}
use Rattle.mc_calls.specs.Replies.{replies_at}
use Rattle.mc_parse.specs.declared.command.Command.{Command}
use Rattle.mc_reply.specs.Text.{text}

-- the texts of commands, the first of which has this index
abbrev pub texts_from : ℕ → List Command → List Entry → List (List ℕ)
texts_from index [] entries = []
texts_from index (command ∷ commands) entries =
    text command (replies_at index entries) ∷ texts_from (index + 1) commands entries

-- the texts of a connection's commands
abbrev pub texts_of : List Command → List Entry → List (List ℕ)
texts_of commands entries = texts_from 0 commands entries
