-- One legal run of the commands of all connections. There are no cores, threads, queues or stamps in it.
use Rattle.std.specs.Prelude.{◌≡◌, ℕ, ◌<◌, List, [], ◌∷◌, ⊤}
use Rattle.mc_calls.specs.declared.entry.Entry.{Entry}
use Rattle.mc_calls.specs.Order.{of_connection}
use Rattle.mc_calls.specs.History.{IsLegal}
use Rattle.mc_parse.specs.declared.command.Command.{Command}
use Rattle.mc_parse.specs.Calls.{due, dues_of}

-- each entry belongs to one of `count` connections
abbrev pub AreOfConnections : ℕ → List Entry → Type 0
AreOfConnections count [] = ⊤
AreOfConnections count (e ∷ es) = (e.tag.conn < count) × AreOfConnections count es

-- the entries make the calls of all connections' commands: again and again the next call of some
-- connection, until none is left. Each reply is the one that the call's shard gives at that point
pub record IsRun (shards : ℕ) (es : List Entry) (count : ℕ) (commands : ℕ → List Command) : Type 0 where
  -- each reply is that of its shard after the calls before it on that shard; all shards are empty
  -- at first
  pub legal : IsLegal shards es
  -- each entry belongs to one of the connections
  pub connections : AreOfConnections count es
  -- the entries of a connection are its expected calls, each once and in order
  pub calls : (conn : ℕ) → conn < count → dues_of (of_connection conn es) ≡ due shards conn (commands conn)
