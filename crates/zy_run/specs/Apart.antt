-- Connections that are apart: no key is called by two of them, and no reply shows or compares a CAS value.
use Rattle.std.specs.Prelude.{◌≡◌, ℕ, ◌<◌, List, All}
use Rattle.std.specs.List.{Contains}
use Rattle.mc_parse.specs.declared.command.Command.{Command}
use Rattle.mc_parse.specs.Plain.{all_keys_of, IsPlain}
use Rattle.zy_run.specs.Commands.{commands_over}

-- the commands of all connections, whose sessions have these streams
abbrev pub commands_of_all : (ℕ → List (List ℕ)) → ℕ → List Command
commands_of_all streams conn = commands_over (streams conn)

-- the commands of the first `count` connections share no keys
pub record AreApart (count : ℕ) (commands : ℕ → List Command) : Type 0 where
  -- no command is `gets`, `cas`, `flush_all` or `stats`, `mg` with `c` or `ms` with `C`
  pub plain : (conn : ℕ) → conn < count → All IsPlain (commands conn)
  -- no key is called by two connections
  pub keys : (conn other : ℕ) (key : List ℕ) → conn < count → other < count
      → Contains (all_keys_of (commands conn)) key → Contains (all_keys_of (commands other)) key → conn ≡ other
