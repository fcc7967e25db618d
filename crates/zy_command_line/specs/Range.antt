-- The ranges of the values of a lawful request.
use Rattle.std.specs.Prelude.{◌≤◌, ◌*◌, ℕ}
use Rattle.zy_command_line.specs.declared.request.Run.{Run}
use Rattle.zy_command_line.specs.declared.request.Traffic.{Traffic}

-- the cores, threads, shards and idle turns of a run are in their ranges
pub record IsRunnable (run : Run) : Type 0 where
  pub some_cores : 1 ≤ run.cores
  pub few_cores : run.cores ≤ 64
  pub some_threads : 1 ≤ run.threads
  pub few_threads : run.threads ≤ run.cores
  pub some_shards : 1 ≤ run.shards
  pub few_shards : run.shards ≤ 256
  pub few_turns : run.rest ≤ 1000000

-- there are 1 to 256 shards
abbrev pub AreShards : ℕ → Type 0
AreShards shards = (1 ≤ shards) × (shards ≤ 256)

-- a port is 1 to 65,535
abbrev pub IsPort : ℕ → Type 0
IsPort port = (1 ≤ port) × (port ≤ 65535)

-- traffic has 1 to 4,096 connections, each with the same number of commands, and 1 to 1,000,000
-- commands in all
pub record IsMakeable (traffic : Traffic) : Type 0 where
  pub some_connections : 1 ≤ traffic.conns
  pub few_connections : traffic.conns ≤ 4096
  pub some_commands : 1 ≤ traffic.commands
  pub few_commands : traffic.conns * traffic.commands ≤ 1000000
