-- The numbers that all runs of commands that are apart have in common.
use Rattle.std.specs.Prelude.{ℕ, List, length}
use Rattle.std.specs.List.{range_with_len, sum_by}
use Rattle.mc_calls.specs.declared.entry.Entry.{Entry}
use Rattle.mc_parse.specs.declared.command.Command.{Command}
use Rattle.zy_run.specs.Output.{all_outputs}
use Rattle.zy_run.specs.Apart.{commands_of_all}
use Rattle.zy_run.specs.declared.summary.Summary.{Summary}
use Rattle.zy_run.specs.Serial.{serial}

-- the number of commands of the first `count` connections
abbrev pub count_of_commands : ℕ → (ℕ → List Command) → ℕ
count_of_commands count commands = sum_by (λ conn. length (commands conn)) (range_with_len 0 count)

-- the number of bytes in the outputs of all sessions of all connections
abbrev pub count_of_bytes : List (List (List ℕ)) → ℕ
count_of_bytes outputs = sum_by (λ sessions. sum_by length sessions) outputs

-- the summary of a run: its commands, its entries, and the bytes of its outputs
abbrev pub summary_of_run : ℕ → (ℕ → List (List ℕ)) → List Entry → Summary
summary_of_run count streams es = record {
  commands = count_of_commands count (commands_of_all streams);
  calls = length es;
  reply_bytes = count_of_bytes (all_outputs count streams es);
}

-- the summary of the serial run on `shards` shards
abbrev pub summary : ℕ → ℕ → (ℕ → List (List ℕ)) → Summary
summary shards count streams = summary_of_run count streams (serial shards count (commands_of_all streams))
