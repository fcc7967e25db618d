-- The output of a connection: the texts of all its batches.
use Rattle.std.specs.Prelude.{ℕ, List, [], ◌++◌, take}
use Rattle.std.specs.List.{concat}
use Rattle.zy_calls.specs.Batch.{Batch}

-- the connection, its texts in order, and the number of its finished commands
pub record Output : Type 0 where
  pub conn : ℕ
  pub texts : List (List ℕ)
  pub finished : ℕ

-- the output before any batch
abbrev pub nothing_sent : ℕ → Output
nothing_sent conn = record { conn = conn; texts = []; finished = 0 }

-- the output after a batch
abbrev pub with_batch : Output → Batch → Output
with_batch output batch =
    record { conn = output.conn; texts = output.texts ++ batch.texts; finished = batch.finished }

-- the bytes of the first `count` texts
abbrev pub bytes_upto : Output → ℕ → List ℕ
bytes_upto output count = concat (take count output.texts)
