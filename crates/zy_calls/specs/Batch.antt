-- The texts that one hold sends.
use Rattle.std.specs.Prelude.{ℕ, List, [], ◌∷◌, ◌++◌}

-- the texts to send, in order, and the number of finished commands of the connection
pub record Batch : Type 0 where
  pub texts : List (List ℕ)
  pub finished : ℕ

-- a batch without a text
abbrev pub no_text : ℕ → Batch
no_text finished = record { texts = []; finished = finished }

-- the batch with one more text
abbrev pub with_text : Batch → List ℕ → Batch
with_text batch text = record { texts = batch.texts ++ text ∷ []; finished = batch.finished }

-- the batch with another number of finished commands
abbrev pub with_finished : Batch → ℕ → Batch
with_finished batch finished = record { texts = batch.texts; finished = finished }
