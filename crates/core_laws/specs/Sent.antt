-- Batches of texts, one after another.
use Rattle.zy_calls.specs.Output.{Output, with_batch}
use Rattle.std.specs.Prelude.{ℕ, List, [], ◌∷◌, ◌++◌}
use Rattle.zy_calls.specs.Batch.{Batch}

-- the output after batches, one after another
abbrev pub with_batches : Output → List Batch → Output
with_batches output [] = output
with_batches output (batch ∷ batches) = with_batches (with_batch output batch) batches

-- the texts of batches, one after another
abbrev pub texts_sent : List Batch → List (List ℕ)
texts_sent [] = []
texts_sent (batch ∷ batches) = batch.texts ++ texts_sent batches
