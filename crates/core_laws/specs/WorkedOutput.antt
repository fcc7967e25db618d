-- An example output.
use Rattle.std.specs.Prelude.{ℕ, List, [], ◌∷◌, codes}
use Rattle.zy_calls.specs.Batch.{Batch}
use Rattle.zy_calls.specs.Output.{Output, nothing_sent}
use Rattle.core_laws.specs.Sent.{with_batches}

-- a batch of these texts, after which this number of commands is finished
abbrev pub batch_of : List (List ℕ) → ℕ → Batch
batch_of texts finished = record { texts = texts; finished = finished }

-- the texts that three holds sent to connection 7: none, then two, of which one is empty, and then
-- three
abbrev pub worked : Output
worked = with_batches (nothing_sent 7)
    (batch_of [] 0 ∷ batch_of (codes "STORED\r\n" ∷ [] ∷ []) 2
    ∷ batch_of (codes "END\r\n" ∷ codes "OK\r\n" ∷ [] ∷ []) 5 ∷ [])
