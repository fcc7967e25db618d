use Rattle.std.proofs.Common.{◌≡◌, List, [], ◌∷◌, ◌++◌, ap, sym, ◌∙◌, append_assoc}
use Rattle.std.specs.List.{concat}
use Rattle.std.proofs.lemmas.List.{append-nil}
use Rattle.zy_calls.specs.Batch.{Batch}
use Rattle.zy_calls.specs.Output.{Output, nothing_sent, with_batch}
use Rattle.core_laws.specs.Sent.{with_batches, texts_sent}
use Rattle.core_laws.proofs.outputs.texts_are_sent_in_order.Goals as goal

sent : (output : Output) (batches : List Batch) → (with_batches output batches).texts ≡ output.texts ++ texts_sent batches
sent output [] = sym (append-nil output.texts)
sent output (batch ∷ batches) = sent (with_batch output batch) batches ∙ append_assoc output.texts batch.texts (texts_sent batches)

pub returns-clause-texts : goal.returns-clause-texts
returns-clause-texts c = sent

pub returns-clause-bytes : goal.returns-clause-bytes
returns-clause-bytes c = λ conn batches. ap concat (sent (nothing_sent conn) batches)
