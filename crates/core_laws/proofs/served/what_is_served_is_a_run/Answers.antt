use Rattle.zy_finish.proofs.ServedLemmas.{own_calls, is_run, holds_span, sent_is_outputs}
use Rattle.core_laws.proofs.served.what_is_served_is_a_run.Goals as goal

pub returns : goal.returns
returns c = record {
  run = is_run;
  order = λ shards count records left joined es are. are.merged.ordered;
  calls = λ shards count conn records left joined es are. own_calls shards count records left joined es are conn;
  holds = holds_span;
  outputs = sent_is_outputs;
}
