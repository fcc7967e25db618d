-- The proof of the law `runs_of_generated_traffic_have_the_same_outputs`.
use Rattle.zy_run.specs.Commands.{streams_in}
use Rattle.zy_gen.specs.Traffic.{traffic_records}
use Rattle.zy_run.proofs.RunLemmas.{all_outputs-same}
use Rattle.zy_gen.proofs.ApartLemmas.{traffic_apart}
use Rattle.run_laws.proofs.traffic.runs_of_generated_traffic_have_the_same_outputs.Goals as goal

pub returns : goal.returns
returns c = record {
  same = λ number connections commands shards others es fs is run other.
      all_outputs-same shards others connections (streams_in (traffic_records number connections commands)) es fs (traffic_apart number connections commands is) run other;
}
