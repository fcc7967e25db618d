-- The proof of the law `each_run_of_generated_traffic_has_the_summary`.
use Rattle.zy_run.specs.Commands.{streams_in}
use Rattle.zy_gen.specs.Traffic.{traffic_records}
use Rattle.zy_run.proofs.SummaryLemmas.{summary-run}
use Rattle.zy_gen.proofs.ApartLemmas.{traffic_apart}
use Rattle.zy_gen.proofs.laws.each_run_of_generated_traffic_has_the_summary.Goals as goal

pub returns : goal.returns
returns c = record {
  value = λ number connections commands shards others es some is run.
      summary-run shards others connections (streams_in (traffic_records number connections commands)) es some (traffic_apart number connections commands is) run;
}
