-- The proof of the law `generated_traffic_is_apart`.
use Rattle.zy_gen.proofs.ApartLemmas.{traffic_apart}
use Rattle.run_laws.proofs.traffic.generated_traffic_is_apart.Goals as goal

pub returns : goal.returns
returns c = record { value = traffic_apart }
