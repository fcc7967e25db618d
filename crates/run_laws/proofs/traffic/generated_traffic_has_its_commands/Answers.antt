-- The proof of the law `generated_traffic_has_its_commands`.
use Rattle.run_laws.proofs.TrafficLemmas.{length-commands, traffic_count}
use Rattle.run_laws.proofs.traffic.generated_traffic_has_its_commands.Goals as goal

pub returns : goal.returns
returns c = record { each = length-commands; all = traffic_count }
