use Rattle.zy_capture.proofs.WholeLemmas.{spells_good}
use Rattle.zy_gen.specs.Traffic.{gen_bytes, traffic_records}
use Rattle.zy_gen.proofs.TrafficLemmas.{traffic_spells}
use Rattle.zy_gen.proofs.laws.generated_traffic_is_a_good_capture.Goals as goal

pub returns : goal.returns
returns c = record {
  spells = traffic_spells;
  good = λ number connections commands is. spells_good (gen_bytes number connections commands) 1 connections (traffic_records number connections commands) (traffic_spells number connections commands is);
}
