use Rattle.zy_command_line.proofs.Ranges.{runs_are_runnable, checks_have_shards, shards_are_shards, ports_are_ports, traffic_is_makeable, self_is_fine}
use Rattle.zy_command_line.proofs.laws.requests_are_in_their_ranges.Goals as goal

pub returns : goal.returns
returns c = record {
  run = λ words run out e. runs_are_runnable words run out e;
  check = λ words shards e. checks_have_shards words shards e;
  shards = λ words shards e. shards_are_shards words shards e;
  port = λ words port e. ports_are_ports words port e;
  traffic = λ words traffic e. traffic_is_makeable words traffic e;
  self_traffic = λ words traffic run e. (self_is_fine words traffic run e).0;
  self_run = λ words traffic run e. (self_is_fine words traffic run e).1;
}
