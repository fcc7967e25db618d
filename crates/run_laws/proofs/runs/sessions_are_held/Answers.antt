use Rattle.zy_run.proofs.StreamLemmas.{streams_held, held_commands}
use Rattle.run_laws.proofs.runs.sessions_are_held.Goals as goal

pub returns : goal.returns
returns c = record { streams = streams_held; commands = held_commands }
