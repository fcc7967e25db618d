use Rattle.mc_parse.proofs.BoundLemmas.{line_within, block_within, large_within, calls_within}
use Rattle.mc_laws.proofs.commands.commands_are_within_their_bounds.Goals as goal

pub returns : goal.returns
returns c = record { alone = line_within; block = block_within; large = large_within; calls = calls_within }
