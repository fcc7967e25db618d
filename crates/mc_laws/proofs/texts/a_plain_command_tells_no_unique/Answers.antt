use Rattle.mc_reply.proofs.ToldLemmas.{text-told}
use Rattle.mc_laws.proofs.texts.a_plain_command_tells_no_unique.Goals as goal

pub returns : goal.returns
returns c = record { value = text-told }
