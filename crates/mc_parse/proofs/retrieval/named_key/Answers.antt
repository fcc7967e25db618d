use Rattle.mc_parse.specs.Words.{words}
use Rattle.mc_parse.proofs.GetLemmas.{few_by}
use Rattle.mc_parse.proofs.OneKeyLemmas.{other_name}
use Rattle.mc_parse.proofs.retrieval.named_key.Goals as goal

pub returns-in_default : goal.returns-in_default
returns-in_default c = record { some = tt; none = other_name c.args.name (words c.args.text.now) (few_by c.args.name c.in_default.not-Get) }
