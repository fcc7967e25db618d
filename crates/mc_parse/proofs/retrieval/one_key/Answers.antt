use Rattle.mc_parse.proofs.OneKeyLemmas.{unnamed_other}
use Rattle.mc_parse.proofs.retrieval.one_key.Goals as goal

pub returns-in-None-clause-none : goal.returns-in-None-clause-none
returns-in-None-clause-none c = unnamed_other c.args.line.now c.args.parsed.now c.in-None.is c.requires.alone c.requires.parsed
