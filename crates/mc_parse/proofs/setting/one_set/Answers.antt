use Rattle.mc_parse.proofs.OneSetLemmas.{other_unnamed}
use Rattle.mc_parse.proofs.setting.one_set.Goals as goal

pub returns-in-None-clause-other : goal.returns-in-None-clause-other
returns-in-None-clause-other c = λ same. other_unnamed c.args.line.now c.args.block c.args.parsed.now c.requires.fits c.in-None.is c.requires.parsed
