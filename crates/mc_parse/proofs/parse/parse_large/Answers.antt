use Rattle.mc_parse.specs.Words.{words}
use Rattle.mc_parse.proofs.GetLemmas.{large_few}
use Rattle.mc_parse.proofs.parse.parse_large.Goals as goal

pub read_after-requires : goal.read_after-requires
read_after-requires c =
    record { limited = large_few c.args.line.now c.in-Some.found.name (words c.in-Some.found.rest.now) c.in-Some.ensures.some c.requires.large }
