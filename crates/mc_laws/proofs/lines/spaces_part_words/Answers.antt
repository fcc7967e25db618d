use Rattle.std.proofs.Common.{refl}
use Rattle.mc_parse.specs.Words.{words}
use Rattle.mc_parse.proofs.WordLemmas.{words-parted, words-one}
use Rattle.mc_laws.proofs.WordLemmas.{words-only}
use Rattle.mc_laws.proofs.lines.spaces_part_words.Goals as goal

pub returns-clause-empty : goal.returns-clause-empty
unfolding words
returns-clause-empty c = refl

pub returns-clause-parts : goal.returns-clause-parts
returns-clause-parts c = words-parted

pub returns-clause-one : goal.returns-clause-one
returns-clause-one c = words-one

pub returns-clause-only : goal.returns-clause-only
returns-clause-only c = words-only
