use Rattle.mc_reply.proofs.TextLemmas.{length-texts_from, texts_of-append, texts_of-more, take-texts_of}
use Rattle.mc_laws.proofs.texts.each_command_has_one_text.Goals as goal

pub returns-clause-count : goal.returns-clause-count
returns-clause-count c = length-texts_from 0

pub returns-clause-joined : goal.returns-clause-joined
returns-clause-joined c = texts_of-append

pub returns-clause-more : goal.returns-clause-more
returns-clause-more c = texts_of-more

pub returns-clause-stays : goal.returns-clause-stays
returns-clause-stays c = take-texts_of
