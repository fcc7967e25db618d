use Rattle.mc_parse.proofs.StoringLemmas.{split_parts}
use Rattle.mc_parse.proofs.word.next_word.Goals as goal

pub returns-clause-parts : goal.returns-clause-parts
returns-clause-parts c =
    split_parts c.args.text.now _ _ c.count_spaces-spaces.result c.word_length.result c.split_at.ensures.front c.split_at.ensures.back
