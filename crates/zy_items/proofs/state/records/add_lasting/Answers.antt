use Rattle.std.proofs.Common.{◌∙◌}
use Rattle.zy_items.proofs.KeyLemmas.{added_last}
use Rattle.zy_items.proofs.state.records.add_lasting.Goals as goal

pub returns-in-Ok-clause-ok : goal.returns-in-Ok-clause-ok
returns-in-Ok-clause-ok c = c.in-Ok.ensures.keys ∙ added_last c.args.lasting.now.keys c.args.key c.requires.rises c.requires.next
