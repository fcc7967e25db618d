use Rattle.zy_explain.proofs.LastingLemmas.{keys_rise}
use Rattle.zy_explain.proofs.lasting.keys_rise.Goals as goal

pub returns : goal.returns
returns c = record { rises = keys_rise c.args.keys.now c.len.ensures.ordered }
