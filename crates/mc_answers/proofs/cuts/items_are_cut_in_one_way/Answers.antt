use Rattle.mc_answers.proofs.ItemLemmas.{item_cut, end_cut, item_is_no_end}
use Rattle.mc_answers.proofs.MarkLemmas.{value_cut}
use Rattle.mc_answers.proofs.cuts.items_are_cut_in_one_way.Goals as goal

pub returns : goal.returns
returns c = record { item = item_cut; «end» = end_cut; apart = item_is_no_end; value = value_cut }
