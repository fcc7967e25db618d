use Rattle.zy_confirm.proofs.ChainLemmas.{stands_on, stands_without, nothing_stands}
use Rattle.zy_confirm.proofs.laws.an_order_has_chains.Goals as goal

pub returns : goal.returns
returns c = record {
  none = λ may_lose first store holds. nothing_stands may_lose first store holds;
  more = λ may_lose first old new entries e makes stands. stands_on may_lose first old new entries e makes stands;
  less = λ may_lose first old new entries key loses may stands. stands_without may_lose first old new entries key loses may stands;
}
