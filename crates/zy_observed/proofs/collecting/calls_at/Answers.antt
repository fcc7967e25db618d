use Rattle.std.specs.List.Sorted.{IsPermutation}
use Rattle.std.proofs.Common.{List, subst}
use Rattle.std.proofs.lemmas.Result.{IfOk-weaker}
use Rattle.zy_refute.specs.declared.observed.Observed.{Observed}
use Rattle.zy_observed.specs.AtKey.{AreCallsAt}
use Rattle.zy_observed.proofs.KeyLemmas.{sorted_at}
use Rattle.zy_observed.proofs.collecting.calls_at.Goals as goal

pub returns : goal.returns
returns c = record {
  value = IfOk-weaker c.in_order.result (λ own. IsPermutation c.in_ok-own.own.items own.items) (λ own. AreCallsAt c.args.shards c.args.key.now c.args.calls.now own.items)
      (λ own moved. sorted_at c.args.shards c.args.key.now c.args.calls.now own.items (subst (λ (l : List Observed). IsPermutation l own.items) c.in_ok-own.ensures.value moved)) c.in_order.ensures.order;
}
