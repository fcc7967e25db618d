use Rattle.std.proofs.Common.{sym, subst, IfSome}
use Rattle.mc_calls.specs.declared.call.Call.{Call}
use Rattle.zy_refute.specs.Unmet.{IsRest}
use Rattle.zy_refute.proofs.RestLemmas.{front_left, back_left}
use Rattle.zy_refute.proofs.rests.rest_of.Goals as goal

pub returns-in-Append : goal.returns-in-Append
returns-in-Append c = record {
  rest = subst (λ (call : Call). IfSome c.strip_suffix.result (λ rest. IsRest call c.args.value.now rest.now)) (sym c.in-Append.is)
      (front_left c.args.value.now c.in-Append.piece c.bytes.result.now c.bytes-in-Append.result.now c.strip_suffix.result c.bytes.ensures.value c.bytes-in-Append.ensures.value c.strip_suffix.ensures.cases);
}

pub returns-in-Prepend : goal.returns-in-Prepend
returns-in-Prepend c = record {
  rest = subst (λ (call : Call). IfSome c.strip_prefix.result (λ rest. IsRest call c.args.value.now rest.now)) (sym c.in-Prepend.is)
      (back_left c.args.value.now c.in-Prepend.piece c.bytes-in-Prepend.result.now c.bytes-in-Prepend-2.result.now c.strip_prefix.result c.bytes-in-Prepend.ensures.value c.bytes-in-Prepend-2.ensures.value c.strip_prefix.ensures.cases);
}
