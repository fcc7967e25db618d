use Rattle.std.proofs.Common.{◌∙◌, sym, ap, length, length-take-le, take_all, arith}
use Rattle.mc_allows.specs.Values as Values
use Rattle.mc_allows.proofs.SpaceLemmas.{space_goes, other_stays, none_stay}
use Rattle.mc_allows.proofs.values.unpadded.Goals.{then-loop-end-test+else-value-end-eq32, else-loop-end-test}
use Rattle.mc_allows.proofs.values.unpadded.Goals as goal

pub loop-end-init : goal.loop-end-init
loop-end-init c = (omega arith, ap Values.unpadded (take_all (length c.args.value.now) c.args.value.now (omega arith)))

pub bounds-value-end : goal.bounds-value-end
bounds-value-end c = let within = c.loop-end.invariant.0 in let some = c.loop-end-test.true in omega (arith, within, some)

pub loop-end-preserved : goal.loop-end-preserved
loop-end-preserved c =
    let within = c.loop-end.invariant.0 in
    (omega (arith, within), space_goes c.args.value.now c.loop-end.end c.loop-end-test.true within c.if-value-end-eq32.true ∙ c.loop-end.invariant.1)

pub slice_bounds-result-end : goal.slice_bounds-result-end
slice_bounds-result-end c = sym (length-take-le c.loop-end.end c.args.value.now c.loop-end.invariant.0)

pub returns : goal.returns
returns c = record {
  value = elim c.loop-end-test.branch [
    | then-loop-end-test+else-value-end-eq32 w ↦ sym (other_stays c.args.value.now c.loop-end.end w.loop-end-test.true c.loop-end.invariant.0 w.if-value-end-eq32.false) ∙ c.loop-end.invariant.1
    | else-loop-end-test w ↦ sym (none_stay c.args.value.now c.loop-end.end w.loop-end-test.false) ∙ c.loop-end.invariant.1
  ];
}
