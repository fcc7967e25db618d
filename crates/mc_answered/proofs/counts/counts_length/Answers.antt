use Rattle.mc_answered.proofs.CountLemmas.{one_counted, all_counted}
use Rattle.mc_answered.proofs.counts.counts_length.Goals as goal

pub loop-length-preserved : goal.loop-length-preserved
loop-length-preserved c =
    one_counted c.args.bytes.now c.text_from.result.now c.loop-length.at c.in-Some.length c.loop-length.invariant c.text_from.ensures.value c.in-Some.ensures.value.0 c.in-Some.ensures.value.1

pub returns : goal.returns
returns c =
    let so = c.loop-length.invariant in
    record { value = all_counted c.args.bytes.now c.text_from-2.result.now c.loop-length.at c.in-Some-end_length.end so c.text_from-2.ensures.value c.in-Some-end_length.ensures.value.0 c.in-Some-end_length.ensures.value.1 }
