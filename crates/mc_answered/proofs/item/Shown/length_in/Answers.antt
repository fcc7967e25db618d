use Rattle.mc_reply.specs.Text.{item_line, line}
use Rattle.mc_answered.proofs.FoundLemmas.{found_two}
use Rattle.mc_answered.proofs.item.Shown.length_in.Goals as goal

pub returns-in-Some-value_length : goal.returns-in-Some-value_length
returns-in-Some-value_length c =
    let me = c.args.self.now in
    let both = found_two c.args.bytes.now c.in-Some.line c.in-Some-value_length.length (item_line me.asked me.key.now me.flags me.unique me.value.now) (line me.value.now) c.text_from.result.now
    c.in-Some.ensures.value.0 c.in-Some.ensures.value.1 c.text_from.ensures.value c.in-Some-value_length.ensures.value.0 c.in-Some-value_length.ensures.value.1 in
    record { value = (both.low, both.is) }
