use Rattle.std.specs.Prelude.{codes}
use Rattle.mc_reply.specs.Text.{line}
use Rattle.mc_answered.specs.With.{said_items}
use Rattle.mc_answered.proofs.FoundLemmas.{found_two, listed, same_count}
use Rattle.mc_answered.proofs.listing.length_in_order.Goals as goal

pub items_length-requires : goal.items_length-requires
items_length-requires c = record { same = same_count c.args.keys.now c.args.saids.now c.requires.got }

pub returns : goal.returns
returns c =
    let items = said_items c.args.asked c.args.keys.now c.args.saids.now in
    let both = found_two c.args.bytes.now c.in-Some.at c.in-Some-end_length.end items (line (codes "END")) c.text_from.result.now c.in-Some.ensures.value.0 c.in-Some.ensures.value.1 c.text_from.ensures.value
    c.in-Some-end_length.ensures.value.0 c.in-Some-end_length.ensures.value.1 in
    record { value = (both.low, listed c.args.asked c.args.keys.now c.args.saids.now c.args.bytes.now _ both) }
