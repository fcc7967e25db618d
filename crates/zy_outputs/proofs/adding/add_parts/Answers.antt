use Rattle.std.proofs.Common.{Bool, sym, ◌∙◌, subst}
use Rattle.zy_outputs.specs.Showing.{MaySuit}
use Rattle.zy_outputs.proofs.AddingLemmas.{adds_one}
use Rattle.zy_outputs.proofs.adding.add_parts.Goals as goal

pub loop-part-preserved : goal.loop-part-preserved
loop-part-preserved c =
    adds_one c.args.rules c.args.name c.args.command.now c.args.parts.now.items c.args.seen c.args.calls.now c.loop-part.part c.loop-part.parts.items c.loop-part.calls c.requires.counts c.loop-part.invariant
    c.in-Some.call c.take_part-shown.result.shown c.take_part-shown.new.parts.items c.add_call.new.calls (sym c.in-Some.is ∙ c.in_ok-call.ensures.value) c.take_part-shown.ensures.kept
    (subst (λ (quiet : Bool). MaySuit c.loop-part.parts.items c.loop-part.part quiet c.args.rules.forget c.in-Some.call.call c.take_part-shown.result.shown) c.is_quiet-quiet.ensures.value c.take_part-shown.ensures.suits)
    c.in_ok-add_call.ensures.added
