use Rattle.zy_outputs.proofs.AddingLemmas.{AddsTo}
use Rattle.zy_outputs.proofs.adding.add_parts.Given as goal

-- the calls before this part are added
abbrev pub invariant-loop-part : goal.invariant-loop-part
invariant-loop-part l = AddsTo l.rules l.name l.command l.fn.parts.items l.seen l.fn.calls l.part l.parts.items l.calls
