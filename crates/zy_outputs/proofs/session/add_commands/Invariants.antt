use Rattle.zy_outputs.proofs.SessionLemmas.{KnowsSession}
use Rattle.zy_outputs.proofs.session.add_commands.Given as goal

-- the calls of the commands before this index are added
abbrev pub invariant-loop-index : goal.invariant-loop-index
invariant-loop-index l = KnowsSession l.rules l.name l.session l.output l.texts l.all l.fn.calls l.index l.before l.calls
