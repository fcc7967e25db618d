use Rattle.std.proofs.Common.{◌≡◌, drop}
use Rattle.zy_finish.specs.Left.{cut_from, session_texts}
use Rattle.zy_finish.specs.Part.{HasAdded}
use Rattle.zy_finish.proofs.sessions.add_parts.Given as goal

-- the outputs of the sessions before this end were added, and the others are left
abbrev pub invariant-loop-end : goal.invariant-loop-end
invariant-loop-end l = record {
  version : l.outputs.version ≡ 2;
  added : HasAdded l.fn.outputs.sessions (session_texts l.ends l.output.texts) l.end-index (cut_from l.start (drop l.end-index l.ends) l.output.texts) l.outputs.sessions;
}
