-- The line of what was said to one call. No public clause cites this module.
use Rattle.std.specs.Prelude.{◌≡◌, true, List, ℕ, ⊤}
use Rattle.mc_calls.specs.declared.call_reply.CallReply.{CallReply}
use Rattle.mc_calls.specs.declared.call_reply.CallReply.TheVariants.{TooLarge}
use Rattle.mc_calls.specs.Bounds.{FitsReply}
use Rattle.mc_allows.specs.declared.said.Said.{Said}
use Rattle.mc_allows.specs.declared.said.Said.TheVariants.{Replied, Failed}
use Rattle.mc_allows.specs.declared.shown.Shown.{Shown}
use Rattle.mc_allows.specs.declared.shown.Shown.TheVariants.{Reply, Failure}
use Rattle.mc_answers.specs.Answer.{IsReplyLine}
use Rattle.mc_answered.specs.Reading.{has_line}

-- a reply that is answered by a line of its own, and whose numbers fit; or that the call failed
abbrev pub HasLine : Said → Type 0
HasLine (Replied reply) = (has_line reply ≡ true) × FitsReply reply
HasLine Failed = ⊤

-- the line is that of what was said
abbrev pub IsToldBy : List ℕ → Said → Type 0
IsToldBy line said = HasLine said × IsReplyLine line said

-- what a reply shows that a line is read as; a server names a fault of its own in the same words as that a value is
-- too large
abbrev pub shown_of : CallReply → Shown
shown_of TooLarge = Failure
shown_of reply = Reply reply
