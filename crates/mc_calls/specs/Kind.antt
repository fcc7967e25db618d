-- The kinds of reply that the table of calls gives for each call, whatever the shard has.
use Rattle.std.specs.Prelude.{Bool, true, false, List, [], ◌∷◌, ⊤}
use Rattle.mc_calls.specs.declared.call.Call.{Call}
use Rattle.mc_calls.specs.declared.call_reply.CallReply.{CallReply}
use Rattle.mc_calls.specs.declared.entry.Entry.{Entry}
use Rattle.mc_calls.specs.Code.{call_row}
use Rattle.mc_calls.specs.Shard.{may_say}

-- the test holds
abbrev pub IsTrue : Bool → Type 0
IsTrue true = ⊤
IsTrue false = ⊥

-- a call may get this reply
abbrev pub MayAnswer : Call → CallReply → Type 0
MayAnswer call reply = IsTrue (may_say (call_row call).acts reply)

-- each entry's call may get its reply
abbrev pub AreAnswers : List Entry → Type 0
AreAnswers [] = ⊤
AreAnswers (e ∷ es) = MayAnswer e.call e.reply × AreAnswers es
