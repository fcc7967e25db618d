-- What may be said to the calls of a command.
use Rattle.std.specs.Prelude.{◌≡◌, ℕ, true, List, [], ◌∷◌, map, ⊤}
use Rattle.mc_calls.specs.declared.call.Call.{Call}
use Rattle.mc_calls.specs.declared.call.Call.TheVariants.{Get, Flush}
use Rattle.mc_calls.specs.declared.call_reply.CallReply.{CallReply}
use Rattle.mc_calls.specs.declared.call_reply.CallReply.TheVariants.{Flushed}
use Rattle.mc_calls.specs.Bounds.{IsReply, FitsReply}
use Rattle.mc_calls.specs.Kind.{MayAnswer}
use Rattle.mc_parse.specs.declared.command.Command.{Command}
use Rattle.mc_parse.specs.declared.command.Command.TheVariants.{Stats}
use Rattle.mc_parse.specs.declared.shard_call.ShardCall.{ShardCall}
use Rattle.mc_parse.specs.Calls.{calls_of}
use Rattle.mc_parse.specs.OnAll.{made_by}
use Rattle.mc_parse.specs.Deed.{Deed, does_nothing, makes_one, gets_each, makes_on_all, deed_of}
use Rattle.mc_allows.specs.Allows.{may_fail}
use Rattle.mc_allows.specs.declared.said.Said.{Said}
use Rattle.mc_allows.specs.declared.said.Said.TheVariants.{Replied, Failed}

-- ---- one call

-- what may be said to a call: a reply of a kind that it may get, within its bounds; or that it failed
abbrev pub MaySay : Call → Said → Type 0
MaySay call (Replied reply) = MayAnswer call reply × IsReply reply × FitsReply reply
MaySay call Failed = may_fail call ≡ true

-- ---- the calls of a command

-- the calls of a command to which something is said: those of `stats` do not count
abbrev pub said_calls : ℕ → Command → List ShardCall
said_calls shards Stats = []
said_calls shards command = calls_of shards command

-- the one thing that was said has this property
abbrev pub IsOne : (Said → Type 0) → List Said → Type 0
IsOne IsSuch (said ∷ []) = IsSuch said
IsOne IsSuch saids = ⊥

-- what may be said to the gets of keys
abbrev pub AreGot : List (List ℕ) → List Said → Type 0
AreGot [] [] = ⊤
AreGot (key ∷ keys) (said ∷ saids) = MaySay (Get key) said × AreGot keys saids
AreGot keys saids = ⊥

-- what is said to a flush of any number of shards
abbrev pub AreFlushed : List Said → Type 0
AreFlushed [] = ⊤
AreFlushed (said ∷ saids) = (said ≡ Replied Flushed) × AreFlushed saids

-- what may be said to a call without a key, on each shard: a flush has a reply from each, and a tally does not count
abbrev pub AreOnAll : Call → List Said → Type 0
AreOnAll Flush saids = AreFlushed saids
AreOnAll call saids = saids ≡ []

-- what may be said to the calls of a deed
abbrev pub AreSaid : Deed → List Said → Type 0
AreSaid does_nothing saids = saids ≡ []
AreSaid (makes_one call) saids = IsOne (MaySay call) saids
AreSaid (gets_each keys) saids = AreGot keys saids
AreSaid (makes_on_all made) saids = AreOnAll (made_by made) saids

-- what may be said to the calls of a command
abbrev pub FitsCommand : Command → List Said → Type 0
FitsCommand command saids = AreSaid (deed_of command) saids

-- replies, as what was said
abbrev pub all_replied : List CallReply → List Said
all_replied replies = map Replied replies
