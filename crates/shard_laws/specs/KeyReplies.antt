-- The replies to the calls on one key, CAS values aside.
use Rattle.std.specs.Prelude.{◌≡◌, ℕ, Bool, true, false, if◌then◌else◌, List, [], ◌∷◌, filter, ⊤}
use Rattle.mc_calls.specs.declared.call.Call.{Call}
use Rattle.mc_calls.specs.declared.call.Call.TheVariants.{Cas}
use Rattle.mc_calls.specs.declared.call_reply.CallReply.{CallReply}
use Rattle.mc_calls.specs.declared.call_reply.CallReply.TheVariants.{Hit}
use Rattle.mc_calls.specs.Shard.{State, reply_to, state_after}
pub use Rattle.mc_allows.specs.Steps.{is_same, is_own_key, is_about}

-- a call is a cas
abbrev pub is_cas : Call → Bool
is_cas (Cas flags key unique value) = true
is_cas call = false

-- none of the calls is a cas
abbrev pub AreWithoutCas : List Call → Type 0
AreWithoutCas [] = ⊤
AreWithoutCas (call ∷ calls) = (is_cas call ≡ false) × AreWithoutCas calls

-- the calls on the key, and the flushes, in the list's order
abbrev pub calls_about : List ℕ → List Call → List Call
calls_about key calls = filter (is_about key) calls

-- a reply without the CAS value that it shows
abbrev pub without_unique : CallReply → CallReply
without_unique (Hit flags unique value) = Hit flags 0 value
without_unique reply = reply

-- the replies to the calls on the key and to the flushes, CAS values aside, when all of these calls
-- are made in turn
abbrev pub replies_about : ℕ → ℕ → State → List ℕ → List Call → List CallReply
replies_about shards number state key [] = []
replies_about shards number state key (call ∷ calls) =
    let rest = replies_about shards number (state_after shards number state call) key calls in
    if is_about key call then without_unique (reply_to state call) ∷ rest else rest
