-- Laws of the table of calls.
use Rattle.std.specs.Prelude.{◌≡◌, ◌≢◌, ℕ, ◌≤◌, List, length}
use Rattle.mc_calls.specs.declared.call.Call.{Call}
use Rattle.mc_calls.specs.declared.call.Call.TheVariants.{Get, Add, Replace, Cas, Flush}
use Rattle.mc_calls.specs.declared.call_reply.CallReply.TheVariants.{Stored, Miss}
use Rattle.mc_calls.specs.declared.entry.Entry.{Entry}
use Rattle.mc_calls.specs.Counted.{calls_with}
use Rattle.mc_calls.specs.Shard.{State, empty_state, reply_to, state_after, with_calls}
use Rattle.mc_calls.specs.History.{IsLegal, replayed}
use Rattle.shard_laws.specs.Uniques.{uniques_at, AreRising, IsIn}
use Rattle.shard_laws.specs.KeyReplies.{AreWithoutCas, calls_about, replies_about}

-- ---- uniques

-- in a legal list the CAS values that are given on one shard rise strictly, and are above its number
abbrev pub UniquesRise : Type 0
UniquesRise = (shards number : ℕ) (es : List Entry) → IsLegal shards es → AreRising number (uniques_at shards number es)

-- in a legal list no CAS value is given on two shards
abbrev pub UniquesDiffer : Type 0
UniquesDiffer =
    (shards a b unique : ℕ) (es : List Entry) → IsLegal shards es
    → IsIn (uniques_at shards a es) unique → IsIn (uniques_at shards b es) unique → a ≡ b

-- ---- one call

-- a call whose reply is not `Stored` is counted, and changes nothing else
abbrev pub KeepsUnlessStored : Call → Type 0
KeepsUnlessStored call =
    (shards number : ℕ) (state : State) → reply_to state call ≢ Stored
    → state_after shards number state call ≡ with_calls state (calls_with state.calls call (reply_to state call))

-- a cas that does not store is counted, and changes nothing else
abbrev pub FailedCasKeeps : Type 0
FailedCasKeeps = (key : List ℕ) (flags unique : ℕ) (value : List ℕ) → KeepsUnlessStored (Cas flags key unique value)

-- an add that does not store is counted, and changes nothing else
abbrev pub FailedAddKeeps : Type 0
FailedAddKeeps = (key : List ℕ) (flags : ℕ) (value : List ℕ) → KeepsUnlessStored (Add key flags value)

-- a replace that does not store is counted, and changes nothing else
abbrev pub FailedReplaceKeeps : Type 0
FailedReplaceKeeps = (key : List ℕ) (flags : ℕ) (value : List ℕ) → KeepsUnlessStored (Replace key flags value)

-- after a flush every key misses
abbrev pub FlushedMisses : Type 0
FlushedMisses = (shards number : ℕ) (state : State) (key : List ℕ)
    → reply_to (state_after shards number state Flush) (Get key) ≡ Miss

-- a flush leaves the counter
abbrev pub FlushKeepsCount : Type 0
FlushKeepsCount = (shards number : ℕ) (state : State) → (state_after shards number state Flush).count ≡ state.count

-- ---- lists of calls

-- two lists without a cas that have the same calls on a key, and the same flushes between them, have the same replies
-- to these, CAS values aside, whatever the other calls and the shard's numbers are
abbrev pub KeyStandsAlone : Type 0
KeyStandsAlone =
    (shards number shards' number' : ℕ) (key : List ℕ) (calls calls' : List Call) → AreWithoutCas calls
    → AreWithoutCas calls'
    → calls_about key calls ≡ calls_about key calls'
    → replies_about shards number empty_state key calls ≡ replies_about shards' number' empty_state key calls'

-- a shard's counter is at most the number of its calls
abbrev pub CountsCalls : Type 0
CountsCalls = (shards number : ℕ) (es : List Entry) → (replayed shards number empty_state es).count ≤ length es
