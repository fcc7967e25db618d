-- The answers of a try of a call, and their causes. Each cause is a fact about the steps of this
-- very try.
use Rattle.std.specs.Prelude.{◌≡◌, ◌≢◌, ◌⊎◌, ℕ, ◌%◌, ◌<◌, ◌≤◌, ⊤, List, [], ◌∷◌, ◌++◌, Result, Ok, Err}
use Rattle.mc_calls.specs.declared.entry.Entry.{Entry}
use Rattle.mc_calls.specs.declared.entry.Tag.{Tag}
use Rattle.mc_calls.specs.declared.call.Call.{Call}
use Rattle.mc_calls.specs.declared.call.Call.TheVariants.{Get}
use Rattle.mc_calls.specs.declared.call_reply.CallReply.{CallReply}
use Rattle.mc_calls.specs.Kind.{MayAnswer}
use Rattle.mc_shard.specs.Shard.{entry_of}
use Rattle.mc_store.specs.declared.fetched.Fetched.{Fetched}
use Rattle.mc_store.specs.declared.fetched.Fetched.TheVariants as Fetches
use Rattle.mc_store.specs.declared.got.Got.{Got}
use Rattle.mc_store.specs.declared.got.Got.TheVariants.{Reply, Busy}
use Rattle.mc_store.specs.declared.tried.Tried.{Tried}
use Rattle.mc_store.specs.declared.tried.Tried.TheVariants.{Made, Busy as Taken}
use Rattle.mc_store.specs.declared.store.view.Trace.{Trace}

-- ---- the answers

-- a fact about the entry, if the call was made
abbrev pub IfReply : {E : Type 0} → Result Got E → (Entry → Type 0) → Type 0
IfReply (Ok (Reply entry)) holds = holds entry
IfReply (Ok (Busy shard loaded found)) holds = ⊤
IfReply (Err e) holds = ⊤

-- a fact about the shard, the word loaded and the word found, if another pass had the shard
abbrev pub IfBusy : {E : Type 0} → Result Got E → (ℕ → ℕ → ℕ → Type 0) → Type 0
IfBusy (Ok (Reply entry)) holds = ⊤
IfBusy (Ok (Busy shard loaded found)) holds = holds shard loaded found
IfBusy (Err e) holds = ⊤

-- a fact about the reply and the stamp, if a call that was given by value was made
abbrev pub IfMade : {E : Type 0} → Result Tried E → (CallReply → ℕ → Type 0) → Type 0
IfMade (Ok (Made reply stamp)) holds = holds reply stamp
IfMade (Ok (Taken call shard loaded found)) holds = ⊤
IfMade (Err e) holds = ⊤

-- a fact about the call that is handed back, the shard, the word loaded and the word found, if another pass had
-- the shard
abbrev pub IfTaken : {E : Type 0} → Result Tried E → (Call → ℕ → ℕ → ℕ → Type 0) → Type 0
IfTaken (Ok (Made reply stamp)) holds = ⊤
IfTaken (Ok (Taken call shard loaded found)) holds = holds call shard loaded found
IfTaken (Err e) holds = ⊤

-- a fact about the stamp, if a get was made
abbrev pub IfFetched : {E : Type 0} → Result Fetched E → (ℕ → Type 0) → Type 0
IfFetched (Ok (Fetches.Made stamp)) holds = holds stamp
IfFetched (Ok (Fetches.Busy shard loaded found)) holds = ⊤
IfFetched (Err e) holds = ⊤

-- a fact about the shard, the word loaded and the word found, if another pass had the shard of a get
abbrev pub IfUnfetched : {E : Type 0} → Result Fetched E → (ℕ → ℕ → ℕ → Type 0) → Type 0
IfUnfetched (Ok (Fetches.Made stamp)) holds = ⊤
IfUnfetched (Ok (Fetches.Busy shard loaded found)) holds = holds shard loaded found
IfUnfetched (Err e) holds = ⊤

-- a get of the key was made on the shard: one reply is appended to the replies, of a kind that a get may have, and the
-- entry with it and the stamp to the calls
pub record HasFetched (tag : Tag) (shard : ℕ) (key : List ℕ) (replies replies' : List CallReply)
    (calls calls' : List Entry) (stamp : ℕ) : Type 0 where
  pub reply : CallReply
  pub kind : MayAnswer (Get key) reply
  pub replied : replies' ≡ replies ++ reply ∷ []
  pub entered : calls' ≡ calls ++ entry_of tag shard (Get key) reply stamp ∷ []

-- the entry is that of this call on this shard
pub record IsOfCall (tag : Tag) (shard : ℕ) (call : Call) (entry : Entry) : Type 0 where
  pub tag_is : entry.tag ≡ tag
  pub shard_is : entry.shard ≡ shard
  pub call_is : entry.call ≡ call

-- ---- their causes

-- after the earlier steps, this number was loaded from the word of this shard
pub record Loaded (shard loaded : ℕ) (before after : Trace) : Type 0 where
  pub word : after.load.word ≡ shard
  pub value : after.load.value ≡ loaded
  pub later : before.steps < after.load.step
  pub made : after.load.step ≤ after.steps

-- after the load, the exchange at the word of this shard found this number
pub record Exchanged (shard found : ℕ) (after : Trace) : Type 0 where
  pub word : after.exchange.word ≡ shard
  pub value : after.exchange.value ≡ found
  pub later : after.load.step < after.exchange.step
  pub made : after.exchange.step ≤ after.steps

-- the shard was free: an even word was loaded, and the exchange found it there
abbrev pub WasFree : ℕ → Trace → Trace → Type 0
WasFree shard before after = (word : ℕ) × (word % 2 ≡ 0) × Loaded shard word before after × Exchanged shard word after

-- the word that was loaded was odd, or the exchange found another word
abbrev pub WasTaken : ℕ → ℕ → ℕ → Trace → Type 0
WasTaken shard loaded found after =
    ((loaded % 2 ≡ 1) × (found ≡ loaded)) ⊎ ((loaded % 2 ≡ 0) × (found ≢ loaded) × Exchanged shard found after)

-- the requested shard was busy in this try, as these words show
pub record WasBusy (asked : ℕ) (before after : Trace) (shard loaded found : ℕ) : Type 0 where
  pub shard_is : shard ≡ asked
  pub loaded_is : Loaded asked loaded before after
  pub cause : WasTaken asked loaded found after
