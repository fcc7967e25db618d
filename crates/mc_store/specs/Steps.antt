-- What a seat learns from each step on the table.
-- No public clause cites this module.
use Rattle.std.specs.Prelude.{◌≡◌, ◌≢◌, ℕ, ◌+◌, ◌*◌, ◌^◌, ◌<◌, ⊤, List, [], ◌∷◌, ◌++◌, length, drop, Some, None}
use Rattle.atomic_table.specs.Table.{Me, Step, rest}
use Rattle.mc_calls.specs.declared.entry.Entry.{Entry}
use Rattle.mc_calls.specs.declared.entry.Tag.{Tag}
use Rattle.mc_calls.specs.declared.call.Call.TheVariants.{Get}
use Rattle.mc_calls.specs.declared.call_reply.CallReply.{CallReply}
use Rattle.mc_calls.specs.Kind.{MayAnswer}
use Rattle.mc_calls.specs.Order.{last_stamp}
use Rattle.mc_shard.specs.Shard.{Kept, kept, state_of, entry_of}
use Rattle.mc_store.specs.declared.store.taking.Taking.{Taking}
use Rattle.mc_store.specs.declared.store.taking.Taking.TheVariants.{Free, Held}
use Rattle.mc_store.specs.declared.store.view.Trace.{Trace}
use Rattle.mc_store.specs.declared.store.view.View.{View}
use Rattle.mc_store.specs.declared.store.view.View.TheVariants.{Spent, Root, Pass}
use Rattle.mc_store.specs.View.{sight, untraced, mine_of, trace_of, passing}

-- a view, and the slots that its seat has taken
abbrev pub Seated : Type 0
Seated = Me Kept View

-- the calls that a seat knows
abbrev pub mine_at : Seated → List Entry
mine_at me = mine_of me.0

-- the steps that it made
abbrev pub trace_at : Seated → Trace
trace_at me = trace_of me.0

-- the seat is that of a pass of this connection, which has taken no shard
abbrev pub IsIdle : ℕ → Seated → Type 0
IsIdle conn me = me ≡ (passing conn (mine_at me) (trace_at me), [])

-- ---- traces

-- the trace after a load
abbrev pub loads : ℕ → ℕ → Trace → Trace
loads word found t = record { steps = t.steps + 1; load = sight word found (t.steps + 1); exchange = t.exchange }

-- the trace after an exchange
abbrev pub exchanges : ℕ → ℕ → Trace → Trace
exchanges word found t = record { steps = t.steps + 1; load = t.load; exchange = sight word found (t.steps + 1) }

-- the trace after a store
abbrev pub stores : Trace → Trace
stores t = record { steps = t.steps + 1; load = t.load; exchange = t.exchange }

-- the view with another trace
abbrev pub traced : (Trace → Trace) → View → View
traced f (Pass conn mine taken trace) = Pass conn mine taken (f trace)
traced f (Root given joined) = Root given joined
traced f Spent = Spent

-- ---- a load, and an exchange

-- a load is noted in the trace
abbrev pub has_looked : Step Kept → Seated → ℕ → Seated → Type 0
has_looked step before found after = after ≡ (traced (loads step.word found) before.0, before.1)

-- the pass has taken a shard with this history
abbrev pub holding : ℕ → List Entry → View → View
holding shard history (Pass conn mine taken trace) = Pass conn mine (Some (shard, history)) trace
holding shard history (Root given joined) = Root given joined
holding shard history Spent = Spent

-- one more call can be made on a shard, by a pass with these calls
pub record IsReady (shard : Kept) (mine : List Entry) : Type 0 where
  pub short : length shard.history < 2 ^ 52
  pub last : last_stamp 0 shard.history < 2 ^ 60
  pub count : (state_of shard).count < 2 ^ 52
  pub mine_last : last_stamp 0 mine < 2 ^ 60

-- an exchange that found the even word has taken the shard, with the history that the word counts
abbrev pub HasWon : Step Kept → Seated → ℕ → Seated → Type 0
HasWon step before found after =
    (history : List Entry)
    × (step.first ≡ 2 * length history)
    × (after ≡ (
      holding step.word history (traced (exchanges step.word found) before.0),
      (step.word, kept step.word step.slots history) ∷ before.1,
    ))
    × IsReady (kept step.word step.slots history) (mine_of before.0)

-- an exchange took the shard, or it is noted in the trace
abbrev pub has_tried : Step Kept → Seated → ℕ → Seated → Type 0
has_tried step before found after =
    (found ≡ step.first → HasWon step before found after)
    × (found ≢ step.first → after ≡ (traced (exchanges step.word found) before.0, before.1))

-- the pass of a connection has taken a shard of a store with `shards` shards; the even word counts
-- the shard's calls
abbrev pub HasTaken : ℕ → ℕ → ℕ → ℕ → Seated → Type 0
HasTaken conn shard shards even me =
    (history : List Entry)
    × (even ≡ 2 * length history)
    × (me ≡ (Pass conn (mine_at me) (Some (shard, history)) (trace_at me), (shard, kept shard shards history) ∷ []))
    × IsReady (kept shard shards history) (mine_at me)

-- a fact about the even word, if a shard was taken
abbrev pub IfFree : Taking → (ℕ → Type 0) → Type 0
IfFree (Free even) holds = holds even
IfFree (Held loaded found) holds = ⊤

-- a fact about the word loaded and the word found, if another pass had the shard
abbrev pub IfHeld : Taking → (ℕ → ℕ → Type 0) → Type 0
IfHeld (Free even) holds = ⊤
IfHeld (Held loaded found) holds = holds loaded found

-- ---- the store that gives a shard back

-- the calls that the shard has had since it was taken are appended to those of the pass
abbrev pub settled : View → List (ℕ × Kept) → View
settled (Pass conn mine (Some x) trace) (y ∷ ys) = Pass conn (mine ++ drop (length x.1) y.1.history) None (stores trace)
settled (Pass conn mine (Some x) trace) [] = Pass conn mine (Some x) trace
settled (Pass conn mine None trace) ys = Pass conn mine None trace
settled (Root given joined) ys = Root given joined
settled Spent ys = Spent

-- the shard that was taken last goes back into its slot
abbrev pub has_put_back : Seated → Seated → Type 0
has_put_back before after = after ≡ (settled before.0 before.1, rest before.1)

-- the pass has made its call, which is now its last
abbrev pub HasMade : ℕ → Seated → Seated → Entry → Type 0
HasMade conn before after entry = after ≡ (passing conn (mine_at before ++ entry ∷ []) (stores (trace_at before)), [])

-- the pass has given the shard back, and has made no call
abbrev pub HasGivenUp : ℕ → Seated → Seated → Type 0
HasGivenUp conn before after = after ≡ (passing conn (mine_at before) (stores (trace_at before)), [])

-- the pass has made a get, whose entry is now its last and whose reply is appended to the replies
pub record HasMadeGet (tag : Tag) (shard : ℕ) (key : List ℕ) (before after : Seated) (replies replies' : List CallReply)
    (stamp : ℕ) : Type 0 where
  pub reply : CallReply
  pub kind : MayAnswer (Get key) reply
  pub replied : replies' ≡ replies ++ reply ∷ []
  pub made : HasMade tag.conn before after (entry_of tag shard (Get key) reply stamp)

-- ---- passes

-- the root with the calls of a pass that was joined
abbrev pub taken_in : View → View → View
taken_in (Root given joined) (Pass conn mine taken trace) = Root given ((conn, mine) ∷ joined)
taken_in (Root given joined) (Root given' joined') = Root given joined
taken_in (Root given joined) Spent = Root given joined
taken_in (Pass conn mine taken trace) other = Pass conn mine taken trace
taken_in Spent other = Spent

-- the root with a connection whose pass was given
abbrev pub gave : ℕ → View → View
gave conn (Root given joined) = Root (conn ∷ given) joined
gave conn (Pass other mine taken trace) = Pass other mine taken trace
gave conn Spent = Spent

-- the view of that new pass, which has no calls
abbrev pub newcomer : ℕ → View → View
newcomer conn view = passing conn [] untraced
