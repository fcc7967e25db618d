-- One call that was made as an order says. No public clause cites this module.
use Rattle.std.specs.Prelude.{◌≡◌, ◌⊎◌, ℕ, ◌+◌, ◌<◌, ◌≤◌, nat_lt, Bool, true, ◌||◌, List, [], ◌∷◌, ◌++◌, length, take}
use Rattle.std.specs.Prelude.{Some}
use Rattle.std.specs.List.{slice_get}
use Rattle.std.specs.Ordering.{nat_cmp}
use Rattle.std.specs.Cmp.Lexicographic.{slice_cmp}
use Rattle.std.specs.BTreeSet.{BTreeSet, contains}
use Rattle.mc_allows.specs.declared.call_name.CallName.{CallName}
use Rattle.mc_allows.specs.declared.said.Said.{Said}
use Rattle.mc_allows.specs.declared.said.Said.TheVariants.{Failed}
use Rattle.mc_allows.specs.Allows.{may_fail_quietly}
use Rattle.mc_answers.specs.Said.{said_calls}
use Rattle.mc_calls.specs.Call.{key_of}
use Rattle.mc_parse.specs.declared.command.Command.{Command}
use Rattle.mc_parse.specs.declared.shard_call.ShardCall.{ShardCall}
use Rattle.mc_parse.specs.Deed.{says_of, is_unsaid}
use Rattle.zy_capture.specs.declared.record.Record.{Record}
use Rattle.zy_times.specs.First.{AreRises}
use Rattle.zy_times.specs.Sessions.{marks_at, IsEndedIn}
use Rattle.zy_times.specs.Times.{trues, number_if}
use Rattle.zy_confirm.specs.declared.store.Store.{Store}
use Rattle.zy_confirm.specs.Store.{IsOnItsShard, MakesCall, LosesItem}
use Rattle.zy_sessions.specs.declared.session.Session.{Session}
use Rattle.zy_explain.specs.declared.track.Track.{Track}

-- ---- the store

-- the call is on the shard of its key, or on one of the shards if it has none
pub record IsOnShards (shards : ℕ) (call : ShardCall) : Type 0 where
  pub own : IsOnItsShard shards (key_of call.call) call.shard
  pub within : call.shard < shards

-- the item of a key may be lost: each may be, or the key is one of these
abbrev pub may_lose_in : Bool → BTreeSet (List ℕ) → List ℕ → Bool
may_lose_in forget lasting key = forget || contains (slice_cmp nat_cmp) lasting key

-- an item that may be lost was lost
pub record LosesSome (may_lose : List ℕ → Bool) (before after : Store) : Type 0 where
  pub key : List ℕ
  pub may : may_lose key ≡ true
  pub loses : LosesItem before after key

-- nothing was lost, or one item that may be lost
abbrev pub MayHaveLost : (List ℕ → Bool) → Store → Store → Type 0
MayHaveLost may_lose before after = (after ≡ before) ⊎ LosesSome may_lose before after

-- a call was made, perhaps after a loss
pub record CarriesOut (may_lose : List ℕ → Bool) (before after : Store) (call : ShardCall) (said : Said) : Type 0 where
  pub middle : Store
  pub lost : MayHaveLost may_lose before middle
  pub makes : MakesCall middle after call said

-- a call of a command that gets no answer failed only if it may
abbrev pub FailsLawfully : Bool → Command → ShardCall → Said → Type 0
FailsLawfully forget command call said = said ≡ Failed → is_unsaid (says_of command) ≡ true
    → may_fail_quietly forget call.call ≡ true

-- ---- moments

-- at a moment not before another one the command with this index is sent, and not ended after this number of answered
-- commands
pub record IsMoment (s : Session) (index count latest moment : ℕ) : Type 0 where
  pub later : latest ≤ moment
  pub first : ℕ
  pub is : slice_get s.sent.items index ≡ Some first
  pub sent : first ≤ moment
  pub least : (moment ≡ latest) ⊎ (moment ≡ first)
  pub unended : (records : List Record) (conn session at : ℕ) (answered : List Bool)
      → AreRises (marks_at records conn session) (length records) s.marks.items → trues (take at answered) ≡ count
      → moment ≤ length records → IsEndedIn records conn session answered at moment → ⊥

-- ---- a track

-- it was noted that the next command is done, and that its text has this length
pub record NotesText (old new : Track) (n : ℕ) : Type 0 where
  pub at : new.at ≡ old.at + n
  pub answered : new.answered.items ≡ old.answered.items ++ nat_lt 0 n ∷ []
  pub count : new.count ≡ old.count + number_if (nat_lt 0 n)
  pub saids : new.saids.items ≡ []

-- what was said to one more call was noted
pub record NotesSaid (old new : Track) (said : Said) : Type 0 where
  pub at : new.at ≡ old.at
  pub answered : new.answered ≡ old.answered
  pub count : new.count ≡ old.count
  pub saids : new.saids.items ≡ old.saids.items ++ said ∷ []

-- the next call of a session, which has this name, was made on the store at a moment
pub record MakesNext (shards : ℕ) (forget : Bool) (may_lose : List ℕ → Bool) (s : Session) (before after : Store)
    (old new : Track) (name : CallName) (latest moment : ℕ) : Type 0 where
  pub command : Command
  pub call : ShardCall
  pub said : Said
  pub is : slice_get s.commands.items (length old.answered.items) ≡ Some command
  pub part : slice_get (said_calls shards command) (length old.saids.items) ≡ Some call
  pub index_is : name.index ≡ length old.answered.items
  pub part_is : name.part ≡ length old.saids.items
  pub carried : CarriesOut may_lose before after call said
  pub timely : IsMoment s (length old.answered.items) old.count latest moment
  pub lawful : FailsLawfully forget command call said
  pub noted : NotesSaid old new said
