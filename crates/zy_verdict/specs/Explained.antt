-- A recording that is explained: some order of all calls gives these outputs, each call at a moment between its command
-- and its answer. This is linearizability, call by call, as the recorder saw the times (Herlihy and Wing,
-- "Linearizability: a correctness condition for concurrent objects", 1990).
use Rattle.std.specs.Prelude.{◌≡◌, ℕ, ◌≤◌, Bool, true, false, List, [], take, map, All, Option, None, Some}
use Rattle.std.specs.List.{AllPairs, slice_get}
use Rattle.mc_allows.specs.declared.call_name.CallName.{CallName}
use Rattle.mc_allows.specs.declared.said.Said.TheVariants.{Failed}
use Rattle.mc_allows.specs.Allows.{may_fail_quietly}
use Rattle.mc_allows.specs.Steps.{KeyStep, IsAllowedChain}
use Rattle.mc_calls.specs.declared.item.Item.{Item}
use Rattle.mc_parse.specs.declared.command.Command.{Command}
use Rattle.mc_parse.specs.Deed.{says_of, is_unsaid}
use Rattle.zy_check.specs.Answered.{has_bytes}
use Rattle.zy_times.specs.Sessions.{IsSentIn, IsEndedIn, AllMarksFit}
use Rattle.zy_verdict.specs.Recorded.{Recorded, session_commands, output_of, last_moment, HaveSessions}
use Rattle.zy_verdict.specs.Losses.{MayLoseAt}
use Rattle.mc_answers.specs.Output.{Cut, IsCut, FitsText, text_at}
use Rattle.zy_verdict.specs.Entries.{MadeCall, named_from, of_session, said_to, placed_at, AreStepsOf}

-- ---- how outputs are cut

-- the cut of each session's output
abbrev pub OutputCuts : Type 0
OutputCuts = ℕ → ℕ → Cut

-- all outputs are cut so
abbrev pub AreCuts : Recorded → OutputCuts → Type 0
AreCuts r cuts =
    (conn session : ℕ) → IsCut (session_commands r conn session) (output_of r conn session) (cuts conn session)

-- which commands of a session are answered: at least one byte of the answer stands in the output
abbrev pub answered_by_cut : OutputCuts → ℕ → ℕ → List Bool
answered_by_cut cuts conn session = map has_bytes (cuts conn session).texts

-- ---- when a call is made

-- the command of a call is sent at a moment
abbrev pub IsCallSent : Recorded → CallName → ℕ → Type 0
IsCallSent r name moment = IsSentIn r.records name.conn name.session name.index moment

-- the command of a call is ended at a moment
abbrev pub IsCallEnded : Recorded → OutputCuts → CallName → ℕ → Type 0
IsCallEnded r cuts name moment =
    IsEndedIn r.records name.conn name.session (answered_by_cut cuts name.conn name.session) name.index moment

-- at the moment of an entry its command is sent and not ended
pub record IsTimely (r : Recorded) (cuts : OutputCuts) (e : MadeCall) : Type 0 where
  pub within : e.moment ≤ last_moment r
  pub sent : IsCallSent r e.named.name e.moment
  pub unended : IsCallEnded r cuts e.named.name e.moment → ⊥

-- the moment of an entry is not later than that of another
abbrev pub IsNotLater : MadeCall → MadeCall → Type 0
IsNotLater e later = e.moment ≤ later.moment

-- ---- what was said

-- the command of a call asks for no answer
pub record IsCallQuiet (r : Recorded) (name : CallName) : Type 0 where
  pub command : Command
  pub is : slice_get (session_commands r name.conn name.session) name.index ≡ Some command
  pub quiet : is_unsaid (says_of command) ≡ true

-- a call of a quiet command fails only if the server may forget items, or if its value is long
abbrev pub MayHaveFailed : Recorded → MadeCall → Type 0
MayHaveFailed r e = e.said ≡ Failed → IsCallQuiet r e.named.name
    → may_fail_quietly r.forget e.named.call.call ≡ true

-- ---- a key

-- the steps are the calls of these entries at a key that has this first, and losses where items may be lost; each is
-- allowed
pub record IsChain (r : Recorded) (key : List ℕ) (first : Option Item) (entries : List MadeCall) (steps : List KeyStep)
    : Type 0 where
  pub forget : Bool
  pub losses : forget ≡ true → MayLoseAt r key
  pub calls : AreStepsOf entries steps
  pub chain : IsAllowedChain forget first steps

-- ---- the whole recording

-- the calls of a session's first commands, each once and in order, reach past its last answered command
pub record AreDue (r : Recorded) (cuts : OutputCuts) (entries : List MadeCall) (conn session : ℕ) : Type 0 where
  -- how many commands make their calls
  pub made : ℕ
  pub calls : map (λ (e : MadeCall). e.named) (of_session conn session entries)
      ≡ named_from r.shards conn session 0 (take made (session_commands r conn session))
  pub reaches : (index : ℕ) → made ≤ index → text_at (cuts conn session) index ≡ []

-- these entries explain the recording, with outputs that are cut so
pub record IsExplainedBy (r : Recorded) (cuts : OutputCuts) (entries : List MadeCall) : Type 0 where
  -- each output belongs to a session, and is cut into answers
  pub sessions : HaveSessions r
  pub cut : AreCuts r cuts
  -- the marks fit
  pub fit : AllMarksFit r.records (answered_by_cut cuts)
  -- the entries of a session are the calls of its commands
  pub due : (conn session : ℕ) → AreDue r cuts entries conn session
  -- what was said to the calls of a command fits its answer
  pub answers : (conn session index : ℕ) (command : Command)
      → slice_get (session_commands r conn session) index ≡ Some command
      → FitsText (cuts conn session) index command (said_to conn session index entries)
  pub failures : All (MayHaveFailed r) entries
  -- the moments never fall, and each entry is made when its command is sent and not ended
  pub rises : AllPairs IsNotLater entries
  pub timely : All (IsTimely r cuts) entries
  -- what each key has first, which is nothing unless the server may have begun with items
  pub first : List ℕ → Option Item
  pub cold : r.warm ≡ false → (key : List ℕ) → first key ≡ None
  -- each step at each key is allowed
  pub steps : List ℕ → List KeyStep
  pub chains : (key : List ℕ) → IsChain r key (first key) (placed_at r.shards key entries) (steps key)

-- some entries explain the recording
abbrev pub IsExplained : Recorded → Type 0
IsExplained r = (cuts : OutputCuts) × ((entries : List MadeCall) × IsExplainedBy r cuts entries)
