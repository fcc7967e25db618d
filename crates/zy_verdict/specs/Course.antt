-- What any order of the calls at one key must be.
use Rattle.std.specs.Prelude.{◌≡◌, ◌⊎◌, ℕ, ◌<◌, ◌≤◌, true, false, List, [], map, All, Option, None, Some}
use Rattle.std.specs.List.{AllPairs, Contains, slice_get}
use Rattle.mc_allows.specs.declared.call_name.CallName.{CallName}
use Rattle.mc_allows.specs.declared.said.Said.{Said}
use Rattle.mc_allows.specs.Steps.{KeyStep}
use Rattle.mc_answers.specs.Said.{said_calls}
use Rattle.mc_calls.specs.declared.item.Item.{Item}
use Rattle.mc_parse.specs.declared.command.Command.{Command}
use Rattle.zy_verdict.specs.Recorded.{Recorded, session_commands, last_moment}
use Rattle.mc_answers.specs.Output.{FitsText, text_at}
use Rattle.zy_verdict.specs.Entries.{NamedCall, MadeCall, is_at_key}
use Rattle.zy_verdict.specs.Explained.{OutputCuts, AreCuts, IsCallSent, IsCallEnded, IsTimely, IsNotLater}
use Rattle.zy_verdict.specs.Explained.{MayHaveFailed, IsChain}

-- ---- calls

-- the call belongs to this command of its session
pub record IsCallOf (r : Recorded) (command : Command) (named : NamedCall) : Type 0 where
  pub is : slice_get (session_commands r named.name.conn named.name.session) named.name.index ≡ Some command
  pub part : slice_get (said_calls r.shards command) named.name.part ≡ Some named.call

-- a command of a call's session, not before that of the call, is answered
pub record IsBeforeAnswer (cuts : OutputCuts) (name : CallName) : Type 0 where
  pub index : ℕ
  pub from : name.index ≤ index
  pub answered : text_at (cuts name.conn name.session) index ≡ [] → ⊥

-- the call occurs in every order: its command is ended at the last moment, or is answered or before an answered one
abbrev pub IsSure : Recorded → OutputCuts → CallName → Type 0
IsSure r cuts name = IsCallEnded r cuts name (last_moment r) ⊎ IsBeforeAnswer cuts name

-- ---- order

-- two names are of one session
pub record AreOfOneSession (one other : CallName) : Type 0 where
  pub conn : one.conn ≡ other.conn
  pub session : one.session ≡ other.session

-- a call comes before another in its session: its command is earlier, or it is an earlier part of the same
abbrev pub IsEarlier : CallName → CallName → Type 0
IsEarlier one other =
    (one.index < other.index) ⊎ ((one.index ≡ other.index) × (one.part < other.part))

-- entries of one session are in the order of their calls
abbrev pub KeepsCallOrder : MadeCall → MadeCall → Type 0
KeepsCallOrder e later = AreOfOneSession e.named.name later.named.name → IsEarlier e.named.name later.named.name

-- a call had ended at a moment at which another was not sent
pub record EndsBefore (r : Recorded) (cuts : OutputCuts) (one other : CallName) : Type 0 where
  pub moment : ℕ
  pub ended : IsCallEnded r cuts one moment
  pub unsent : IsCallSent r other moment → ⊥

-- a call comes first in every course with both
abbrev pub IsSurelyBefore : Recorded → OutputCuts → CallName → CallName → Type 0
IsSurelyBefore r cuts one other =
    EndsBefore r cuts one other ⊎ (AreOfOneSession one other × IsEarlier one other)

-- ---- courses

-- an entry is a call at the key, and what was said to it is part of an answer that fits its command's bytes
pub record IsCallAt (r : Recorded) (cuts : OutputCuts) (key : List ℕ) (e : MadeCall) : Type 0 where
  pub command : Command
  pub belongs : IsCallOf r command e.named
  pub about : is_at_key r.shards key e.named.call ≡ true
  pub said : List Said
  pub part : slice_get said e.named.name.part ≡ Some e.said
  pub fits : FitsText (cuts e.named.name.conn e.named.name.session) e.named.name.index command said

-- these entries and steps are a course of the key, which has this first
pub record IsCourseBy (r : Recorded) (cuts : OutputCuts) (key : List ℕ) (first : Option Item) (entries : List MadeCall)
    (steps : List KeyStep) : Type 0 where
  -- each entry is a call at the key
  pub calls : All (IsCallAt r cuts key) entries
  pub failures : All (MayHaveFailed r) entries
  -- each sure call at the key occurs
  pub sure : (command : Command) (named : NamedCall) → IsCallOf r command named
      → is_at_key r.shards key named.call ≡ true → IsSure r cuts named.name
      → Contains (map (λ (e : MadeCall). e.named) entries) named
  -- the calls of a session are in order, so that none occurs twice
  pub order : AllPairs KeepsCallOrder entries
  -- the moments never fall, and each call is made when its command is sent and not ended
  pub rises : AllPairs IsNotLater entries
  pub timely : All (IsTimely r cuts) entries
  -- each step is allowed
  pub chain : IsChain r key first entries steps

-- the key has a course from this item or none on, if the outputs are cut so
pub record IsCourse (r : Recorded) (cuts : OutputCuts) (key : List ℕ) (first : Option Item) : Type 0 where
  pub entries : List MadeCall
  pub steps : List KeyStep
  pub course : IsCourseBy r cuts key first entries steps

-- the key has a course, from nothing on unless the server may have begun with items
pub record HasCourse (r : Recorded) (key : List ℕ) : Type 0 where
  pub cuts : OutputCuts
  pub cut : AreCuts r cuts
  pub first : Option Item
  pub cold : r.warm ≡ false → first ≡ None
  pub course : IsCourse r cuts key first
