-- What a recording shows of its calls.
use Rattle.std.specs.Prelude.{◌≡◌, ℕ, ◌≤◌, true, List, map, All, Some}
use Rattle.std.specs.List.{AllPairs, Contains, slice_get}
use Rattle.mc_allows.specs.declared.said.Said.{Said}
use Rattle.mc_allows.specs.declared.said.Said.TheVariants.{Failed}
use Rattle.mc_allows.specs.Allows.{may_fail_quietly}
use Rattle.mc_allows.specs.Needs.{Suits}
use Rattle.mc_answers.specs.Output.{FitsText}
use Rattle.mc_parse.specs.declared.command.Command.{Command}
use Rattle.mc_parse.specs.declared.shard_call.ShardCall.{ShardCall}
use Rattle.zy_refute.specs.declared.observed.Observed.{Observed}
pub use Rattle.zy_refute.specs.Shared.{HaveOtherNames}
use Rattle.zy_verdict.specs.Recorded.{Recorded}
use Rattle.zy_verdict.specs.Entries.{NamedCall}
use Rattle.zy_verdict.specs.Explained.{OutputCuts, AreCuts, IsCallSent, IsCallEnded, IsCallQuiet}
use Rattle.zy_verdict.specs.Course.{IsCallOf, IsSure}

-- ---- one call

-- a call on its shard
abbrev pub call_on_shard : Observed → ShardCall
call_on_shard x = record { shard = x.shard; call = x.call }

-- a call on its shard, with its name
abbrev pub named_of : Observed → NamedCall
named_of x = record { name = x.name; call = call_on_shard x }

-- the call belongs to a command of its session
pub record BelongsToCommand (r : Recorded) (x : Observed) : Type 0 where
  pub command : Command
  pub is : IsCallOf r command (named_of x)

-- this may have been said to a call: it is part of what fits the bytes of the call's command, and a quiet call that
-- failed is one that may fail
pub record MayBeSaid (r : Recorded) (cuts : OutputCuts) (x : Observed) (said : Said) : Type 0 where
  pub command : Command
  pub belongs : IsCallOf r command (named_of x)
  pub saids : List Said
  pub part : slice_get saids x.name.part ≡ Some said
  pub fits : FitsText (cuts x.name.conn x.name.session) x.name.index command saids
  pub failure : said ≡ Failed → IsCallQuiet r x.name → may_fail_quietly r.forget x.call ≡ true

-- the recording shows this of a call, however its outputs are cut
pub record IsShown (r : Recorded) (x : Observed) : Type 0 where
  -- it is a call of a command
  pub belongs : BelongsToCommand r x
  -- a sure one occurs in every order
  pub sure : x.sure ≡ true → (cuts : OutputCuts) → AreCuts r cuts → IsSure r cuts x.name
  -- its command is not sent before this moment
  pub sent : (moment : ℕ) → IsCallSent r x.name moment → x.sent ≤ moment
  -- its command is ended at this moment
  pub ended : (moment : ℕ) → x.ended ≡ Some moment → (cuts : OutputCuts) → AreCuts r cuts
      → IsCallEnded r cuts x.name moment
  -- whatever may have been said to it suits what is shown
  pub shown : (cuts : OutputCuts) → AreCuts r cuts → (said : Said) → MayBeSaid r cuts x said → Suits x.shown said

-- ---- all calls

-- these are the calls of a recording, with what it shows of them
pub record AreShown (r : Recorded) (calls : List Observed) : Type 0 where
  -- each is a call, and this is shown of it
  pub each : All (IsShown r) calls
  -- each call of a command is among them
  pub all : (command : Command) (named : NamedCall) → IsCallOf r command named → Contains (map named_of calls) named
  -- no call is there twice
  pub once : AllPairs HaveOtherNames calls
