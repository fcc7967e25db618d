-- The calls of a command that are added to a list. No public clause cites this module.
use Rattle.std.specs.Prelude.{◌≡◌, ◌⊎◌, ℕ, ◌≤◌, true, List, [], ◌∷◌, ◌++◌, map, All, Option, Some}
use Rattle.std.specs.List.{slice_get}
use Rattle.mc_allows.specs.declared.call_name.CallName.{CallName}
use Rattle.mc_allows.specs.declared.said.Said.{Said}
use Rattle.mc_allows.specs.declared.shown.Shown.{Shown}
use Rattle.mc_answers.specs.Answer.{IsAnswer}
use Rattle.mc_answers.specs.Output.{FitsText}
use Rattle.mc_answers.specs.Said.{said_calls}
use Rattle.mc_parse.specs.declared.command.Command.{Command}
use Rattle.mc_parse.specs.declared.shard_call.ShardCall.{ShardCall}
use Rattle.mc_shown.specs.declared.part.Part.{Part}
use Rattle.mc_shown.specs.Parts.{AreSuited}
use Rattle.zy_refute.specs.declared.observed.Observed.{Observed}
use Rattle.zy_verdict.specs.Recorded.{Recorded, session_commands}
use Rattle.zy_verdict.specs.Entries.{NamedCall, named_parts}
use Rattle.zy_verdict.specs.Explained.{OutputCuts, AreCuts, IsCallSent, IsCallEnded}
use Rattle.zy_verdict.specs.Course.{IsSure}
use Rattle.zy_observed.specs.Shown.{IsShown, named_of}
use Rattle.zy_outputs.specs.declared.rules.Rules.{Rules}
use Rattle.zy_outputs.specs.declared.seen.Seen.{Seen}

-- ---- one call

-- a call of this name, with what is shown and seen of it
abbrev pub observed_by : CallName → ShardCall → Shown → Option ℕ → Seen → Observed
observed_by name call shown unique seen =
    record {
      name = name;
      shard = call.shard;
      call = call.call;
      shown = shown;
      unique = unique;
      sure = seen.sure;
      sent = seen.sent;
      ended = seen.ended;
    }

-- it is added to a list
pub record IsOneSeen (name : CallName) (call : ShardCall) (shown : Shown) (seen : Seen) (old new : List Observed)
    : Type 0 where
  pub unique : Option ℕ
  pub is : new ≡ old ++ observed_by name call shown unique seen ∷ []

-- ---- the calls of a command

-- the recording is of such a server
pub record Obeys (rules : Rules) (r : Recorded) : Type 0 where
  pub shards : r.shards ≡ rules.shards
  pub forget : r.forget ≡ rules.forget

-- the name is that of a command of the recording, and this is what its times show
pub record IsSeen (r : Recorded) (name : CallName) (command : Command) (seen : Seen) : Type 0 where
  pub is : slice_get (session_commands r name.conn name.session) name.index ≡ Some command
  pub sure : seen.sure ≡ true → (cuts : OutputCuts) → AreCuts r cuts → IsSure r cuts name
  pub sent : (moment : ℕ) → IsCallSent r name moment → seen.sent ≤ moment
  pub ended : (moment : ℕ) → seen.ended ≡ Some moment → (cuts : OutputCuts) → AreCuts r cuts
      → IsCallEnded r cuts name moment

-- what fits the bytes of the command has this property
abbrev pub EachFits : Recorded → CallName → Command → (List Said → Type 0) → Type 0
EachFits r name command IsSuch = (cuts : OutputCuts) → AreCuts r cuts → (saids : List Said)
    → FitsText (cuts name.conn name.session) name.index command saids → IsSuch saids

-- these calls are added to a list, and this is shown of them
pub record AddsShown (r : Recorded) (old new : List Observed) (named : List NamedCall) : Type 0 where
  pub more : List Observed
  pub is : new ≡ old ++ more
  pub names : map named_of more ≡ named
  pub each : All (IsShown r) more

-- the calls of the command are added, if what fits its bytes suits these parts
abbrev pub AddsParts : Rules → CallName → Command → List Part → Seen → List Observed → List Observed → Type 0
AddsParts rules name command parts seen old new = (r : Recorded) → Obeys rules r → IsSeen r name command seen
    → EachFits r name command (AreSuited parts)
    → AddsShown r old new (named_parts name.conn name.session name.index 0 (said_calls r.shards command))

-- the calls of the command are added, if these are its bytes
abbrev pub AddsCalls : Rules → CallName → Command → List ℕ → Seen → List Observed → List Observed → Type 0
AddsCalls rules name command text seen old new = (r : Recorded) → Obeys rules r → IsSeen r name command seen
    → EachFits r name command (λ saids. (text ≡ []) ⊎ IsAnswer command saids text)
    → AddsShown r old new (named_parts name.conn name.session name.index 0 (said_calls r.shards command))
