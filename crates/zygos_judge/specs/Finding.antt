-- What is found of a recording: that some order explains it, that none does, or neither.
use Rattle.std.specs.Prelude.{◌≡◌, ℕ, ◌+◌, Bool, true, false, List, ◌++◌, length, ⊤}
use Rattle.mc_allows.specs.declared.call_name.CallName.{CallName}
use Rattle.mc_parse.specs.declared.command.Command.{Command}
use Rattle.zy_capture.specs.Outputs.{AllOutputs, AreOutputs}
use Rattle.zy_explain.specs.declared.rules.Rules.{Rules}
use Rattle.zy_explain.specs.Judged.{judged, judged_after}
use Rattle.zy_input.specs.Recording.{IsMadeOfRecording}
use Rattle.zy_input.specs.Window.{IsMadeOfWindow}
use Rattle.zy_items.specs.Items.{items_bytes}
use Rattle.zy_items.specs.Standing.{Standing, IsStanding, nothing_standing}
use Rattle.zy_outputs.specs.Observing.{IsRefutedByOutput, IsSurplus, IsEarlyEnd}
use Rattle.zy_times.specs.InTime.{total_below}
use Rattle.zy_verdict.specs.Recorded.{Recorded, session_commands}
use Rattle.zy_verdict.specs.Between.{IsExplainedBetweenWith}
use Rattle.zy_verdict.specs.Entries.{NamedCall, is_at_key}
use Rattle.zy_verdict.specs.Explained.{IsExplained}
use Rattle.zy_verdict.specs.Course.{IsCallOf, HasCourse}
use Rattle.zy_verdict.specs.Numbers.{IsExplainedWith}
use Rattle.zygos_judge.specs.declared.finding.Finding.{Finding}
use Rattle.zygos_judge.specs.declared.finding.Finding.TheVariants.{Explained, Refuted, Unknown}
use Rattle.zygos_judge.specs.declared.finding.Reason.{Reason}
use Rattle.zygos_judge.specs.declared.finding.Reason.TheVariants.{Kind, Surplus, EarlyEnd, Unmet, Shared}

-- ---- what is judged

-- the bytes are a capture and a replies file, one after the other, and `Holds` holds of their recording, by a server that
-- may have been so
pub record OfRecording (rules : Rules) (bytes : List ℕ) (Holds : Recorded → Type 0) : Type 0 where
  pub streams : List (List (List ℕ))
  pub outputs : AllOutputs
  pub made : IsMadeOfRecording bytes streams outputs
  pub lawful : AreOutputs outputs
  pub holds : Holds (judged rules made.of_capture.count made.of_capture.records outputs.sessions)

-- the bytes are a capture, an items file and a replies file, one after the other, and `Holds` holds of their recording,
-- by a server that may have been so, and of what the server had at first
pub record OfWindow (rules : Rules) (bytes : List ℕ) (Holds : Recorded → Standing → Type 0) : Type 0 where
  pub streams : List (List (List ℕ))
  pub outputs : AllOutputs
  pub from : Standing
  pub made : IsMadeOfWindow bytes streams from outputs
  pub lawful : AreOutputs outputs
  pub valid : IsStanding from
  pub holds : Holds
      (judged_after from.lasting rules made.of_capture.count made.of_capture.records outputs.sessions) from

-- `Holds` holds of the recording in the bytes and of what its server had at first: what an items file says if there is
-- one, and otherwise nothing
abbrev pub OfRequested : Bool → Rules → List ℕ → (Recorded → Standing → Type 0) → Type 0
OfRequested true rules bytes Holds = OfWindow rules bytes Holds
OfRequested false rules bytes Holds = OfRecording rules bytes (λ r. Holds r nothing_standing)

-- ---- calls

-- how many commands the sessions of a connection before this one have
abbrev pub commands_before : Recorded → ℕ → ℕ → ℕ
commands_before r conn session = total_below (λ s. length (session_commands r conn s)) session

-- the number of a call's command in its connection, over all sessions
abbrev pub number_of_command : Recorded → CallName → ℕ
number_of_command r name = commands_before r name.conn name.session + name.index

-- a call of the recording has this name, and a key of it has no course
pub record IsRefutedCall (r : Recorded) (name : CallName) : Type 0 where
  pub named : NamedCall
  pub named_is : named.name ≡ name
  pub command : Command
  pub is : IsCallOf r command named
  pub key : List ℕ
  pub about : is_at_key r.shards key named.call ≡ true
  pub none : HasCourse r key → ⊥

-- the same of a call that is this part of the command with this number of a connection
pub record IsWithoutCourse (r : Recorded) (conn command part : ℕ) : Type 0 where
  pub name : CallName
  pub conn_is : name.conn ≡ conn
  pub command_is : number_of_command r name ≡ command
  pub part_is : name.part ≡ part
  pub call : IsRefutedCall r name

-- ---- commands

-- the output of its session refutes the command with this number of a connection: no answers of the commands before it,
-- whatever the replies, are followed by an answer of the command or by the beginning of one
pub record IsRefutedCommand (r : Recorded) (conn command : ℕ) : Type 0 where
  pub session : ℕ
  pub index : ℕ
  pub command_is : commands_before r conn session + index ≡ command
  pub refuted : IsRefutedByOutput r conn session index

-- ---- findings

-- what each reason says besides
abbrev pub HasReason : Recorded → Reason → Type 0
HasReason r (Kind conn command) = IsRefutedCommand r conn command
HasReason r (Surplus conn session) = IsSurplus r conn session
HasReason r (EarlyEnd mark) = IsEarlyEnd r mark
HasReason r (Unmet conn command part) = IsWithoutCourse r conn command part
HasReason r (Shared conn command part) = IsWithoutCourse r conn command part

-- the definition of each finding
abbrev pub HasFinding : Recorded → Finding → Type 0
HasFinding r (Explained commands ended) = IsExplainedWith r commands ended
HasFinding r (Refuted reason) = (IsExplained r → ⊥) × HasReason r reason
HasFinding r (Unknown why) = ⊤

-- ---- windows

-- a line, and what the server has at last after it, if that is asked for
abbrev pub text_with : Bool → List ℕ → Standing → List ℕ
text_with true line to = line ++ items_bytes to
text_with false line to = line

-- the recording is explained from what its server had at first to what it has at last; `Writes` holds of the line, and of
-- that if it is asked for
pub record IsLed (asked : Bool) (Writes : List ℕ → Type 0) (line : List ℕ) (r : Recorded) (from : Standing)
    (commands ended : ℕ) : Type 0 where
  pub to : Standing
  pub valid : IsStanding to
  pub explained : IsExplainedBetweenWith r from to commands ended
  pub written : Writes (text_with asked line to)
