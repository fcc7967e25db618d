-- The bytes that brought a reader of replies files to where it is, and the meaning of its answers.
use Rattle.std.specs.Prelude.{◌≡◌, ℕ, ◌<◌, List, Result, Ok, Err, ⊤}
use Rattle.zy_base.specs.declared.file_fault.FileFault.{FileFault}
use Rattle.zy_read.specs.Standing.{StandsAs}
use Rattle.zy_read.specs.Magic.{IsInMagic}
use Rattle.zy_capture.specs.declared.session_bytes.SessionBytes.{SessionBytes}
use Rattle.zy_capture.specs.declared.replies_due.RepliesDue.{RepliesDue}
use Rattle.zy_capture.specs.declared.replies_due.RepliesDue.TheVariants.{Magic, Session, Length, Output}
use Rattle.zy_read.specs.declared.shape.Shape.TheVariants.{Run}
use Rattle.zy_capture.specs.declared.replies_state.RepliesState.{RepliesState}
use Rattle.zy_capture.specs.Capture.{connection_limit}
use Rattle.zy_capture.specs.Replies.{AreNumbers, replies_limit}
use Rattle.zy_capture.specs.RepliesSteps.{RepliesPlace, shape}
use Rattle.zy_capture.specs.RepliesVerdict.{Verdict, replies, verdict}
use Rattle.zy_capture.specs.RepliesVerdict.Verdict.{Good, Bad}

-- these bytes were fed, one after another, and these outputs were given for them
abbrev pub StandsForReplies : RepliesPlace → List SessionBytes → List ℕ → Type 0
StandsForReplies p given fed = StandsAs replies p given fed

-- an answer at the end of the bytes is their verdict, and what was given are their outputs
abbrev pub EndsAs : List SessionBytes → Result ⊤ FileFault → Verdict → Type 0
EndsAs given (Ok done) found = (version : ℕ) × (found ≡ Good version given)
EndsAs given (Err fault) found = found ≡ Bad fault

-- the bytes fed are a replies file with the outputs that were given, or have this fault as they end
abbrev pub EndsBy : RepliesPlace → Result ⊤ FileFault → Type 0
EndsBy p answer =
    (given : List SessionBytes) (b : List ℕ) → StandsForReplies p given b → EndsAs given answer (verdict b)

-- the byte is one of an output
abbrev pub IsOfOutput : RepliesPlace → ℕ → Type 0
IsOfOutput p byte =
    ((conn session others : ℕ) × (p.state.due ≡ Output conn session others)) × (p.at < replies_limit)

-- ---- for the reader only

-- what is expected may be at this place: a part of the magic is at its own, and the numbers are within their bounds
abbrev pub IsInRepliesBounds : RepliesDue → ℕ → Type 0
IsInRepliesBounds (Magic part) at = IsInMagic part at
IsInRepliesBounds (Session conn) at = conn < connection_limit
IsInRepliesBounds (Length conn session) at = AreNumbers conn session
IsInRepliesBounds (Output conn session others) at = AreNumbers conn session
IsInRepliesBounds due at = ⊤

-- an output is expected, which needs memory
abbrev pub IsOutputDue : RepliesState → Type 0
IsOutputDue s = (others : ℕ) × (shape s.due ≡ Run others)
