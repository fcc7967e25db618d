-- The verdict on a whole text as a replies file: the outputs that it spells, or its first fault. What texts
-- are good and bad is said of whole texts in `format_laws`.
use Rattle.std.specs.Prelude.{ℕ, Bool, true, false, List, Option}
use Rattle.zy_base.specs.declared.file_fault.FileFault.{FileFault}
use Rattle.zy_read.specs.Fields.{step, format_of}
use Rattle.zy_read.specs.Format.{Format, Reading, read_on, reading_of, given_by, fault_met, verdict_on}
use Rattle.zy_read.specs.Magic.{version_in}
use Rattle.zy_capture.specs.declared.session_bytes.SessionBytes.{SessionBytes}
use Rattle.zy_capture.specs.declared.replies_state.RepliesState.{RepliesState}
use Rattle.zy_capture.specs.RepliesSteps.{RepliesPlace, replies_fields}

-- ---- a whole text

-- what a whole text is: the version and the outputs that it spells, or its first fault
pub data Verdict : Type 0 where
  Good : ℕ → List SessionBytes → Verdict
  Bad : FileFault → Verdict

-- the verdict on a text that ends at its end
abbrev pub good : RepliesState → List SessionBytes → Verdict
good s given = Good s.version given

-- the format of replies files
abbrev pub replies : Format RepliesPlace SessionBytes FileFault Verdict
replies = format_of replies_fields good Bad

-- the verdict on a whole text
abbrev pub verdict : List ℕ → Verdict
verdict text = verdict_on replies text

-- the text is a replies file
abbrev pub is_good : Verdict → Bool
is_good (Good version items) = true
is_good (Bad fault) = false

-- ---- what was met in a text, whatever follows

-- the outputs that are whole in a text, before its first fault
abbrev pub outputs_of : List ℕ → List SessionBytes
outputs_of text = given_by replies text

-- the fault that was met in a text
abbrev pub fault_of : List ℕ → Option FileFault
fault_of text = fault_met replies text

-- the version of a text's magic
unfoldable pub version_of : List ℕ → Option ℕ
version_of text = version_in (reading_of replies text).last.state.version

-- ---- for proofs

-- what is read of the rest of a text
abbrev pub read_from : RepliesPlace → List ℕ → Reading RepliesPlace SessionBytes
read_from p text = read_on (step replies_fields) p text
