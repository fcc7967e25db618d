-- The states of the reader of replies files in the magic and after it.
use Rattle.std.proofs.Common.{◌≡◌, ℕ, ◌<◌, ◌^◌, true, refl, arith}
use Rattle.std.specs.Prelude.{◌==◌, ◌&&◌, nat_lt, if◌then◌else◌}
use Rattle.std.proofs.lemmas.Bool.Decides.{nat_tests}
use Rattle.zy_base.specs.declared.file_fault.FileFault.TheVariants.{Form}
use Rattle.zy_read.specs.declared.magic.MagicPart.{MagicPart}
use Rattle.zy_read.specs.Magic.{ReadsMagic}
use Rattle.zy_capture.specs.declared.replies_due.RepliesDue.{RepliesDue}
use Rattle.zy_capture.specs.declared.replies_due.RepliesDue.TheVariants.{Magic, Tag}
use Rattle.zy_capture.specs.declared.replies_state.RepliesState.{RepliesState}
use Rattle.zy_capture.specs.Replies.{letters, IsNextSession}
use Rattle.zy_capture.specs.RepliesSteps.{replies_fields}

-- a state
abbrev pub in_state : RepliesDue → ℕ → ℕ → ℕ → RepliesState
in_state due version connections sessions = record { due = due; version = version; connections = connections; sessions = sessions }

-- ---- the magic

-- the state before a part of the magic
abbrev pub part_state : MagicPart → RepliesState
part_state part = in_state (Magic part) 0 0 0

-- the state after a magic
abbrev pub after_state : ℕ → RepliesState
after_state version = in_state Tag version 0 0

-- the first fields are those of the magic
pub reads_magic : ReadsMagic replies_fields letters part_state after_state Form
reads_magic = record { six = refl; start_is = refl; widths = λ part. refl; judges = λ part at byte. refl; room = omega arith }

-- ---- tests

pub due : (version connections sessions conn number : ℕ) → number < 2 ^ 31 → IsNextSession version connections sessions conn number
    → (number == (if conn == connections then 0 else sessions) && nat_lt number (2 ^ 31)) ≡ true
due version connections sessions conn number below next = grind (arith, nat_tests)
