use Rattle.std.proofs.Common.{◌≡◌, ℕ, zero, suc, ◌<◌, length, refl, arith}
use Rattle.std.specs.Fmt.{digits}
use Rattle.mc_parse.specs.Words.{words}
use Rattle.mc_parse.specs.Need.{need}
use Rattle.mc_parse.specs.Meaning.{line_command, block_command}
use Rattle.mc_parse.specs.Calls.{due, dues_of}
use Rattle.mc_reply.specs.Text.{text}
use Rattle.mc_calls.specs.Order.{of_connection}
use Rattle.zy_frame.specs.Cut.{cut_of, frames_of}
use Rattle.zy_run.specs.Commands.{commands_in}
use Rattle.zy_run.specs.Spans.{held_of}
use Rattle.run_laws.specs.WorkedRun.{worked_records, worked_entries, worked_holds}
use Rattle.run_laws.proofs.WorkedRunLemmas.{worked_is_legal}
use Rattle.run_laws.proofs.runs.the_worked_run_is_one.Goals as goal

calls : (conn : ℕ) → conn < 2 → dues_of (of_connection conn worked_entries) ≡ due 16 conn (commands_in worked_records conn)
unfolding cut_of frames_of need words line_command block_command
calls zero below = refl
calls (suc zero) below = refl
calls (suc (suc conn)) below = absurd (omega arith)

pub returns-clause-run : goal.returns-clause-run
returns-clause-run c = record { legal = worked_is_legal; connections = (omega arith, (omega arith, (omega arith, tt))); calls = calls }

pub returns-clause-outputs : goal.returns-clause-outputs
unfolding cut_of frames_of need words line_command block_command text digits
returns-clause-outputs c = refl

counts : (conn : ℕ) → conn < 2 → held_of conn worked_holds ≡ length (commands_in worked_records conn)
unfolding cut_of frames_of need words line_command block_command
counts zero below = refl
counts (suc zero) below = refl
counts (suc (suc conn)) below = absurd (omega arith)

pub returns-clause-holds : goal.returns-clause-holds
returns-clause-holds c = record { rising = (omega arith, (omega arith, (omega arith, tt))); connections = (omega arith, (omega arith, (omega arith, tt))); counts = counts }
