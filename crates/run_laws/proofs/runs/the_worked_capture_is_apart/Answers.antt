-- The proof of the law `the_worked_capture_is_apart`.
use Rattle.std.proofs.Common.{◌≡◌, sym, refl, ◌∙◌, arith}
use Rattle.std.specs.Fmt.{digits}
use Rattle.mc_parse.specs.Words.{words}
use Rattle.mc_parse.specs.Need.{need}
use Rattle.mc_parse.specs.Meaning.{line_command, block_command}
use Rattle.mc_reply.specs.Text.{text}
use Rattle.zy_frame.specs.Cut.{cut_of, frames_of}
use Rattle.zy_run.specs.Commands.{streams_in}
use Rattle.zy_run.specs.Summary.{summary_of_run}
use Rattle.run_laws.specs.WorkedApart.{apart_records, apart_entries, apart_summary}
use Rattle.zy_run.proofs.SummaryLemmas.{summary-run}
use Rattle.run_laws.proofs.WorkedApartLemmas.{worked_run, worked_apart}
use Rattle.run_laws.proofs.runs.the_worked_capture_is_apart.Goals as goal

pub returns-clause-apart : goal.returns-clause-apart
returns-clause-apart c = worked_apart

pub returns-clause-run : goal.returns-clause-run
returns-clause-run c = worked_run

counted : summary_of_run 2 (streams_in apart_records) apart_entries ≡ apart_summary
unfolding cut_of frames_of need words line_command block_command text digits
counted = refl

pub returns-clause-summary : goal.returns-clause-summary
returns-clause-summary c = sym (summary-run 16 16 2 (streams_in apart_records) apart_entries (omega arith) worked_apart worked_run) ∙ counted
