use Rattle.std.proofs.Common.{refl}
use Rattle.std.specs.Fmt.{digits}
use Rattle.zy_report.specs.Report.{report_of}
use Rattle.run_laws.proofs.reports.worked_reports.Goals as goal

pub returns-clause-none : goal.returns-clause-none
unfolding report_of digits
returns-clause-none c = refl

pub returns-clause-rows : goal.returns-clause-rows
unfolding digits
returns-clause-rows c = refl

pub returns-clause-wide : goal.returns-clause-wide
unfolding digits
returns-clause-wide c = refl
