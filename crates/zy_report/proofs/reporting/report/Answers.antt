use Rattle.std.proofs.Common.{rules, ◌≡◌, ◌∙◌, subst}
use Rattle.std.specs.Prelude.{IfOk}
use Rattle.zy_report.specs.Report.{report_of, table}
use Rattle.zy_report.proofs.reporting.report.Goals as goal

pub returns : goal.returns
unfolding report_of
returns c =
    let same : c.as_slice.result.now ≡ c.in_ok-counts.counts.items = search rules in
    record { value = subst (λ l. IfOk c.table-text.result (λ text. text ≡ table l)) (same ∙ c.in_ok-counts.ensures.value) c.table-text.ensures.value }
