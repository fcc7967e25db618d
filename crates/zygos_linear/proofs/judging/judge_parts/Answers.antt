use Rattle.std.proofs.Common.{subst}
use Rattle.zy_check.specs.declared.answered.Checked.{Checked}
use Rattle.zy_check.specs.declared.answered.Checked.TheVariants as Found
use Rattle.zy_check.specs.Given.{all_given}
use Rattle.zy_check.specs.Checked.{IsCheckedAs}
use Rattle.zygos_linear.specs.Finding.{recording_of}
use Rattle.zygos_linear.proofs.FoundLemmas.{recorded_run, found_run}
use Rattle.zygos_linear.proofs.judging.judge_parts.Goals as goal

pub judge-timing-requires : goal.judge-timing-requires
judge-timing-requires c =
    let parts = c.args.parts.now in
    let of = c.requires.records in
    let checked : IsCheckedAs (all_given c.args.shards parts.capture.streams parts.journal parts.outputs) (Found.Yes c.in-Yes.answered) =
    subst (λ (x : Checked). IsCheckedAs (all_given c.args.shards parts.capture.streams parts.journal parts.outputs) x) c.in-Yes.is c.in_ok-cause.ensures.checked in
    record {
      recorded = (recording_of of.1 parts.journal.entries, of.0, recorded_run c.args.shards of.0 parts.capture.streams of.1 parts.journal parts.outputs parts.capture.notes of.2 c.in-Yes.answered checked);
    }

pub returns-in_ok-timing-in-Yes : goal.returns-in_ok-timing-in-Yes
returns-in_ok-timing-in-Yes c = record {
  found = λ count records of.
      let parts = c.args.parts.now in
      let checked : IsCheckedAs (all_given c.args.shards parts.capture.streams parts.journal parts.outputs) (Found.Yes c.in-Yes.answered) =
      subst (λ (x : Checked). IsCheckedAs (all_given c.args.shards parts.capture.streams parts.journal parts.outputs) x) c.in-Yes.is c.in_ok-cause.ensures.checked in
      found_run c.args.shards count parts.capture.streams records parts.journal parts.outputs parts.capture.notes of c.in-Yes.answered checked c.in_ok-timing-in-Yes.field-0 c.in_ok-timing-in-Yes.ensures.timing;
}
