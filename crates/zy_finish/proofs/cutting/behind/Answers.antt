use Rattle.std.proofs.Common.{◌≤◌, length, rules}
use Rattle.zy_finish.proofs.CutLemmas.{behind_within, behind_is, behind_parts}
use Rattle.zy_finish.proofs.cutting.behind.Goals as goal

pub slice_bounds-result-count : goal.slice_bounds-result-count
slice_bounds-result-count c =
    behind_within _ _ _ (behind_parts c.args.start c.args.output.now.texts _ _ c.bytes.ensures.value c.first-skipped.ensures.value)

pub slice_bounds-result-start : goal.slice_bounds-result-start
slice_bounds-result-start c =
    let within : length c.first-skipped.result.now ≤ length c.bytes.result.now = behind_within _ _ _ (behind_parts c.args.start c.args.output.now.texts _ _ c.bytes.ensures.value c.first-skipped.ensures.value) in
    search rules

pub returns : goal.returns
returns c = record {
  value = behind_is _ _ _ (behind_parts c.args.start c.args.output.now.texts _ _ c.bytes.ensures.value c.first-skipped.ensures.value);
}
