use Rattle.std.proofs.Common.{rules, ◌≤◌, length, sym, ◌∙◌, ap}
use Rattle.std.specs.List.{sum_by}
use Rattle.std.proofs.lemmas.List.{take_all}
use Rattle.zy_journal.proofs.MergedLemmas.{length-merged}
use Rattle.zy_journal.proofs.journal.count_of.Goals as goal

pub returns : goal.returns
returns c =
    let hs = c.args.histories.now in
    let end : length hs ≤ c.loop-history.history-index = search rules in
    record { value = c.loop-history.invariant ∙ ap (λ l. sum_by length l) (take_all c.loop-history.history-index hs end) ∙ sym (length-merged hs) }
