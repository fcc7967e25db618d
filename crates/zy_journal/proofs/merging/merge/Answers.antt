use Rattle.std.proofs.Common.{subst, sym}
use Rattle.mc_calls.specs.Order.{IsMergeOf}
use Rattle.zy_journal.proofs.MergedLemmas.{merged_is}
use Rattle.zy_journal.proofs.merging.merge.Goals as goal

pub returns-clause-ok : goal.returns-clause-ok
returns-clause-ok c =
    subst (IsMergeOf c.args.histories) (sym c.apart.ensures.entries)
    (rw c.into_vec.ensures.value (merged_is c.args.histories (record { shards = rw c.into_vec.ensures.value at c.into_vec.ensures.shards; ordered = c.requires.ordered })))
