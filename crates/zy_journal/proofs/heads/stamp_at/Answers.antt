use Rattle.std.proofs.Common.{rules, ◌<◌, length}
use Rattle.zy_journal.proofs.WalkLemmas.{stamp_there}
use Rattle.zy_journal.proofs.heads.stamp_at.Goals as goal

pub returns : goal.returns
returns c =
    let inside : c.args.at < length c.args.history.now = search rules in
    record { value = stamp_there c.args.history.now c.args.at c.stamp.result inside c.stamp.ensures.value }
