use Rattle.std.proofs.lemmas.List.{append-nil}
use Rattle.zy_journal.specs.Merged.{merged}
use Rattle.zy_journal.proofs.walk.Walk.listed.Goals as goal

pub returns : goal.returns
unfolding merged
returns c = record { value = rw c.new.ensures.value (append-nil c.args.entries.now) }
