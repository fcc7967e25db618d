use Rattle.zy_capture.proofs.RepliesFeeding.{of_output}
use Rattle.zy_capture.proofs.replies_reader.RepliesReader.feed.Goals as goal

pub returns-clause-memory : goal.returns-clause-memory
returns-clause-memory c = λ refused. rw (← c.self.view_is) (of_output c.self.inside.reader c.args.byte (c.feed.ensures.memory refused))
