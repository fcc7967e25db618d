use Rattle.zy_confirm.proofs.StoreLemmas.{loses_by}
use Rattle.zy_confirm.proofs.store.Store.lose.Goals as goal

pub returns : goal.returns
returns c = record {
  lost = loses_by c.args.self.now c.remove.new.self c.note_loss.new.self c.args.key.now c.remove.ensures.changed c.note_loss.result c.note_loss.ensures.noted;
}
