use Rattle.zy_check.proofs.AnsweredLemmas.{are_answered}
use Rattle.zy_check.proofs.answered.Answered.of_tracks.Goals as goal

pub returns : goal.returns
returns c = record { value = are_answered c.args.files.now c.args.tracks.items c.requires.complete c.requires.ended }
