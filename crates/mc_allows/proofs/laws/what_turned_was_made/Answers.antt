use Rattle.mc_allows.proofs.MakeLemmas.{turned_made}
use Rattle.mc_allows.proofs.laws.what_turned_was_made.Goals as goal

pub returns : goal.returns
returns c = record { made = turned_made }
