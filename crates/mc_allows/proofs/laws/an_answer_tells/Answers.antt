use Rattle.mc_allows.proofs.NeedLemmas.{shown_needs}
use Rattle.mc_allows.proofs.LeftLemmas.{shown_leaves}
use Rattle.mc_allows.proofs.laws.an_answer_tells.Goals as goal

pub returns : goal.returns
returns c = record { needs = shown_needs; leaves = shown_leaves }
