use Rattle.mc_allows.proofs.BesideLemmas as Lemmas
use Rattle.mc_allows.proofs.laws.facts_of_an_item_agree.Goals as goal

pub returns : goal.returns
returns c = record { beside = Lemmas.beside }
