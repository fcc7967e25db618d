use Rattle.mc_allows.proofs.StepLemmas.{legal_leads}
use Rattle.mc_allows.proofs.laws.a_legal_list_leads.Goals as goal

pub returns : goal.returns
returns c = record { leads = legal_leads }
