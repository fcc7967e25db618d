use Rattle.mc_laws.proofs.SameCallLemmas.{gets_same, sets_same, exchanges_are_same, deletes_same}
use Rattle.mc_laws.proofs.lines.meta_lines_ask_for_the_same_calls.Goals as goal

pub returns : goal.returns
returns c = record { get = gets_same; set = sets_same; cas = exchanges_are_same; delete = deletes_same }
