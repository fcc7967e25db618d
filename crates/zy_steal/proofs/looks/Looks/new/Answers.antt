use Rattle.zy_steal.proofs.LookLemmas.{blank_at}
use Rattle.zy_steal.proofs.looks.Looks.new.Goals as goal

pub returns : goal.returns
returns c = record { value = λ core. blank_at 64 core }
