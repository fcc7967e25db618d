use Rattle.window_laws.proofs.JoinLemmas.{joined_between}
use Rattle.window_laws.proofs.NumberLemmas.{joined_with}
use Rattle.window_laws.proofs.ConnectionLemmas.{capture_connections}
use Rattle.window_laws.proofs.windows.windows_are_explained_as_one.Goals as goal

pub returns : goal.returns
returns c = record {
  joined = λ r next from between to own server valid one two. joined_between r next from between to own server valid one two;
  numbers = λ r next from between to commands ended more more_ended own server valid one two.
      joined_with r next from between to commands ended more more_ended own server valid one two;
  capture = λ version r is. capture_connections version r is;
}
