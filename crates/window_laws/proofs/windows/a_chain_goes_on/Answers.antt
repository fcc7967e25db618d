use Rattle.window_laws.proofs.ChainLemmas.{more_from}
use Rattle.window_laws.proofs.windows.a_chain_goes_on.Goals as goal

pub returns : goal.returns
returns c = record {
  more = λ r from windows next chain own valid server is. more_from r from windows next chain own valid server is;
}
