use Rattle.window_laws.proofs.ChainLemmas.{chained_with}
use Rattle.window_laws.proofs.windows.a_chain_of_windows_is_explained.Goals as goal

pub returns : goal.returns
returns c = record {
  joined = λ r from to commands ended windows valid explained others. chained_with r from to commands ended windows valid explained others;
  some = λ r from to commands ended windows valid explained others.
      let all = chained_with r from to commands ended windows valid explained others in
      (all.cuts, (all.entries, all.explained));
}
