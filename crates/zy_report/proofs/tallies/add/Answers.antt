use Rattle.std.proofs.Common.{◌≡◌, ◌+◌, ◌<◌, ◌∙◌, ap, get_or, length, refl, sym, subst, arith}
use Rattle.std.specs.Prelude.{max}
use Rattle.std.proofs.lemmas.List.{get_or_default}
use Rattle.zy_report.specs.Tally.{CountsEntries, none_kept}
use Rattle.zy_report.proofs.TableLemmas.{on_ok}
use Rattle.zy_report.proofs.AllLemmas.{all_more}
use Rattle.zy_report.proofs.tallies.add.Goals as goal

pub returns : goal.returns
returns c =
    let tallies = c.make_up_to.new.tallies.items in
    let size = c.in_ok-make_up_to.ensures.size in
    let within : c.shard-shard.result < length tallies = omega (arith, size) in
    let here = c.index_mut.ensures.value ∙ get_or_default tallies c.shard-shard.result _ none_kept within
    ∙ ap (λ n. get_or tallies n none_kept) c.shard-shard.ensures.value in
    record {
      ok = on_ok c.add.result
          (λ adds es are. rw (c.shard-shard.ensures.value) (all_more c.args.tallies.now.items tallies es c.args.entry.now c.add.new.self (rw c.shard-shard.ensures.value at size) c.make_up_to.ensures.kept
          (λ fs own. adds fs (subst (λ kept. CountsEntries kept fs) (sym here) own)) are _ refl)) c.add.ensures.ok;
    }
