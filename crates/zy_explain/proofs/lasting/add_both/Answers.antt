use Rattle.zy_explain.proofs.LastingLemmas.{union_by}
use Rattle.zy_explain.proofs.lasting.add_both.Goals as goal

pub returns : goal.returns
returns c = record {
  union = union_by c.args.all.now c.add_all.new.all c.add_all-2.new.all c.args.one.now c.args.other.now c.requires.empty c.in_ok-add_all.ensures.added c.add_all-2.result c.add_all-2.ensures.added;
}
