use Rattle.std.proofs.Common.{ℕ, ◌+◌, List, sym, subst}
use Rattle.zy_refute.specs.Shared.{AreSources}
use Rattle.zy_refute.proofs.SharingLemmas.{listed_more, passed_more}
use Rattle.zy_refute.proofs.sharing.add_source.Goals as goal

pub returns-then-branch : goal.returns-then-branch
returns-then-branch c = record {
  listed = passed_more c.args.store c.args.calls.now c.args.fact.now c.args.readers.now c.args.sources.now.items c.args.at c.requires.listed
      (c.in_ok-is_source_of_none.ensures.none c.if-branch.true);
}

pub returns : goal.returns
returns c = record {
  listed = subst (λ (l : List ℕ). AreSources c.args.store c.args.calls.now c.args.fact.now c.args.readers.now l (c.args.at + 1)) (sym c.in_ok-push.ensures.items)
      (listed_more c.args.store c.args.calls.now c.args.fact.now c.args.readers.now c.args.sources.now.items c.args.at c.requires.listed);
}
