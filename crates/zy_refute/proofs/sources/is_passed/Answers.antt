use Rattle.zy_refute.proofs.UnmetLemmas as Lemmas
use Rattle.zy_refute.proofs.sources.is_passed.Goals as goal

pub returns : goal.returns
returns c = record { none = Lemmas.passed_at c.is_no_maker.result c.args.store c.args.calls.now c.args.fact.now c.args.at c.args.reader c.index-calls-at.result c.args.read.now c.requires.at c.index-calls-at.is c.requires.read c.is_no_maker.ensures.none }
