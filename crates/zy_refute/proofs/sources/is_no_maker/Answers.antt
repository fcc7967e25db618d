use Rattle.zy_refute.proofs.UnmetLemmas as Lemmas
use Rattle.zy_refute.proofs.sources.is_no_maker.Goals as goal

pub returns : goal.returns
returns c = record { none = Lemmas.no_maker c.is_no_source.result c.args.store c.args.calls.now c.args.fact.now c.args.at c.args.reader c.args.call.now c.args.read.now c.is_no_source.ensures.none }
