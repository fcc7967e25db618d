use Rattle.zy_refute.proofs.UnmetLemmas.{unmet_here}
use Rattle.zy_refute.proofs.unmet.is_unmet.Goals as goal

pub returns : goal.returns
returns c = record {
  none = unmet_here c.is_never_met-met.result c.args.store c.args.calls.now c.args.reader c.index-calls-reader.result c.in_ok-need.need c.requires.within c.index-calls-reader.is c.if-not-call.false
      c.in_ok-need.ensures.value c.is_never_met-met.ensures.never;
}
