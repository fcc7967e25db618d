use Rattle.zy_refute.proofs.SharedLemmas.{none_shared}
use Rattle.zy_refute.proofs.sharing.are_fewer.Goals as goal

pub returns : goal.returns
returns c = record {
  none = λ yes once.
      none_shared c.args.store c.args.calls.now c.args.fact.now c.args.readers.now c.args.sources.now c.args.start once c.requires.need c.requires.kept
      (record { takers = c.requires.takers; apart = c.requires.apart; listed = c.requires.listed; begins = c.requires.begins; fewer = c.is_fewer.ensures.fewer yes });
}
