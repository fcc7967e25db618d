use Rattle.std.proofs.Common.{rules}
use Rattle.mc_meta.proofs.NumberLemmas.{refused_at, read_whole}
use Rattle.mc_meta.proofs.number.read_number.Goals as goal

pub returns-in-None : goal.returns-in-None
returns-in-None c = record {
  value = refused_at c.args.text.now c.loop-digit.digit-index c.loop-digit.number c.loop-digit-test.true c.loop-digit.invariant.value (search rules) (search rules) (search rules);
}

pub returns : goal.returns
returns c = record {
  value = read_whole c.args.text.now c.loop-digit.digit-index c.loop-digit.number c.loop-digit-test.false (search rules) c.if-text-gt20.false c.loop-digit.invariant.fits c.loop-digit.invariant.value c.loop-digit.invariant.digits;
}
