use Rattle.zy_base.proofs.WritingLemmas.{pieces_failed}
use Rattle.zy_journal.specs.Journal.{hold_text}
use Rattle.zy_journal.proofs.writing.write_holds.Goals as goal

pub returns-in_err-write_hold : goal.returns-in_err-write_hold
returns-in_err-write_hold g c = record {
  writes = pieces_failed hold_text c.args.holds.now c.loop-hold.hold-index _ c.from_residual.ensures.0 c.loop-hold-test.true c.loop-hold.invariant.written c.in_err-write_hold.ensures.writes;
}
