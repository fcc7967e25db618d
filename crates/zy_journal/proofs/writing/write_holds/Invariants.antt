use Rattle.std.proofs.Common.{take}
use Rattle.std.specs.Prelude.{flat_map}
use Rattle.zy_base.proofs.WritingLemmas.{Written}
use Rattle.zy_journal.specs.Journal.{hold_text}
use Rattle.zy_journal.proofs.writing.write_holds.Given as goal

-- those before the place were written
abbrev pub invariant-loop-hold : goal.invariant-loop-hold
invariant-loop-hold g l = record {
  written : Written g.K.Sink.holds g.K.Sink.faults g.K.Sink.finishes l.initial.sink l.sink (flat_map hold_text (take l.hold-index l.holds));
}
