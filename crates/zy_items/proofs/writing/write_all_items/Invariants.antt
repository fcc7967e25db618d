use Rattle.std.proofs.Common.{take}
use Rattle.std.specs.Prelude.{flat_map}
use Rattle.zy_base.proofs.WritingLemmas.{Written}
use Rattle.zy_items.specs.Items.{item_text}
use Rattle.zy_items.proofs.writing.write_all_items.Given as goal

-- those before the place were written
abbrev pub invariant-loop-kept : goal.invariant-loop-kept
invariant-loop-kept g l = record {
  written : Written g.K.Sink.holds g.K.Sink.faults g.K.Sink.finishes l.initial.sink l.sink (flat_map item_text (take l.kept-index l.items));
}
