use Rattle.std.proofs.Common.{◌≡◌, ℕ, List, ◌++◌}
use Rattle.std.specs.Prelude.{flat_map}
use Rattle.zy_base.proofs.WritingLemmas.{Written}
use Rattle.zy_items.specs.Items.{lasting_text}
use Rattle.zy_items.proofs.writing.write_lasting.Given as goal

-- those before the place were written
abbrev pub invariant-loop-key : goal.invariant-loop-key
invariant-loop-key g l = record {
  before : List (List ℕ);
  all : before ++ l.key-iterator ≡ l.keys.keys;
  written : Written g.K.Sink.holds g.K.Sink.faults g.K.Sink.finishes l.initial.sink l.sink (flat_map lasting_text before);
}
