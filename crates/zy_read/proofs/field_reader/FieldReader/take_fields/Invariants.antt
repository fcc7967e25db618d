use Rattle.std.proofs.Common.{◌+◌, ◌<◌, ◌-◌, [], length, take, drop}
use Rattle.zy_read.specs.Standing.{Feeds}
use Rattle.zy_read.specs.Fields.{format_of}
use Rattle.zy_read.proofs.field_reader.FieldReader.take_fields.Given as goal

-- whole fields were fed
abbrev pub invariant-loop-at : goal.invariant-loop-at
invariant-loop-at g l = record {
  within : l.at + l.run < length l.bytes;
  fed : Feeds (format_of g.S.FieldFormat.fields g.S.FieldFormat.good g.S.FieldFormat.bad) l.fn.self l.self (take l.run (drop l.at l.bytes)) [];
}

abbrev pub decreases-loop-at : goal.decreases-loop-at
decreases-loop-at g l = length l.bytes - l.run
