use Rattle.std.proofs.Common.{[]}
use Rattle.zy_input.proofs.PacketLemmas.{no_fault, packets_read}
use Rattle.zy_input.proofs.parts.read_packets.Goals as goal

pub read_alone-requires : goal.read_alone-requires
read_alone-requires g c = record { goes = (c.args.port, [], (c.new.ensures.port, c.new.ensures.value), no_fault c.args.port) }

pub returns-clause-packets : goal.returns-clause-packets
returns-clause-packets g c =
    let alone = c.read_alone.ensures.value c.args.port (c.new.ensures.port, c.new.ensures.value) (no_fault c.args.port) in
    packets_read c.args.port g.S.Source.rest g.S.Source.faults c.args.source.now c.read_alone.new.source alone.0 c.read_alone.result alone.1
