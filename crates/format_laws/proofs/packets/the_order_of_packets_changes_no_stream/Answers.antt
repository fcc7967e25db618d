use Rattle.format_laws.proofs.PacketCopyLemmas.{order_same}
use Rattle.format_laws.proofs.packets.the_order_of_packets_changes_no_stream.Goals as goal

pub returns : goal.returns
returns c = record { order = order_same }
