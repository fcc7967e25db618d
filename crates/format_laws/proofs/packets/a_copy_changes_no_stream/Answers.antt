use Rattle.format_laws.proofs.PacketCopyLemmas.{covered_same, copy_same}
use Rattle.format_laws.proofs.packets.a_copy_changes_no_stream.Goals as goal

pub returns : goal.returns
returns c = record { covered = covered_same; copy = copy_same }
