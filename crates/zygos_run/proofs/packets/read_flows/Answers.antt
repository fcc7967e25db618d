use Rattle.std.proofs.Common.{sym, ap}
use Rattle.zy_pcap.specs.Made.{capture_of}
use Rattle.zygos_run.proofs.packets.read_flows.Goals as goal

pub returns-in-Ok-clause-ok : goal.returns-in-Ok-clause-ok
returns-in-Ok-clause-ok g c =
    let read = c.in-Ok.ensures.packets in (
      read.0,
      read.1,
      record {
        given = read.2.given;
        are = read.2.good;
        capture = ap capture_of (sym read.2.joined);
        good = c.the_capture_of_a_file_is_good.ensures.good c.args.port read.0 read.2.given read.2.good read.1.2;
      },
    )
