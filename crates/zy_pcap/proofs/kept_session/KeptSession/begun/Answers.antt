use Rattle.zy_pcap.proofs.MeetLemmas.{begun_keeps}
use Rattle.zy_pcap.proofs.kept_session.KeptSession.begun.Goals as goal

pub returns : goal.returns
returns c = record { value = begun_keeps c.args.segment.now c.args.payload.now c.new-bytes.result c.add.new.self c.requires.few c.new-bytes.ensures.none c.in_default.ensures.ok }
