use Rattle.std.proofs.Common.{sym, ◌∙◌, ap}
use Rattle.zy_base.proofs.WritingLemmas.{writes_as}
use Rattle.zy_shell.specs.Line.{line_with}
use Rattle.zy_shell.specs.FaultLine.{refusal_line, pcap_text}
use Rattle.zy_shell.proofs.faults.write_refusal.Goals as goal

pub returns-in-Pcap : goal.returns-in-Pcap
returns-in-Pcap g c = record {
  writes = writes_as (ap (λ number. line_with pcap_text number) c.pcap_number.ensures.value ∙ sym (ap refusal_line c.in-Pcap.is)) c.write_number.ensures.writes;
}
