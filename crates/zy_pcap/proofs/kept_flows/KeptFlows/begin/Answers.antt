use Rattle.zy_pcap.proofs.kept_flows.KeptFlows.begin.Goals as goal

pub returns-in-Ok-put-clause-value : goal.returns-in-Ok-put-clause-value
returns-in-Ok-put-clause-value c = (c.in-Ok.flow, (c.in-Ok-put.ensures.ok, c.in-Ok.ensures.value))
