use Rattle.std.proofs.Common.{◌≡◌, ◌-◌, ◌<◌, length, arith, sym, ap, ◌∙◌}
use Rattle.std.specs.Prelude.{slice_get, Some}
use Rattle.std.proofs.lemmas.Option.{slice_get-get_or}
use Rattle.zy_pcap.proofs.FlowLemmas.{flow_goes, flow_begins}
use Rattle.zy_pcap.proofs.kept_flow.KeptFlow.meet.Goals as goal

pub returns-then-goes_on-clause-value : goal.returns-then-goes_on-clause-value
returns-then-goes_on-clause-value c =
    let some : 0 < length c.args.self.now.sessions.items = c.goes_on.ensures.some c.if-goes_on.true in
    let there : slice_get c.args.self.now.sessions.items (c.len-last.result - 1) ≡ Some c.index_mut.result.now =
    slice_get-get_or c.args.self.now.sessions.items (c.len-last.result - 1) c.index_mut.result.now (omega (arith, some, c.len-last.ensures)) ∙ ap (λ x. Some x) (sym c.index_mut.ensures.value) in
    flow_goes c.args.self.now.sessions.items (c.len-last.result - 1) c.index_mut.result.now c.meet.new.self c.args.segment.now c.args.payload.now c.args.at c.meet.result (omega (arith, c.len-last.ensures)) there (sym c.goes_on.ensures.value ∙ c.if-goes_on.true) c.meet.ensures.value

pub returns-clause-value : goal.returns-clause-value
returns-clause-value c = flow_begins c.args.self.now.sessions.items c.begin.new.self.sessions.items c.args.segment.now c.args.payload.now c.args.at c.begin.result (sym c.goes_on.ensures.value ∙ c.if-goes_on.false) c.requires.few c.begin.ensures.value
