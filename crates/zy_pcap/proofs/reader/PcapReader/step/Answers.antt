use Rattle.std.proofs.Common.{◌≡◌, true, false, refl, subst}
use Rattle.std.specs.Prelude.{Result, Ok, Err, Bool}
use Rattle.zy_read.specs.declared.not_taken.NotTaken.{NotTaken}
use Rattle.zy_pcap.specs.declared.pcap_fault.PcapFault.{PcapFault}
use Rattle.zy_read.specs.Fields.{step}
use Rattle.zy_pcap.specs.Steps.{frames}
use Rattle.zy_pcap.specs.Moves.{TakesMove}
use Rattle.zy_pcap.specs.Standing.{PcapReading}
use Rattle.zy_pcap.specs.Step.{AnswersByte}
use Rattle.zy_pcap.proofs.ReadLemmas.{goes_follows, refused_follows, ends_follows}
use Rattle.zy_pcap.proofs.reader.PcapReader.step.Goals as goal

pub returns-in-Ok-true-clause-value : goal.returns-in-Ok-true-clause-value
returns-in-Ok-true-clause-value c =
    let old : PcapReading = record { port = c.self.inside.port; place = c.self.inside.records; kept = c.self.inside.kept.flows.items } in
    let new : PcapReading = record { port = c.self.inside.port; place = c.settle.new.records; kept = c.settle.new.kept.flows.items } in
    let is : c.take.result ≡ Ok true = cc in
    let takes = subst (λ (r : Result Bool (NotTaken PcapFault)). TakesMove (step frames c.self.inside.records c.args.byte) c.self.inside.records c.take.new.self r) is c.take.ensures.value in
    subst (λ (r : PcapReading). AnswersByte r new c.args.byte c.settle.result) c.self.view_is
    (ends_follows old new c.take.new.self c.args.byte c.settle.result takes c.settle.ensures.place c.settle.ensures.frame)

pub returns-in-Ok-false-clause-value : goal.returns-in-Ok-false-clause-value
returns-in-Ok-false-clause-value c =
    let old : PcapReading = record { port = c.self.inside.port; place = c.self.inside.records; kept = c.self.inside.kept.flows.items } in
    let new : PcapReading = record { port = c.self.inside.port; place = c.take.new.self; kept = c.self.inside.kept.flows.items } in
    let is : c.take.result ≡ Ok false = cc in
    let takes = subst (λ (r : Result Bool (NotTaken PcapFault)). TakesMove (step frames c.self.inside.records c.args.byte) c.self.inside.records c.take.new.self r) is c.take.ensures.value in
    subst (λ (r : PcapReading). AnswersByte r new c.args.byte (Ok tt)) c.self.view_is (goes_follows old new c.args.byte refl takes)

pub returns-in-Err-clause-value : goal.returns-in-Err-clause-value
returns-in-Err-clause-value c =
    let old : PcapReading = record { port = c.self.inside.port; place = c.self.inside.records; kept = c.self.inside.kept.flows.items } in
    let new : PcapReading = record { port = c.self.inside.port; place = c.take.new.self; kept = c.self.inside.kept.flows.items } in
    let is : c.take.result ≡ Err c.in-Err.refused = cc in
    let takes = subst (λ (r : Result Bool (NotTaken PcapFault)). TakesMove (step frames c.self.inside.records c.args.byte) c.self.inside.records c.take.new.self r) is c.take.ensures.value in
    subst (λ (r : PcapReading). AnswersByte r new c.args.byte (Err c.in-Err.refused)) c.self.view_is (refused_follows old new c.args.byte c.in-Err.refused refl takes)
