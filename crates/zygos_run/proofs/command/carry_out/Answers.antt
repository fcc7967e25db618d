use Rattle.std.proofs.Common.{sym, ◌∙◌, ap, Some}
use Rattle.zy_read.specs.Seen.{side}
use Rattle.zygos_run.proofs.command.carry_out.Goals as goal

pub run_capture-requires-clause-runnable : goal.run_capture-requires-clause-runnable
run_capture-requires-clause-runnable g c κs within =
    c.requests_are_in_their_ranges.ensures.run c.args.words.now c.in-Ok-Some-Run.run' c.in-Ok-Some-Run.out
    (sym c.in-Ok-Some-Run.ensures.value ∙ c.in-Ok-Some-Run.field-0-is ∙ ap Some c.in-Ok-Some-Run.field-0-0-is)

pub check_input-requires : goal.check_input-requires
check_input-requires g c = record {
  shards = c.requests_are_in_their_ranges.ensures.check c.args.words.now c.in-Ok-Some-Check.shards
      (sym c.in-Ok-Some-Check.ensures.value ∙ c.in-Ok-Some-Check.field-0-is ∙ ap Some c.in-Ok-Some-Check.field-0-0-is);
}

pub make_traffic-requires : goal.make_traffic-requires
make_traffic-requires g c = record {
  makeable = c.requests_are_in_their_ranges.ensures.traffic c.args.words.now c.in-Ok-Some-Gen.traffic
      (sym c.in-Ok-Some-Gen.ensures.value ∙ c.in-Ok-Some-Gen.field-0-is ∙ ap Some c.in-Ok-Some-Gen.field-0-0-is);
}

pub test_traffic-requires-clause-makeable : goal.test_traffic-requires-clause-makeable
test_traffic-requires-clause-makeable g c κs within =
    c.requests_are_in_their_ranges.ensures.self_traffic c.args.words.now c.in-Ok-Some-SelfTest.traffic c.in-Ok-Some-SelfTest.run'
    (sym c.in-Ok-Some-SelfTest.ensures.value ∙ c.in-Ok-Some-SelfTest.field-0-is ∙ ap Some c.in-Ok-Some-SelfTest.field-0-0-is)

pub test_traffic-requires-clause-runnable : goal.test_traffic-requires-clause-runnable
test_traffic-requires-clause-runnable g c κs within =
    c.requests_are_in_their_ranges.ensures.self_run c.args.words.now c.in-Ok-Some-SelfTest.traffic c.in-Ok-Some-SelfTest.run'
    (sym c.in-Ok-Some-SelfTest.ensures.value ∙ c.in-Ok-Some-SelfTest.field-0-is ∙ ap Some c.in-Ok-Some-SelfTest.field-0-0-is)

pub make_packets-requires : goal.make_packets-requires
make_packets-requires g c = record {
  port = c.requests_are_in_their_ranges.ensures.port c.args.words.now c.in-Ok-Some-Pcap.port
      (sym c.in-Ok-Some-Pcap.ensures.value ∙ c.in-Ok-Some-Pcap.field-0-is ∙ ap Some c.in-Ok-Some-Pcap.field-0-0-is);
}

pub returns-in-Ok-Some-Run-clause-ends : goal.returns-in-Ok-Some-Run-clause-ends
returns-in-Ok-Some-Run-clause-ends g c =
    rw (← c.in-Ok-Some-Run.ensures.value, c.in-Ok-Some-Run.field-0-is, c.in-Ok-Some-Run.field-0-0-is) c.run_capture.ensures.ends

pub returns-in-Ok-Some-Check-clause-ends : goal.returns-in-Ok-Some-Check-clause-ends
returns-in-Ok-Some-Check-clause-ends g c =
    rw (← c.in-Ok-Some-Check.ensures.value, c.in-Ok-Some-Check.field-0-is, c.in-Ok-Some-Check.field-0-0-is) c.check_input.ensures.ends

pub returns-in-Ok-Some-Pcap-clause-ends : goal.returns-in-Ok-Some-Pcap-clause-ends
returns-in-Ok-Some-Pcap-clause-ends g c =
    rw (← c.in-Ok-Some-Pcap.ensures.value, c.in-Ok-Some-Pcap.field-0-is, c.in-Ok-Some-Pcap.field-0-0-is) c.make_packets.ensures.ends

pub returns-in-Ok-Some-Report-clause-ends : goal.returns-in-Ok-Some-Report-clause-ends
returns-in-Ok-Some-Report-clause-ends g c =
    rw (← c.in-Ok-Some-Report.ensures.value, c.in-Ok-Some-Report.field-0-is, c.in-Ok-Some-Report.field-0-0-is) c.report_journal.ensures.ends

pub returns-in-Ok-Some-Gen-clause-ends : goal.returns-in-Ok-Some-Gen-clause-ends
returns-in-Ok-Some-Gen-clause-ends g c =
    rw (← c.in-Ok-Some-Gen.ensures.value, c.in-Ok-Some-Gen.field-0-is, c.in-Ok-Some-Gen.field-0-0-is)
    (c.make_traffic.ensures.ends (side g.S.Source.rest g.S.Source.faults c.args.source.now c.args.source.now))

pub returns-in-Ok-Some-SelfTest-clause-ends : goal.returns-in-Ok-Some-SelfTest-clause-ends
returns-in-Ok-Some-SelfTest-clause-ends g c =
    rw (← c.in-Ok-Some-SelfTest.ensures.value, c.in-Ok-Some-SelfTest.field-0-is, c.in-Ok-Some-SelfTest.field-0-0-is)
    (c.test_traffic.ensures.ends (side g.S.Source.rest g.S.Source.faults c.args.source.now c.args.source.now))
