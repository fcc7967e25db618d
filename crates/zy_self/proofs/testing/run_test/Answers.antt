use Rattle.std.proofs.Common.{◌≡◌, ◌∙◌, ap, refl, rules}
use Rattle.zy_capture.specs.Verdict.{verdict}
use Rattle.zy_gen.specs.Traffic.{traffic_records}
use Rattle.zy_self.specs.Tested.{traffic_bytes}
use Rattle.zy_self.proofs.TestLemmas.{tested_of}
use Rattle.zy_self.proofs.testing.run_test.Goals as goal

pub certify-requires-clause-streams : goal.certify-requires-clause-streams
certify-requires-clause-streams g c =
    let copied : c.in_ok-copy.field-0 ≡ traffic_bytes c.args.traffic = search rules in
    λ version count records good. c.in_ok-streams.ensures.value version count records (ap verdict copied ∙ good)

pub returns : goal.returns
returns g c =
    let traffic = c.args.traffic in
    let records = traffic_records traffic.number traffic.conns traffic.commands in
    let made = c.capture_of.ensures.traffic in record {
      tested = tested_of traffic c.args.run records c.in_ok-done.done.journal c.in_ok-done.done.outputs c.in_ok-summary.summary refl
          (c.generated_traffic_is_a_good_capture.ensures.good traffic.number traffic.conns traffic.commands made)
          (λ es is. c.each_run_of_generated_traffic_has_the_summary.ensures.value traffic.number traffic.conns traffic.commands c.args.run.shards c.args.run.shards es c.requires.runnable.some_shards made is)
          c.in_ok-done.ensures.served c.in_ok-summary.ensures.value;
    }
