use Rattle.std.proofs.Common.{ap, sym, ◌∙◌, take}
use Rattle.std.specs.Prelude.{option_map}
use Rattle.mc_answered.specs.Halved.{heading_seen}
use Rattle.mc_answered.proofs.FoundLemmas.{headed_line}
use Rattle.mc_answered.proofs.item.Shown.line_in.Goals as goal

pub returns-in-Some-read_heading : goal.returns-in-Some-read_heading
returns-in-Some-read_heading c =
    let me = c.args.self.now in
    let there = sym c.read_heading.ensures.value ∙ ap (option_map heading_seen) c.in-Some-read_heading.is in
    record {
      value = (
        c.in-Some.ensures.within.1,
        headed_line me.asked me.key.now me.flags me.unique me.value.now (take c.in-Some.length c.args.bytes.now) (heading_seen c.in-Some-read_heading.heading) there (c.is_headed.ensures.value c.if-is_headed.true),
      );
    }
