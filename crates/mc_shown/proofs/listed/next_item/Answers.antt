use Rattle.std.proofs.Common.{ap, sym, ◌∙◌, refl}
use Rattle.std.specs.Prelude.{option_map}
use Rattle.mc_answered.specs.Halved.{heading_seen}
use Rattle.mc_shown.specs.declared.listed.Listed.{Listed}
use Rattle.mc_shown.proofs.ReadLemmas.{next_is}
use Rattle.mc_shown.proofs.listed.next_item.Goals as goal

pub returns : goal.returns
returns c =
    let headed = sym c.read_heading.ensures.value ∙ ap (option_map heading_seen) c.in-Some-read_heading.is in
    let heading = c.in-Some-read_heading.heading in
    let item : Listed = record { key = heading.key; flags = heading.flags; unique = heading.unique; value = c.in-Some-value_in.value } in
    record {
      value = next_is c.args.asked c.args.bytes.now c.text_from.result.now c.in-Some.line (heading_seen heading) item c.in-Some.ensures.within.1 headed c.text_from.ensures.value refl refl refl
          c.in-Some-value_in.ensures.value _ refl;
    }
