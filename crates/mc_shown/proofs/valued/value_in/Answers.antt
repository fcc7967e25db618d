use Rattle.mc_shown.proofs.ValuedLemmas.{stripped}
use Rattle.mc_shown.proofs.valued.value_in.Goals as goal

pub returns : goal.returns
returns c = record { value = stripped c.args.text.now c.text_from.result.now c.in-Some.length c.in-Some.ensures.some c.text_from.ensures.value c.strip_suffix.result c.strip_suffix.ensures.cases }
