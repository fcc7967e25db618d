use Rattle.std.proofs.Common.{length, ◌-◌, ◌∙◌, arith}
use Rattle.mc_parse.proofs.ArityLemmas.{ends-last}
use Rattle.mc_parse.proofs.arity.ends_in_noreply.Goals as goal

pub returns-in-len1-up : goal.returns-in-len1-up
returns-in-len1-up c = record { value = c.is_noreply.ensures.value ∙ ends-last c.args.words.now (length c.args.words.now - 1) _ (omega (arith, c.in-len1-up.len_at_least)) }
