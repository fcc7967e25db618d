use Rattle.std.proofs.Common.{ℕ, List, sym, ◌∙◌, ap}
use Rattle.std.specs.Prelude.{Option}
use Rattle.zy_items.proofs.KeyLemmas.{is_above, next_by}
use Rattle.zy_items.proofs.state.records.is_next_lasting.Goals as goal

pub returns-clause-value : goal.returns-clause-value
returns-clause-value c =
    c.lt.ensures ∙ sym (next_by c.args.lasting.now.keys c.args.key.now ∙ ap (λ (o : Option (List ℕ)). is_above o c.args.key.now) c.in-Some.ensures.last)
