use Rattle.std.proofs.Common.{ℕ, List, [], ◌∷◌, subst}
use Rattle.zy_explain.specs.Lasting.{AddsAll}
use Rattle.zy_explain.proofs.LastingLemmas.{one_added}
use Rattle.zy_explain.proofs.lasting.add_one.Goals as goal

pub returns-in-Ok : goal.returns-in-Ok
returns-in-Ok c = record {
  added = subst (λ (k : List ℕ). AddsAll (k ∷ []) c.args.all.now c.insert.new.self) c.in_ok-key.ensures.value
      (one_added c.args.all.now c.insert.new.self c.in_ok-key.key c.in-Ok.ensures.updates);
}
