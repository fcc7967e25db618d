use Rattle.std.proofs.Common.{ℕ, List, Some, subst}
use Rattle.zy_sessions.specs.Noting.{AddsKey}
use Rattle.zy_sessions.proofs.KeyLemmas.{key_added}
use Rattle.zy_sessions.proofs.noting.add_key.Goals as goal

pub returns-in-Ok : goal.returns-in-Ok
returns-in-Ok c = record {
  lasting = subst (λ (k : List ℕ). AddsKey c.args.lasting.now c.insert.new.self (Some k)) c.in_ok-key.ensures.value
      (key_added c.args.lasting.now c.insert.new.self c.in_ok-key.key c.in-Ok.ensures.updates);
}
