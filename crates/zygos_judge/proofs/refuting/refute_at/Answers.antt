use Rattle.std.proofs.Common.{ℕ, List, sym, subst}
use Rattle.zy_capture.specs.declared.record.Record.{Record}
use Rattle.zy_explain.specs.Judged.{judged_after}
use Rattle.zy_observed.specs.AtKey.{IsStoreAt}
use Rattle.zy_sessions.specs.Sessions.{SessionsHold}
use Rattle.zygos_judge.proofs.CallLemmas.{culprit_found}
use Rattle.zygos_judge.proofs.refuting.refute_at.Goals as goal

pub returns-in-Some : goal.returns-in-Some
returns-in-Some c = record {
  culprit = culprit_found c.args.lasting.now.keys c.args.rules c.args.sessions.now c.args.calls.now c.store_at-store.result c.bytes.result.now c.refute_key.result c.refute_key.ensures.none c.refute_key.ensures.named
      (subst (λ (k : List ℕ). (count : ℕ) (records : List Record) (outputs : List (List (List ℕ))) → SessionsHold c.args.sessions.now count records → IsStoreAt (judged_after c.args.lasting.now.keys c.args.rules count records outputs) k c.store_at-store.result) (sym c.bytes.ensures.value) c.store_at-store.ensures.store);
}
