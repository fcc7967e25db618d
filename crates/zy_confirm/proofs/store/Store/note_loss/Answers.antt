use Rattle.std.proofs.Common.{◌≡◌, ℕ, List, false, refl, sym, subst, arith}
use Rattle.mc_allows.specs.Steps.{is_same}
use Rattle.zy_confirm.proofs.StoreLemmas.{others_lose}
use Rattle.zy_confirm.proofs.store.Store.note_loss.Goals as goal

pub returns-in-Ok : goal.returns-in-Ok
returns-in-Ok c = record {
  noted = record {
    shards = refl;
    used = refl;
    others = λ other differ.
        others_lose c.args.self.now.losses c.insert.new.self c.in_ok-key.key _ c.in-Ok.ensures.updates other
        (subst (λ (k : List ℕ). is_same other k ≡ false) (sym c.in_ok-key.ensures.value) differ);
    bounds = (refl, omega arith);
  };
}
