use Rattle.std.proofs.Common.{refl}
use Rattle.zy_explain.proofs.StateLemmas.{begun}
use Rattle.zy_explain.proofs.state.State.new.Goals as goal

pub returns-in-Ok : goal.returns-in-Ok
returns-in-Ok c = record {
  store = refl;
  none = λ rules lasting outputs first. begun rules c.args.sessions.now outputs (record { store = c.args.store; rows = c.in-Ok.rows; moment = 0 }) c.in-Ok.ensures.fresh lasting first refl;
}
