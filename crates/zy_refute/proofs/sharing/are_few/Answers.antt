use Rattle.std.proofs.Common.{ℕ, List, length, sym, subst}
use Rattle.zy_refute.specs.Shared.{AreSources}
use Rattle.zy_refute.proofs.sharing.are_few.Goals as goal

pub are_fewer-few-requires-clause-listed : goal.are_fewer-few-requires-clause-listed
are_fewer-few-requires-clause-listed c =
    subst (λ (l : List ℕ). AreSources c.args.store c.args.calls.now c.args.fact.now c.args.readers.now l (length c.args.calls.now)) (sym c.as_slice.ensures.value) c.in_ok-sources.ensures.listed
