-- The replies of a journal's entries may be said to their calls.
use Rattle.std.specs.Prelude.{All}
use Rattle.std.specs.List.{AllByRecursion}
use Rattle.std.proofs.Common.{ℕ, List, [], ◌∷◌, sym, subst}
use Rattle.std.proofs.lemmas.List.Elements.{All-nil, All-cons}
use Rattle.mc_calls.specs.declared.entry.Entry.{Entry}
use Rattle.mc_calls.specs.Bounds.{FitsEntry}
use Rattle.mc_calls.specs.History.{IsLegalFrom, states_after}
use Rattle.mc_calls.specs.Kind.{MayAnswer}
use Rattle.mc_calls.specs.Shard.{State}
use Rattle.mc_calls.proofs.KindLemmas.{reply_answers}
use Rattle.zy_journal.specs.Journal.{IsEntry}
use Rattle.judge_laws.proofs.SaidLemmas.{IsSaid}

pub entries_said : (shards : ℕ) (states : ℕ → State) (es : List Entry) → IsLegalFrom shards states es → AllByRecursion IsEntry es → AllByRecursion FitsEntry es → All IsSaid es
entries_said shards states [] legal valid fits = All-nil IsSaid
entries_said shards states (e ∷ es) legal valid fits =
    All-cons IsSaid e es
    (subst (MayAnswer e.call) (sym legal.1) (reply_answers (states e.shard) e.call), valid.0.reply, fits.0.reply)
    (entries_said shards (states_after shards states e) es legal.2 valid.1 fits.1)
