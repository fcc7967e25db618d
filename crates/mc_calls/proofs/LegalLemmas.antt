-- A list of entries is legal if and only if each shard's part is a replay on that shard.
use Rattle.std.proofs.Common.{◌≡◌, ◌≢◌, ℕ, List, [], ◌∷◌, cond, refl, sym, ap, ◌∙◌, subst, eq-eqb, ne_eqb}
use mathlib.Core.Logic.{dite}
use native.Mathlib.Decide.{ℕ_discrete}
use Rattle.mc_calls.specs.declared.entry.Entry.{Entry}
use Rattle.mc_calls.specs.Shard.{State, reply_to, state_after}
use Rattle.mc_calls.specs.History.{IsReplay, IsLegalFrom, states_after}
use Rattle.mc_calls.specs.Order.{at_shard, AreBelow}
use Rattle.mc_calls.proofs.EntryLemmas.{at_shard-here, at_shard-other}

-- ---- one entry

-- a call changes its own shard
states_after-here : (shards : ℕ) (states : ℕ → State) (e : Entry) (shard : ℕ) → e.shard ≡ shard → states_after shards states e shard ≡ state_after shards shard (states shard) e.call
states_after-here shards states e shard is =
    ap (λ b. cond b (state_after shards e.shard (states e.shard) e.call) (states shard)) (eq-eqb shard e.shard (sym is)) ∙ ap (λ s. state_after shards s (states s) e.call) is

-- and no other
states_after-other : (shards : ℕ) (states : ℕ → State) (e : Entry) (shard : ℕ) → e.shard ≢ shard → states_after shards states e shard ≡ states shard
states_after-other shards states e shard other =
    ap (λ b. cond b (state_after shards e.shard (states e.shard) e.call) (states shard)) (ne_eqb shard e.shard (λ is. other (sym is)))

-- ---- all entries

-- the shards of a legal list are in range
pub legal_below : (shards : ℕ) (states : ℕ → State) (es : List Entry) → IsLegalFrom shards states es → AreBelow shards es
legal_below shards states [] legal = tt
legal_below shards states (e ∷ es) legal = (legal.0, legal_below shards (states_after shards states e) es legal.2)

-- each part of a legal list is a replay
pub legal_parts : (shards : ℕ) (states : ℕ → State) (es : List Entry) → IsLegalFrom shards states es → (shard : ℕ) → IsReplay shards shard (states shard) (at_shard shard es)
legal_parts shards states [] legal shard = tt
legal_parts shards states (e ∷ es) legal shard =
    let rest = legal_parts shards (states_after shards states e) es legal.2 shard in
    dite (ℕ_discrete e.shard shard)
    (λ is. subst (IsReplay shards shard (states shard)) (sym (at_shard-here shard e es is)) (
      subst (λ s. e.reply ≡ reply_to (states s) e.call) is legal.1,
      subst (λ state. IsReplay shards shard state (at_shard shard es)) (states_after-here shards states e shard is) rest,
    ))
    (λ other. subst (IsReplay shards shard (states shard)) (sym (at_shard-other shard e es other)) (subst (λ state. IsReplay shards shard state (at_shard shard es)) (states_after-other shards states e shard other) rest))

-- a list whose parts are replays is legal
pub legal_whole : (shards : ℕ) (states : ℕ → State) (es : List Entry) → AreBelow shards es → ((shard : ℕ) → IsReplay shards shard (states shard) (at_shard shard es)) → IsLegalFrom shards states es
legal_whole shards states [] below parts = tt
legal_whole shards states (e ∷ es) below parts =
    let here = subst (IsReplay shards e.shard (states e.shard)) (at_shard-here e.shard e es refl) (parts e.shard) in (
      below.0,
      here.0,
      legal_whole shards (states_after shards states e) es below.1 (λ shard. dite (ℕ_discrete e.shard shard)
          (λ is. subst (λ state. IsReplay shards shard state (at_shard shard es)) (sym (states_after-here shards states e shard is)) (subst (λ s. IsReplay shards s (state_after shards s (states s) e.call) (at_shard s es)) is here.1))
          (λ other. subst (λ state. IsReplay shards shard state (at_shard shard es)) (sym (states_after-other shards states e shard other)) (subst (IsReplay shards shard (states shard)) (at_shard-other shard e es other) (parts shard)))),
    )
