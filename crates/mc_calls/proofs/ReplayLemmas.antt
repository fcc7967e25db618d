-- Replays, histories and legal lists that are one entry longer.
use Rattle.std.proofs.Common.{◌≡◌, ℕ, ◌+◌, ◌<◌, ◌≤◌, List, [], ◌∷◌, ◌++◌, length, arith, refl, sym, subst}
use mathlib.Core.Logic.{dite}
use native.Mathlib.Decide.{ℕ_discrete}
use Rattle.mc_calls.specs.declared.entry.Entry.{Entry}
use Rattle.mc_calls.specs.Shard.{State, Effect, keeps, stores, removes, empties, empty_state, reply_to, state_after, state_with, outcome_on}
use Rattle.mc_calls.specs.Order.{at_shard, last_stamp}
use Rattle.std.specs.List.{AllByRecursion}
use Rattle.mc_calls.specs.Bounds.{FitsEntry}
use Rattle.mc_calls.specs.History.{IsReplay, replayed, IsHistory, IsLegal}
use Rattle.mc_calls.proofs.EntryLemmas.{at_shard-push, at_shard-push_other, at_shard-append, AreAt-push, AreBelow-push, AreBelow-parts, StampsRise-push}
use Rattle.mc_calls.proofs.LegalLemmas.{legal_below, legal_parts, legal_whole}

-- ---- one shard

pub replayed-append : (shards number : ℕ) (state : State) (xs ys : List Entry) → replayed shards number state (xs ++ ys) ≡ replayed shards number (replayed shards number state xs) ys
replayed-append shards number state [] ys = refl
replayed-append shards number state (x ∷ xs) ys = replayed-append shards number (state_after shards number state x.call) xs ys

pub replayed-push : (shards number : ℕ) (state : State) (es : List Entry) (e : Entry) → replayed shards number state (es ++ e ∷ []) ≡ state_after shards number (replayed shards number state es) e.call
replayed-push shards number state es e = replayed-append shards number state es (e ∷ [])

pub IsReplay-append : (shards number : ℕ) (state : State) (xs ys : List Entry) → IsReplay shards number state xs → IsReplay shards number (replayed shards number state xs) ys → IsReplay shards number state (xs ++ ys)
IsReplay-append shards number state [] ys front back = back
IsReplay-append shards number state (x ∷ xs) ys front back = (front.0, IsReplay-append shards number (state_after shards number state x.call) xs ys front.1 back)

pub IsReplay-parts : (shards number : ℕ) (state : State) (xs ys : List Entry) → IsReplay shards number state (xs ++ ys) → IsReplay shards number state xs × IsReplay shards number (replayed shards number state xs) ys
IsReplay-parts shards number state [] ys replay = (tt, replay)
IsReplay-parts shards number state (x ∷ xs) ys replay =
    let rest = IsReplay-parts shards number (state_after shards number state x.call) xs ys replay.1 in ((replay.0, rest.0), rest.1)

pub IsReplay-push : (shards number : ℕ) (state : State) (es : List Entry) (e : Entry) → IsReplay shards number state es → e.reply ≡ reply_to (replayed shards number state es) e.call → IsReplay shards number state (es ++ e ∷ [])
IsReplay-push shards number state es e replay reply = IsReplay-append shards number state es (e ∷ []) replay (reply, tt)

all_push : (P : Entry → Type 0) (es : List Entry) (e : Entry) → AllByRecursion P es → P e → AllByRecursion P (es ++ e ∷ [])
all_push P [] e all one = (one, tt)
all_push P (x ∷ es) e all one = (all.0, all_push P es e all.1 one)

pub IsHistory-push : (shards number : ℕ) (es : List Entry) (e : Entry) → IsHistory shards number es
    → e.shard ≡ number → last_stamp 0 es < e.stamp → e.reply ≡ reply_to (replayed shards number empty_state es) e.call → FitsEntry e → IsHistory shards number (es ++ e ∷ [])
IsHistory-push shards number es e history here above reply fits = record {
  replay = IsReplay-push shards number empty_state es e history.replay reply;
  place = AreAt-push number es e history.place here;
  stamps = StampsRise-push 0 es e history.stamps above;
  fits = all_push FitsEntry es e history.fits fits;
}

-- ---- the counts of calls

-- an effect leaves them
pub calls-state_with : (shards number : ℕ) (state : State) (effect : Effect) → (state_with shards number state effect).calls ≡ state.calls
calls-state_with shards number state keeps = refl
calls-state_with shards number state (stores key flags value) = refl
calls-state_with shards number state (removes key) = refl
calls-state_with shards number state empties = refl

-- ---- the counter

pub count-state_with : (shards number : ℕ) (state : State) (effect : Effect) → (state_with shards number state effect).count ≤ state.count + 1
count-state_with shards number state keeps = omega arith
count-state_with shards number state (stores key flags value) = omega arith
count-state_with shards number state (removes key) = omega arith
count-state_with shards number state empties = omega arith

count_by : (shards number : ℕ) (state : State) (es : List Entry) → (replayed shards number state es).count ≤ state.count + length es
count_by shards number state [] = omega arith
count_by shards number state (e ∷ es) =
    let one = count-state_with shards number state (outcome_on state e.call).effect in
    let more = count_by shards number (state_after shards number state e.call) es in
    omega arith

-- each call counts at most one up
pub counts_calls : (shards number : ℕ) (es : List Entry) → (replayed shards number empty_state es).count ≤ length es
counts_calls shards number es = let most = count_by shards number empty_state es in omega arith

-- ---- all shards

-- a legal list stays legal when an entry is appended whose reply is that of its shard's part
pub IsLegal-push : (shards : ℕ) (es : List Entry) (e : Entry) → IsLegal shards es → e.shard < shards
    → e.reply ≡ reply_to (replayed shards e.shard empty_state (at_shard e.shard es)) e.call → IsLegal shards (es ++ e ∷ [])
IsLegal-push shards es e legal within reply =
    legal_whole shards (λ number. empty_state) (es ++ e ∷ []) (AreBelow-push shards es e (legal_below shards (λ number. empty_state) es legal) within)
    (λ shard. dite (ℕ_discrete e.shard shard)
    (λ is. subst (IsReplay shards shard empty_state) (sym (at_shard-push shard es e is))
    (IsReplay-push shards shard empty_state (at_shard shard es) e (legal_parts shards (λ number. empty_state) es legal shard)
    (subst (λ s. e.reply ≡ reply_to (replayed shards s empty_state (at_shard s es)) e.call) is reply)))
    (λ other. subst (IsReplay shards shard empty_state) (sym (at_shard-push_other shard es e other)) (legal_parts shards (λ number. empty_state) es legal shard)))

-- a prefix of a legal list is legal
pub IsLegal-front : (shards : ℕ) (xs ys : List Entry) → IsLegal shards (xs ++ ys) → IsLegal shards xs
IsLegal-front shards xs ys legal =
    legal_whole shards (λ number. empty_state) xs (AreBelow-parts shards xs ys (legal_below shards (λ number. empty_state) (xs ++ ys) legal)).0
    (λ shard. (IsReplay-parts shards shard empty_state (at_shard shard xs) (at_shard shard ys)
    (subst (IsReplay shards shard empty_state) (at_shard-append shard xs ys) (legal_parts shards (λ number. empty_state) (xs ++ ys) legal shard))).0)

-- the last entry of a legal list is on one of the shards
pub IsLegal-shard : (shards : ℕ) (es : List Entry) (e : Entry) → IsLegal shards (es ++ e ∷ []) → e.shard < shards
IsLegal-shard shards es e legal = (AreBelow-parts shards es (e ∷ []) (legal_below shards (λ number. empty_state) (es ++ e ∷ []) legal)).1.0

-- and its reply is that of its shard's part of those before it
pub IsLegal-reply : (shards : ℕ) (es : List Entry) (e : Entry) → IsLegal shards (es ++ e ∷ []) → e.reply ≡ reply_to (replayed shards e.shard empty_state (at_shard e.shard es)) e.call
IsLegal-reply shards es e legal =
    (IsReplay-parts shards e.shard empty_state (at_shard e.shard es) (e ∷ [])
    (subst (IsReplay shards e.shard empty_state) (at_shard-push e.shard es e refl) (legal_parts shards (λ number. empty_state) (es ++ e ∷ []) legal e.shard))).1.0
