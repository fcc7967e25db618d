-- A connection whose keys no other connection calls gets the same replies as from one shard of its own.
use Rattle.std.proofs.Common.{◌≡◌, ℕ, ◌<◌, Bool, true, false, cond, List, [], ◌∷◌, map, refl, sym, ap, ◌∙◌, subst, eq-eqb, eqb-true}
use Rattle.std.specs.Prelude.{◌==◌}
use Rattle.std.specs.List.{AllByRecursion, Contains}
use mathlib.Core.Logic.{dite}
use native.Mathlib.Decide.{ℕ_discrete}
use Rattle.mc_calls.specs.declared.call_reply.CallReply.{CallReply}
use Rattle.mc_calls.specs.declared.entry.Entry.{Entry}
use Rattle.mc_calls.specs.Key.{shard_of}
use Rattle.mc_calls.specs.Shard.{State, reply_to, state_after}
use Rattle.mc_calls.specs.History.{IsLegalFrom, states_after}
use Rattle.mc_calls.specs.Order.{of_connection}
use Rattle.mc_calls.proofs.EntryLemmas.{of_connection-here, of_connection-other}
use Rattle.mc_parse.specs.Calls.{Due, dues_of}
use Rattle.mc_calls.specs.Told.{told, all_told, seen_at}
use Rattle.mc_parse.specs.Plain.{bare}
use Rattle.zy_run.specs.Keyed.{IsEntryOwn, AgreeAtKeys, told_by}
use Rattle.mc_calls.proofs.KeyLemmas.{told-reply_to, seen_at-both, seen_at-other}

-- ---- one entry

module _ (shards count : ℕ) (keys : ℕ → List (List ℕ)) (states : ℕ → State) (single : State) (e : Entry) (is_own : IsEntryOwn shards count keys e) where
  -- the shard of the entry and the single shard have the same at the entry's key
  at_key : AgreeAtKeys shards (keys e.tag.conn) states single → seen_at is_own.keyed.key (states e.shard) ≡ seen_at is_own.keyed.key single
  at_key agree = subst (λ s. seen_at is_own.keyed.key (states s) ≡ seen_at is_own.keyed.key single) (sym is_own.keyed.place) (agree is_own.keyed.key is_own.keyed.own)

  -- both give it the same reply, apart from uniques
  told-same : AgreeAtKeys shards (keys e.tag.conn) states single → told (reply_to (states e.shard) e.call) ≡ told (reply_to single e.call)
  told-same agree = told-reply_to (states e.shard) single e.call is_own.keyed.key is_own.keyed.steady is_own.keyed.named (at_key agree)

  -- they still agree after it
  Agree-both : AgreeAtKeys shards (keys e.tag.conn) states single → AgreeAtKeys shards (keys e.tag.conn) (states_after shards states e) (state_after 1 0 single e.call)
  Agree-both agree key inside = go (shard_of key shards == e.shard) refl
    where
      go : (b : Bool) → (shard_of key shards == e.shard) ≡ b
          → seen_at key (cond b (state_after shards e.shard (states e.shard) e.call) (states (shard_of key shards))) ≡ seen_at key (state_after 1 0 single e.call)
      go true is =
          seen_at-both shards e.shard 1 0 (states e.shard) single e.call is_own.keyed.key key is_own.keyed.steady is_own.keyed.named (at_key agree)
          (subst (λ s. seen_at key (states s) ≡ seen_at key single) (eqb-true (shard_of key shards) e.shard is) (agree key inside))
      go false is =
          agree key inside ∙ sym (seen_at-other 1 0 single e.call is_own.keyed.key key is_own.keyed.steady is_own.keyed.named (λ same.
          let here : (shard_of key shards == e.shard) ≡ true = eq-eqb (shard_of key shards) e.shard (ap (λ k. shard_of k shards) (sym same) ∙ sym is_own.keyed.place) in cc))

  -- an entry of another connection changes nothing at keys that the other does not call
  Agree-other : (own : List (List ℕ)) → ((key : List ℕ) → Contains own key → Contains (keys e.tag.conn) key → ⊥)
      → AgreeAtKeys shards own states single → AgreeAtKeys shards own (states_after shards states e) single
  Agree-other own apart agree key inside = go (shard_of key shards == e.shard) refl
    where
      go : (b : Bool) → (shard_of key shards == e.shard) ≡ b
          → seen_at key (cond b (state_after shards e.shard (states e.shard) e.call) (states (shard_of key shards))) ≡ seen_at key single
      go true is =
          seen_at-other shards e.shard (states e.shard) e.call is_own.keyed.key key is_own.keyed.steady is_own.keyed.named
          (λ same. apart key inside (subst (Contains (keys e.tag.conn)) same is_own.keyed.own))
          ∙ ap (λ s. seen_at key (states s)) (sym (eqb-true (shard_of key shards) e.shard is)) ∙ agree key inside
      go false is = agree key inside

-- ---- all entries

-- the replies to the entries of a connection are, apart from uniques, those of one shard on which
-- they alone are made
pub told-alone : (shards count conn : ℕ) (keys : ℕ → List (List ℕ)) → ((other : ℕ) (key : List ℕ) → other < count → Contains (keys conn) key → Contains (keys other) key → conn ≡ other)
    → (states : ℕ → State) (single : State) (es : List Entry) → AllByRecursion (IsEntryOwn shards count keys) es → IsLegalFrom shards states es → AgreeAtKeys shards (keys conn) states single
    → all_told (of_connection conn es) ≡ told_by single (dues_of (of_connection conn es))
told-alone shards count conn keys apart states single [] own legal agree = refl
told-alone shards count conn keys apart states single (e ∷ es) own legal agree = dite (ℕ_discrete e.tag.conn conn)
    (λ is. subst (λ l. all_told l ≡ told_by single (dues_of l)) (sym (of_connection-here conn e es is))
    (let agree_here : AgreeAtKeys shards (keys e.tag.conn) states single = subst (λ c. AgreeAtKeys shards (keys c) states single) (sym is) agree in
    let here : told e.reply ≡ told (reply_to single e.call) = ap told legal.1 ∙ told-same shards count keys states single e own.0 agree_here in
    let with_reply : CallReply → Entry = λ r. record { tag = e.tag; shard = 0; call = e.call; reply = r; stamp = 0 } in
    ap (λ (r : CallReply). with_reply r ∷ all_told (of_connection conn es)) here
    ∙ ap (λ (l : List Entry). with_reply (told (reply_to single e.call)) ∷ l)
    (told-alone shards count conn keys apart (states_after shards states e) (state_after 1 0 single e.call) es own.1 legal.2
    (subst (λ c. AgreeAtKeys shards (keys c) (states_after shards states e) (state_after 1 0 single e.call)) is (Agree-both shards count keys states single e own.0 agree_here)))))
    (λ other. subst (λ l. all_told l ≡ told_by single (dues_of l)) (sym (of_connection-other conn e es other))
    (told-alone shards count conn keys apart (states_after shards states e) single es own.1 legal.2
    (Agree-other shards count keys states single e own.0 (keys conn) (λ key mine its. other (sym (apart e.tag.conn key own.0.within mine its))) agree)))

-- these entries do not depend on the shards of the calls
pub told_by-bare : (single : State) (dues : List Due) → told_by single (map bare dues) ≡ told_by single dues
told_by-bare single [] = refl
told_by-bare single (due ∷ dues) =
    ap (λ (l : List Entry). record { tag = due.tag; shard = 0; call = due.call.call; reply = told (reply_to single due.call.call); stamp = 0 } ∷ l)
    (told_by-bare (state_after 1 0 single due.call.call) dues)
