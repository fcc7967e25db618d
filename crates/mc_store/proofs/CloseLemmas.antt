-- What is known of the shards once every pass was joined.
use Rattle.std.proofs.Common.{◌≡◌, ℕ, zero, suc, ◌^◌, ◌<◌, ◌≤◌, List, [], ◌∷◌, length, Bool, true, false, refl, sym, ap, ◌∙◌, subst, arith}
use mathlib.Core.Option.{Option, some, some-injective, some-ne-none}
use native.Mathlib.Decide.{dec_lt}
use mathlib.Core.Logic.{dite}
use lib.ListN.{get_elem?}
use Rattle.mc_calls.specs.declared.entry.Entry.{Entry}
use Rattle.mc_calls.specs.Order.{of_connection, at_shard, last_stamp, StampsRise}
use Rattle.zy_table.specs.Member.{is_in}
use Rattle.zy_table.proofs.SumLemmas.{sum_bound}
use Rattle.mc_calls.specs.History.{IsHistory}
use Rattle.mc_shard.specs.Shard.{Kept, kept}
use Rattle.mc_store.specs.declared.store.view.View.{View}
use Rattle.mc_store.specs.declared.store.view.View.TheVariants.{Root}
use Rattle.mc_store.specs.Joined.{Joined, is_joined, calls_of}
use Rattle.mc_store.specs.StoreRule.{Place, free, away, halves, Lies, StoreRule}
use Rattle.std.specs.Prelude.{◌&&◌, not}
use Rattle.std.proofs.Common.{map}
use Rattle.atomic_table.specs.Table.{Final, Seen}
use Rattle.mc_calls.specs.Order.{AreStampsBelow, history_of}
use Rattle.mc_calls.proofs.EntryLemmas.{AreStampsBelow-last}
use Rattle.mc_calls.proofs.MergeLemmas.{history_of-past}
use Rattle.mc_store.specs.View.{IsRoot, given_in, joined_in}
use Rattle.mc_store.specs.Closing.{AreClosed, history_in}
use Rattle.mc_store.proofs.MoveLemmas.{St}
use Rattle.mc_store.proofs.PassLemmas.{root_is}

-- while no pass is out, a shard is in its slot
free_all : (m : ℕ) (homes : List (Option Kept)) (seats : ℕ → ℕ) (k : ℕ) (es : List Entry) (p : Place) → ((c : ℕ) → seats c ≡ 0) → Lies m homes seats k es p → get_elem? homes k ≡ some (some (kept k m es))
free_all m homes seats k es free gone h = h
free_all m homes seats k es (away c) gone h = let g = gone c in absurd (omega arith)

-- once each pass that was given was joined, none is out
none_out : (a b : Bool) → (a ≡ true → b ≡ true) → (a && not b) ≡ false
none_out true true h = refl
none_out true false h = let f = h refl in cc
none_out false b h = refl

-- stamps are at most the number of all calls
all_calls : (s : St) (r : StoreRule s) (es : List Entry) → last_stamp 0 es ≤ halves s.words → last_stamp 0 es ≤ 2 ^ 52
all_calls s r es le = let a = sum_bound 4096 (2 ^ 40) (λ d. length (r.calls d)) (λ d. (r.each_connection d).few) in let b = r.sums in omega arith

-- the history of a shard, among all
history_at : (xs : List Kept) (k : ℕ) (x : Kept) → get_elem? xs k ≡ some x → history_of (map history_in xs) k ≡ x.history
history_at [] k x e = absurd (some-ne-none x (sym e))
history_at (y ∷ ys) zero x e = ap history_in (some-injective y x e)
history_at (y ∷ ys) (suc k) x e = history_at ys k x e

-- there is a history for each shard
length-histories : (xs : List Kept) → length (map history_in xs) ≡ length xs
length-histories [] = refl
length-histories (x ∷ xs) = ap suc (length-histories xs)

-- no call was made on a shard that does not exist
no_history : (n k : ℕ) → IsHistory n k []
no_history n k = record { replay = tt; place = tt; stamps = tt; fits = tt }

-- every pass was joined, so every shard is free, and the histories are as the rule says
pub closes : (ws : List ℕ) (xs : List Kept) (id : ℕ) (given : List ℕ) (joined : Joined) → ((c : ℕ) → is_in c given ≡ true → is_joined c joined ≡ true)
    → Final (Seen StoreRule id (Root given joined)) ws xs → AreClosed (length xs) joined (map history_in xs)
closes ws xs id given joined all (s, seen, words, long, final) =
    let r : StoreRule s = seen.0 in
    let knew = r.each_seat id (Root given joined) seen.1 in
    let done : (c : ℕ) → (r.seats c ≡ 0) × (r.calls c ≡ calls_of c joined) = λ c. knew.1 c (none_out (is_in c given) (is_joined c joined) (all c)) in
    let same : (k : ℕ) → history_of (map history_in xs) k ≡ r.histories k = λ k. dite (dec_lt k (length s.homes))
    (λ near.
    let ok = r.each_shard k near in
    history_at xs k (kept k (length s.homes) (r.histories k)) (final k (kept k (length s.homes) (r.histories k)) (free_all (length s.homes) s.homes r.seats k (r.histories k) (r.places k) (λ c. (done c).0) ok.lies)))
    (λ far. let many = length-histories xs in history_of-past (map history_in xs) k (omega arith) ∙ sym (r.beyond k (omega arith)).0) in
    let sound : (k : ℕ) → IsHistory (length xs) k (r.histories k) = λ k. dite (dec_lt k (length s.homes))
    (λ near. subst (λ (m : ℕ). IsHistory m k (r.histories k)) long (r.each_shard k near).sound)
    (λ far. subst (IsHistory (length xs) k) (sym (r.beyond k (omega arith)).0) (no_history (length xs) k)) in
    let low : (k : ℕ) → last_stamp 0 (r.histories k) < 2 ^ 60 = λ k. dite (dec_lt k (length s.homes))
    (λ near. let few = all_calls s r (r.histories k) (r.each_shard k near).last in omega arith)
    (λ far. subst (λ (es : List Entry). last_stamp 0 es < 2 ^ 60) (sym (r.beyond k (omega arith)).0) (omega arith)) in record {
      sound = record {
        count = length-histories xs;
        each = λ k. subst (IsHistory (length xs) k) (sym (same k)) (sound k);
        limit = λ k. subst (AreStampsBelow (2 ^ 60)) (sym (same k)) (AreStampsBelow-last 0 (2 ^ 60) (r.histories k) (sound k).stamps (low k));
      };
      calls = λ c k. ap (of_connection c) (same k) ∙ (r.each_connection c).own_at k ∙ ap (at_shard k) (done c).1;
      rise = λ c. subst (StampsRise 0) (done c).1 (r.each_connection c).rises;
    }

-- the same, stated at the values that the code has
pub closes_as : (n id : ℕ) (ws : List ℕ) (xs : List Kept) (ys : List (List Entry)) (views : List View) (v : View) (given : List ℕ) (joined : Joined) → IsRoot views → views ≡ v ∷ [] → given_in views ≡ given → joined_in views ≡ joined
    → ((c : ℕ) → is_in c given ≡ true → is_joined c joined ≡ true) → Final (Seen StoreRule id v) ws xs → length xs ≡ n → ys ≡ map history_in xs → AreClosed n joined ys
closes_as n id ws xs ys views v given joined is one same_given same_joined all final long whole =
    let is_v : v ≡ Root given joined = root_is views v is one ∙ (λ i. Root (same_given i) (same_joined i)) in
    let end = closes ws xs id given joined all (subst (λ (u : View). Final (Seen StoreRule id u) ws xs) is_v final) in
    subst (AreClosed n joined) (sym whole) (subst (λ (m : ℕ). AreClosed m joined (map history_in xs)) long end)
