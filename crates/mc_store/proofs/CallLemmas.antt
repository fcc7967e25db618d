-- The lemmas on a call, stated at the values that the code has.
use Rattle.std.proofs.Common.{◌≡◌, ℕ, ◌+◌, ◌/◌, ◌%◌, ◌^◌, ◌<◌, List, [], ◌∷◌, ◌++◌, length, eqb, refl, sym, ap, ◌∙◌, subst, arith, length-append}
use Rattle.std.specs.Prelude as std
use mathlib.Core.Option.{none}
use prog.Atomic.{either}
use Rattle.atomic_table.specs.Table.{step, Allows, rest}
use Rattle.mc_calls.specs.declared.entry.Entry.{Entry}
use Rattle.mc_calls.specs.Order.{last_stamp}
use Rattle.mc_calls.specs.History.{IsHistory}
use Rattle.mc_calls.proofs.EntryLemmas.{last_stamp-push}
use Rattle.mc_shard.specs.Shard.{Kept, kept}
use Rattle.mc_store.specs.declared.store.view.Trace.{Trace}
use Rattle.mc_store.specs.declared.store.view.View.{View}
use Rattle.mc_store.specs.declared.store.view.View.TheVariants.{Pass}
use Rattle.mc_store.specs.StoreRule.{StoreRule}
use Rattle.mc_shard.specs.Shard.{with_entry}
use Rattle.mc_store.specs.View.{mine_of, trace_of, passing, IsPass, calls_in, trace_in}
use Rattle.mc_store.specs.Steps.{Seated, has_tried, HasTaken, has_put_back, mine_at, trace_at}
use Rattle.mc_store.proofs.TryLemmas.{takes_shard}
use Rattle.mc_store.proofs.GiveLemmas.{Fits, puts_call, puts_none}

-- the first shard in a hand
first_or : Kept → List (ℕ × Kept) → Kept
first_or d [] = d
first_or d (x ∷ xs) = x.1

-- the shard that was taken out of the slot
taken_is : (c k n even : ℕ) (me : Seated) (sh : Kept) (t : HasTaken c k n even me) → me.1 ≡ (k, sh) ∷ rest me.1 → sh ≡ kept k n t.0
unfolding first_or
taken_is c k n even me sh t is = sym (ap (first_or sh) is) ∙ ap (λ (m : Seated). first_or sh m.1) t.2

-- the pass with another shard in its hand
handed : (c k n even : ℕ) (me me' : Seated) (sh : Kept) (t : HasTaken c k n even me) → me' ≡ (me.0, (k, sh) ∷ rest me.1) → me' ≡ (Pass c (mine_at me) (std.Some (k, t.0)) (trace_at me), (k, sh) ∷ [])
handed c k n even me me' sh t is = is ∙ ap (λ (m : Seated). (m.0, (k, sh) ∷ rest m.1)) t.2

-- the shard comes back with one further entry
pub puts_call_as : (n id c k even seen : ℕ) (me me' : Seated) (sh sh' : Kept) (e : Entry) → HasTaken c k n even me → me.1 ≡ (k, sh) ∷ rest me.1 → me' ≡ (me.0, (k, sh') ∷ rest me.1)
    → sh' ≡ with_entry sh e → e.tag.conn ≡ c → e.shard ≡ sh.number → e.stamp ≡ std.max (last_stamp 0 sh.history) seen + 1 → seen ≡ last_stamp 0 (mine_at me) → IsHistory sh'.shards sh'.number sh'.history → length (mine_at me) < 2 ^ 40
    → Allows StoreRule n id me' k (λ _. even + 2) (λ _ m. has_put_back me' m)
puts_call_as n id c k even seen me me' sh sh' e t has is after conn shard stamp seen_is sound less =
    let es : List Entry = t.0 in
    let was = taken_is c k n even me sh t has in
    let now : sh' ≡ kept k n (es ++ e ∷ []) = after ∙ ap (λ (x : Kept). with_entry x e) was in
    let hand = handed c k n even me me' sh' t is ∙ ap (λ (x : Kept). (Pass c (mine_at me) (std.Some (k, es)) (trace_at me), (k, x) ∷ [])) now in
    let last = ap (λ (x : Kept). last_stamp 0 x.history) was in
    let fits : Fits n c k es (mine_at me) e = record {
      conn = conn;
      shard = shard ∙ ap (λ (x : Kept). x.number) was;
      later = omega arith;
      next = omega arith;
      sound = subst (λ (x : Kept). IsHistory x.shards x.number x.history) now sound;
    } in
    let even_is = t.1 in
    subst (λ (m : Seated). Allows StoreRule n id m k (λ _. even + 2) (λ _ w. has_put_back m w)) (sym hand) (puts_call n id c k (even + 2) es (mine_at me) (trace_at me) e [] (omega arith) less fits)

-- the shard comes back as it was
pub puts_none_as : (n id c k even : ℕ) (me me' : Seated) (sh sh' : Kept) → HasTaken c k n even me → me.1 ≡ (k, sh) ∷ rest me.1 → me' ≡ (me.0, (k, sh') ∷ rest me.1) → sh' ≡ sh
    → Allows StoreRule n id me' k (λ _. even) (λ _ m. has_put_back me' m)
puts_none_as n id c k even me me' sh sh' t has is after =
    let es : List Entry = t.0 in
    let now : sh' ≡ kept k n es = after ∙ taken_is c k n even me sh t has in
    let hand = handed c k n even me me' sh' t is ∙ ap (λ (x : Kept). (Pass c (mine_at me) (std.Some (k, es)) (trace_at me), (k, x) ∷ [])) now in
    subst (λ (m : Seated). Allows StoreRule n id m k (λ _. even) (λ _ w. has_put_back m w)) (sym hand) (puts_none n id c k even es (mine_at me) (trace_at me) [] t.1)

-- the exchange at the word of a shard, by a pass that has taken none
pub takes_as : (n id c k old : ℕ) (mine : List Entry) (tr : Trace) (me : Seated) → me ≡ (passing c mine tr, []) → ¬ (old % 2 ≡ 1) → k < n → length mine < 2 ^ 40
    → Allows StoreRule n id me k (λ y. either (eqb y old) (old + 1) y) (has_tried (step n k old (old + 1) none) me)
takes_as n id c k old mine tr me is even near less =
    subst (λ (m : Seated). Allows StoreRule n id m k (λ y. either (eqb y old) (old + 1) y) (has_tried (step n k old (old + 1) none) m)) (sym is) (takes_shard n id c k (old / 2) old (old + 1) mine tr [] (omega arith) refl near less)

-- the pass after a call
pub held_after : (conn count last : ℕ) (views views' : List View) (named : ℕ) (v w : View) (e : Entry) → IsPass conn count last views → views ≡ v ∷ [] → views' ≡ w ∷ [] → named ≡ conn → w ≡ passing named (mine_of w) (trace_of w)
    → mine_of w ≡ mine_of v ++ e ∷ [] → IsPass conn (count + 1) e.stamp views'
held_after conn count last views views' named v w e h was now same idle grown = record {
  is = now ∙ ap (λ (x : View). x ∷ []) (idle ∙ ap (λ (c : ℕ). passing c (mine_of w) (trace_of w)) same ∙ ap (λ (l : List View). passing conn (calls_in l) (trace_in l)) (sym now));
  count_is = let a = length-append (mine_of v) (e ∷ []) in let b = ap length grown in let f = ap (λ (l : List View). length (calls_in l)) was in let g = ap (λ (l : List View). length (calls_in l)) now in let n = h.count_is in omega arith;
  last_is = sym (ap (λ (l : List View). last_stamp 0 (calls_in l)) now ∙ ap (last_stamp 0) grown ∙ last_stamp-push 0 (mine_of v) e);
}
