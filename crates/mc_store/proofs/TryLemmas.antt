-- The steps of a call: a look at the word, the exchange that takes the shard, and the store that gives it back.
use Rattle.std.proofs.Common.{◌≡◌, ◌≢◌, ℕ, ◌+◌, ◌*◌, ◌^◌, ◌<◌, ◌≤◌, List, length, get_or, set, eqb, refl, sym, ap, ◌∙◌, subst, ⊎_elim, arith, length-set, get_or-set_same}
use Rattle.std.specs.Prelude as std
use mathlib.Core.Option.{none, some, some-injective}
use native.Mathlib.Decide.{ℕ_discrete}
use mathlib.Core.Logic.{dite}
use lib.ListN.{get_elem?}
use lib.Seq.{set-get_or}
use prog.Atomic.{either}
use Rattle.atomic_table.specs.Table.{Act, step, stepped, keeps, takes, carried_after, Valid, Allows}
use Rattle.atomic_table.proofs.Lists.{at_set, set_here, set_else, exchanged}
use Rattle.mc_calls.specs.declared.entry.Entry.{Entry}
use Rattle.mc_calls.specs.Order.{at_shard, last_stamp, StampsRise}
use Rattle.zy_table.proofs.PutLemmas.{at_put, put_here}
use Rattle.zy_table.proofs.SumLemmas.{sum_less}
use Rattle.zy_table.proofs.SlotLemmas.{at_below}
use Rattle.mc_shard.specs.Shard.{Kept, kept}
use Rattle.mc_store.specs.declared.store.view.Trace.{Trace}
use Rattle.mc_store.specs.declared.store.view.View.{View}
use Rattle.mc_store.specs.declared.store.view.View.TheVariants.{Spent, Root, Pass}
use Rattle.mc_store.specs.StoreRule.{Place, free, away, word_of, halves, Lies, Knows, StoreRule}
use Rattle.mc_calls.proofs.ReplayLemmas.{counts_calls}
use Rattle.mc_store.specs.Steps.{Seated, traced, loads, exchanges, has_looked, has_tried}
use Rattle.mc_store.proofs.HalfLemmas.{halves_set, halves_at}
use Rattle.mc_store.proofs.MoveLemmas.{St, moved}

-- the step at the word `w`, after which `told` holds of the seat
abbrev pub Goes : St → ℕ → ℕ → Seated → (Seated → Type 0) → ℕ → Type 0
Goes s k id me told w = (v : View) × (a : Act Kept) × Valid s.homes me.1 a × StoreRule (stepped s k w id me.1 v a) × told (v, carried_after me.1 a)

-- the rule does not depend on a trace
knows_traced : (histories : ℕ → List Entry) (places : ℕ → Place) (calls : ℕ → List Entry) (seats : ℕ → ℕ) (n j : ℕ) (f : Trace → Trace) (v : View) → Knows histories places calls seats n j v → Knows histories places calls seats n j (traced f v)
knows_traced histories places calls seats n j f Spent h = h
knows_traced histories places calls seats n j f (Root given joined) h = h
knows_traced histories places calls seats n j f (Pass c mine held t) h = h

retraced : (s : St) (id : ℕ) (v : View) (f : Trace → Trace) → StoreRule s → get_elem? s.views id ≡ some v → StoreRule record { words = s.words; homes = s.homes; views = set s.views id (traced f v) }
retraced s id v f r at = record {
  histories = r.histories;
  places = r.places;
  calls = r.calls;
  seats = r.seats;
  wide = r.wide;
  beyond = r.beyond;
  each_shard = r.each_shard;
  each_connection = r.each_connection;
  each_seat = λ j u e. ⊎_elim
      (λ (x : (j ≡ id) × (traced f v ≡ u)). subst (λ (y : ℕ × View). Knows r.histories r.places r.calls r.seats (length s.homes) y.0 y.1) (λ i. (sym x.0 i, x.1 i)) (knows_traced r.histories r.places r.calls r.seats (length s.homes) id f v (r.each_seat id v at)))
      (λ (x : (j ≢ id) × (get_elem? s.views j ≡ some u)). r.each_seat j u x.1)
      (at_set s.views id j (traced f v) u e);
  live = λ d j e.
      let old = r.live d j e in dite (ℕ_discrete j id)
      (λ is.
      let same : v ≡ Pass d (r.calls d) old.0 old.1 = some-injective _ _ (sym at ∙ ap (get_elem? s.views) (sym is) ∙ old.2) in
      (old.0, f old.1, ap (get_elem? (set s.views id (traced f v))) is ∙ set_here s.views id (traced f v) (at_below s.views id v at) ∙ ap (λ (u : View). some (traced f u)) same))
      (λ ne. (old.0, old.1, set_else s.views id j (traced f v) ne ∙ old.2));
  sums = r.sums;
}

stays : (s : St) (k id : ℕ) (me : Seated) (f : Trace → Trace) (told : Seated → Type 0) → StoreRule s → get_elem? s.views id ≡ some me.0 → told (traced f me.0, me.1) → Goes s k id me told (get_or s.words k 0)
stays s k id me f told r at t = (traced f me.0, keeps, tt, subst StoreRule (λ i. record { words = sym (set-get_or s.words k 0) i; homes = s.homes; views = set s.views id (traced f me.0) }) (retraced s id me.0 f r at), t)

pub looks : (n id k : ℕ) (me : Seated) → Allows StoreRule n id me k (λ y. y) (has_looked (step n k 0 0 none) me)
looks n id k me s r wide at _ = let y : ℕ = get_or s.words k 0 in stays s k id me (loads k y) (λ m. m ≡ (traced (loads k y) me.0, me.1)) r at refl

is_free : (n m : ℕ) (p : Place) → word_of n p ≡ 2 * m → (p ≡ free) × (n ≡ m)
is_free n m free e = (refl, omega arith)
is_free n m (away c) e = absurd (omega arith)

-- the number of all entries
pub few_calls : (s : St) (r : StoreRule s) (c : ℕ) → c < 4096 → length (r.calls c) < 2 ^ 40 → halves s.words < 2 ^ 52
few_calls s r c lt less = let a = sum_less 4096 (2 ^ 40) c (λ d. length (r.calls d)) (λ d. (r.each_connection d).few) lt less in let b = r.sums in omega arith

pub takes_shard : (n id c k m old new : ℕ) (mine : List Entry) (t : Trace) (cs : List (ℕ × Kept)) → old ≡ 2 * m → new ≡ old + 1 → k < n → length mine < 2 ^ 40
    → Allows StoreRule n id (Pass c mine std.None t, cs) k (λ y. either (eqb y old) new y) (has_tried (step n k old new none) (Pass c mine std.None t, cs))
takes_shard n id c k m old new mine t cs even odd near less s r wide at _ =
    let y : ℕ = get_or s.words k 0 in
    let me : Seated = (Pass c mine std.None t, cs) in
    let near' : k < length s.homes = omega arith in
    let told = has_tried (step n k old new none) me in
    let knew = r.each_seat id (Pass c mine std.None t) at in
    let es : List Entry = r.histories k in
    let ok = r.each_shard k near' in
    exchanged y old new (Goes s k id me (told y))
    (λ hit.
    let fr = is_free (length es) m (r.places k) (sym ok.shows ∙ hit ∙ even) in
    let lies : get_elem? s.homes k ≡ some (some (kept k n es)) = subst (λ (m : ℕ). get_elem? s.homes k ≡ some (some (kept k m es))) wide (subst (Lies (length s.homes) s.homes r.seats k es) fr.0 ok.lies) in
    let far = few_calls s r c knew.1 (subst (λ (l : List Entry). length l < 2 ^ 40) (sym knew.2) less) in
    let wide' = r.wide in
    let long : k < length s.words = omega arith in
    let sum = halves_set s.words k new long in
    let at_k = halves_at s.words k in
    let many = counts_calls n k es in
    let conn = r.each_connection c in
    let last_mine : last_stamp 0 mine ≤ halves s.words = subst (λ (l : List Entry). last_stamp 0 l ≤ halves s.words) knew.2 conn.last in
    let last_es : last_stamp 0 es ≤ halves s.words = ok.last in
    let len = fr.1 in
    let same : halves (set s.words k new) ≡ halves s.words = omega arith in (
      Pass c mine (std.Some (k, es)) (exchanges k y t),
      takes k (kept k n es),
      lies,
      moved s r c k es mine (away c) id new t (exchanges k y t) mine std.None (std.Some (k, es)) (set s.homes k none) at near'
          (λ d e. let f = fr.0 in cc)
          (λ d e. cc)
          (length-set s.homes k none) (λ j ne. set_else s.homes k j none ne)
          record {
            shows = get_or-set_same s.words k new 0 long ∙ (omega arith);
            lies = let g : 0 < r.seats c = (let f = knew.0 in omega arith) in g;
            sound = ok.sound;
            last = omega arith;
          }
          (omega arith) (omega arith) (conn.own_at k ∙ ap (at_shard k) knew.2) (λ _ _. refl) (λ _ _. refl) (subst (StampsRise 0) knew.2 conn.rises) (omega arith) (omega arith)
          (near', put_here r.histories k es, put_here r.places k (away c), λ q. at_put r.places k (away c) (λ i z. z ≡ away c → i ≡ k) q (λ _. refl) (λ _ e. absurd (knew.3 q e))),
      ((λ _. (es, even ∙ ap (λ (x : ℕ). 2 * x) (sym len), refl, record { short = omega arith; last = omega arith; count = omega arith; mine_last = omega arith })), λ miss. absurd (miss hit)),
    ))
    (λ miss. stays s k id me (exchanges k y) (told y) r at ((λ hit. absurd (miss hit)), λ _. refl))
