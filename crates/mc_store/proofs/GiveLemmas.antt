-- A shard that a pass has taken is given back, with one more entry or as it was.
use Rattle.std.proofs.Common.{◌≡◌, ℕ, ◌+◌, ◌*◌, ◌^◌, ◌<◌, ◌≤◌, List, [], ◌∷◌, ◌++◌, length, get_or, set, refl, sym, ap, ◌∙◌, subst, arith, length-set, length-append, get_or-set_same}
use Rattle.std.specs.Prelude as std
use mathlib.Core.Option.{some}
use lib.ListN.{get_elem?}
use Rattle.atomic_table.specs.Table.{gives, Allows}
use Rattle.atomic_table.proofs.Lists.{set_here, set_else}
use Rattle.mc_calls.specs.declared.entry.Entry.{Entry}
use Rattle.mc_calls.specs.Order.{of_connection, at_shard, last_stamp, StampsRise}
use Rattle.zy_table.proofs.PutLemmas.{at_put}
use Rattle.mc_calls.specs.History.{IsHistory}
use Rattle.mc_calls.proofs.EntryLemmas.{last_stamp-push, StampsRise-push, of_connection-push, of_connection-push_other, at_shard-push, at_shard-push_other}
use Rattle.mc_shard.specs.Shard.{Kept, kept}
use Rattle.mc_store.specs.declared.store.view.Trace.{Trace}
use Rattle.mc_store.specs.declared.store.view.View.TheVariants.{Pass}
use Rattle.mc_store.specs.StoreRule.{Place, free, away, word_of, halves, StoreRule}
use Rattle.std.proofs.lemmas.List.{append-nil}
use Rattle.std.proofs.Math.Seq.{drop-append_seam, drop-length}
use Rattle.mc_store.specs.Steps.{stores, has_put_back}
use Rattle.mc_store.proofs.HalfLemmas.{halves_set}
use Rattle.mc_store.proofs.MoveLemmas.{moved}

-- an entry that a call on a shard with a history may append
pub record Fits (n c k : ℕ) (es mine : List Entry) (e : Entry) : Type 0 where
  pub conn : e.tag.conn ≡ c
  pub shard : e.shard ≡ k
  pub later : last_stamp 0 mine < e.stamp
  pub next : e.stamp ≤ std.max (last_stamp 0 es) (last_stamp 0 mine) + 1
  pub sound : IsHistory n k (es ++ e ∷ [])

is_away : (n : ℕ) (p : Place) (c w : ℕ) → w ≡ word_of n p → p ≡ away c → w ≡ 2 * n + 1
is_away n p c w e is = e ∙ ap (word_of n) is

-- the shard comes back with one further entry
pub puts_call : (n id c k new : ℕ) (es mine : List Entry) (t : Trace) (e : Entry) (cs : List (ℕ × Kept)) → new ≡ 2 * (length es + 1) → length mine < 2 ^ 40 → Fits n c k es mine e
    → Allows StoreRule n id (Pass c mine (std.Some (k, es)) t, (k, kept k n (es ++ e ∷ [])) ∷ cs) k (λ _. new) (λ _ m. has_put_back (Pass c mine (std.Some (k, es)) t, (k, kept k n (es ++ e ∷ [])) ∷ cs) m)
puts_call n id c k new es mine t e cs is less fits s r wide at _ =
    let es' : List Entry = es ++ e ∷ [] in
    let knew = r.each_seat id (Pass c mine (std.Some (k, es)) t) at in
    let held = knew.3 in
    let near : k < length s.homes = held.0 in
    let wide' = r.wide in
    let long : k < length s.words = omega arith in
    let ok = r.each_shard k near in
    let conn = r.each_connection c in
    let hist : r.histories k ≡ es = held.1 in
    let shows : get_or s.words k 0 ≡ 2 * length es + 1 = is_away (length es) (r.places k) c (get_or s.words k 0) (ok.shows ∙ ap (λ (l : List Entry). word_of (length l) (r.places k)) hist) held.2 in
    let sum = halves_set s.words k new long in
    let more : halves (set s.words k new) ≡ halves s.words + 1 = omega arith in
    let last_es : last_stamp 0 es ≤ halves s.words = subst (λ (l : List Entry). last_stamp 0 l ≤ halves s.words) hist ok.last in
    let last_mine : last_stamp 0 mine ≤ halves s.words = subst (λ (l : List Entry). last_stamp 0 l ≤ halves s.words) knew.2 conn.last in
    let next = fits.next in
    let stamp : e.stamp ≤ halves (set s.words k new) = omega arith in
    let len = length-append mine (e ∷ []) in
    let len' = length-append es (e ∷ []) in
    let own_now : of_connection c es ≡ at_shard k mine = ap (of_connection c) (sym hist) ∙ conn.own_at k ∙ ap (at_shard k) knew.2 in (
      Pass c (mine ++ e ∷ []) std.None (stores t),
      gives,
      tt,
      moved s r c k es' (mine ++ e ∷ []) free id new t (stores t) mine (std.Some (k, es)) std.None (set s.homes k (some (kept k n es'))) at near
          (λ d f. let g = held.2 in cc)
          (λ d f. cc)
          (length-set s.homes k (some (kept k n es'))) (λ j ne. set_else s.homes k j (some (kept k n es')) ne)
          record {
            shows = get_or-set_same s.words k new 0 long ∙ is ∙ (omega arith);
            lies = subst (λ (m : ℕ). get_elem? (set s.homes k (some (kept k n es'))) k ≡ some (some (kept k m es'))) (sym wide) (set_here s.homes k (some (kept k n es')) near);
            sound = subst (λ (m : ℕ). IsHistory m k es') (sym wide) fits.sound;
            last = subst (λ (a : ℕ). a ≤ halves (set s.words k new)) (sym (last_stamp-push 0 es e)) stamp;
          }
          (omega arith) (omega arith)
          (of_connection-push c es e fits.conn ∙ ap (λ l. l ++ e ∷ []) own_now ∙ sym (at_shard-push k mine e fits.shard))
          (λ d ne. of_connection-push_other d es e (λ f. ne (sym f ∙ fits.conn)) ∙ ap (of_connection d) (sym hist))
          (λ j ne. at_shard-push_other j mine e (λ f. ne (sym f ∙ fits.shard)))
          (StampsRise-push 0 mine e (subst (StampsRise 0) knew.2 conn.rises) fits.later)
          (subst (λ (a : ℕ). a ≤ halves (set s.words k new)) (sym (last_stamp-push 0 mine e)) stamp)
          (omega arith)
          (λ q. at_put r.places k free (λ i z. z ≡ away c → ⊥) q (λ f. cc) (λ ne f. ne (held.3 q f))),
      (λ i. (Pass c (mine ++ sym (drop-append_seam es (e ∷ [])) i) std.None (stores t), cs)),
    )

-- the shard comes back as it was
pub puts_none : (n id c k new : ℕ) (es mine : List Entry) (t : Trace) (cs : List (ℕ × Kept)) → new ≡ 2 * length es
    → Allows StoreRule n id (Pass c mine (std.Some (k, es)) t, (k, kept k n es) ∷ cs) k (λ _. new) (λ _ m. has_put_back (Pass c mine (std.Some (k, es)) t, (k, kept k n es) ∷ cs) m)
puts_none n id c k new es mine t cs is s r wide at _ =
    let knew = r.each_seat id (Pass c mine (std.Some (k, es)) t) at in
    let held = knew.3 in
    let near : k < length s.homes = held.0 in
    let wide' = r.wide in
    let long : k < length s.words = omega arith in
    let ok = r.each_shard k near in
    let conn = r.each_connection c in
    let hist : r.histories k ≡ es = held.1 in
    let shows : get_or s.words k 0 ≡ 2 * length es + 1 = is_away (length es) (r.places k) c (get_or s.words k 0) (ok.shows ∙ ap (λ (l : List Entry). word_of (length l) (r.places k)) hist) held.2 in
    let sum = halves_set s.words k new long in
    let same : halves (set s.words k new) ≡ halves s.words = omega arith in
    let last_es : last_stamp 0 es ≤ halves s.words = subst (λ (l : List Entry). last_stamp 0 l ≤ halves s.words) hist ok.last in
    let last_mine : last_stamp 0 mine ≤ halves s.words = subst (λ (l : List Entry). last_stamp 0 l ≤ halves s.words) knew.2 conn.last in (
      Pass c mine std.None (stores t),
      gives,
      tt,
      moved s r c k es mine free id new t (stores t) mine (std.Some (k, es)) std.None (set s.homes k (some (kept k n es))) at near
          (λ d f. let g = held.2 in cc)
          (λ d f. cc)
          (length-set s.homes k (some (kept k n es))) (λ j ne. set_else s.homes k j (some (kept k n es)) ne)
          record {
            shows = get_or-set_same s.words k new 0 long ∙ is;
            lies = subst (λ (m : ℕ). get_elem? (set s.homes k (some (kept k n es))) k ≡ some (some (kept k m es))) (sym wide) (set_here s.homes k (some (kept k n es)) near);
            sound = subst (IsHistory (length s.homes) k) hist ok.sound;
            last = omega arith;
          }
          (omega arith) (omega arith)
          (ap (of_connection c) (sym hist) ∙ conn.own_at k ∙ ap (at_shard k) knew.2)
          (λ d ne. ap (of_connection d) (sym hist))
          (λ j ne. refl)
          (subst (StampsRise 0) knew.2 conn.rises)
          (omega arith)
          (subst (λ (l : List Entry). length l ≤ 2 ^ 40) knew.2 conn.few)
          (λ q. at_put r.places k free (λ i z. z ≡ away c → ⊥) q (λ f. cc) (λ ne f. ne (held.3 q f))),
      (λ i. (Pass c ((sym (append-nil mine) ∙ ap (λ l. mine ++ l) (sym (drop-length es))) i) std.None (stores t), cs)),
    )
