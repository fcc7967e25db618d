-- The parts of the store's rule that stay when the pass of one connection makes a step at one shard.
use Rattle.std.proofs.Common.{◌≡◌, ◌≢◌, ℕ, suc, ◌+◌, ◌^◌, ◌<◌, ◌≤◌, List, length, set, sym, ap, ◌∙◌, subst, ⊎_elim, le_trans, arith, length-set, get_or-set_other}
use Rattle.std.specs.Prelude as std
use mathlib.Core.Option.{Option, some}
use native.Mathlib.Decide.{ℕ_discrete}
use mathlib.Core.Logic.{dite}
use lib.ListN.{get_elem?}
use Rattle.atomic_table.specs.Table.{State}
use Rattle.atomic_table.proofs.Lists.{at_set, set_here, set_else}
use Rattle.mc_calls.specs.declared.entry.Entry.{Entry}
use Rattle.mc_calls.specs.Order.{of_connection, at_shard, last_stamp, StampsRise}
use Rattle.zy_table.specs.Put.{put}
use Rattle.zy_table.proofs.PutLemmas.{at_put, put_here, put_else, at_both}
use Rattle.zy_table.proofs.SumLemmas.{sum_changed}
use Rattle.zy_table.proofs.SlotLemmas.{at_below, places_apart}
use Rattle.mc_shard.specs.Shard.{Kept}
use Rattle.mc_store.specs.declared.store.view.Trace.{Trace}
use Rattle.mc_store.specs.declared.store.view.View.{View}
use Rattle.mc_store.specs.declared.store.view.View.TheVariants.{Spent, Root, Pass}
use Rattle.mc_store.specs.StoreRule.{Place, free, away, halves, Lies, ShardIs, ConnectionIs, Holds, Knows, StoreRule}

abbrev pub St : Type 0
St = State Kept View

lies_else : (n : ℕ) (homes homes' : List (Option Kept)) (seats : ℕ → ℕ) (k : ℕ) (es : List Entry) (p : Place) → get_elem? homes' k ≡ get_elem? homes k → Lies n homes seats k es p → Lies n homes' seats k es p
lies_else n homes homes' seats k es free e h = e ∙ h
lies_else n homes homes' seats k es (away c) e h = h

-- A step of the pass of `c` at shard `k`. The history and the place of that shard and the calls of
-- that pass change, and no others
module _ (s : St) (r : StoreRule s) (c k : ℕ) (es' mine' : List Entry) (p' : Place) where
  abbrev Others : Type 0
  Others = (d : ℕ) → r.places k ≡ away d → d ≡ c

  holds_else : Others → (n d : ℕ) (held : std.Option (ℕ × List Entry)) → d ≢ c → ((d : ℕ) → p' ≡ away d → d ≡ c) → Holds r.histories r.places n d held → Holds (put r.histories k es') (put r.places k p') n d held
  holds_else only n d std.None ne own' h = λ q. at_put r.places k p' (λ i z. z ≡ away d → ⊥) q (λ e. ne (own' d e)) (λ _. h q)
  holds_else only n d (std.Some y) ne own' h =
      let apart : y.0 ≢ k = λ e. ne (only d (ap r.places (sym e) ∙ h.2)) in (
        h.0,
        put_else r.histories k es' y.0 apart ∙ h.1,
        put_else r.places k p' y.0 apart ∙ h.2,
        λ q. at_put r.places k p' (λ i z. z ≡ away d → i ≡ y.0) q (λ e. absurd (ne (own' d e))) (λ _. h.3 q),
      )

  knows_else : Others → ((d : ℕ) → p' ≡ away d → d ≡ c) → (n id j : ℕ) (v : View) → r.seats c ≡ suc id → j ≢ id → Knows r.histories r.places r.calls r.seats n j v
      → Knows (put r.histories k es') (put r.places k p') (put r.calls c mine') r.seats n j v
  knows_else only own' n id j Spent seat ne h = tt
  knows_else only own' n id j (Root given joined) seat ne h =
      (h.0, (λ d out. let x = h.1 d out in (x.0, put_else r.calls c mine' d (λ e. let f = ap r.seats e in omega arith) ∙ x.1)), h.2)
  knows_else only own' n id j (Pass d m held t) seat ne h =
      let apart : d ≢ c = λ e. let f = ap r.seats e in let g = h.0 in ne (omega arith) in
      (h.0, h.1, put_else r.calls c mine' d apart ∙ h.2, holds_else only n d held apart own' h.3)

  pub moved : (id w : ℕ) (t t' : Trace) (mine : List Entry) (held held' : std.Option (ℕ × List Entry)) (homes' : List (Option Kept)) → get_elem? s.views id ≡ some (Pass c mine held t) → k < length s.homes → Others → ((d : ℕ) → p' ≡ away d → d ≡ c)
      → length homes' ≡ length s.homes → ((j : ℕ) → j ≢ k → get_elem? homes' j ≡ get_elem? s.homes j)
      → ShardIs (length s.homes) (set s.words k w) homes' r.seats k es' p'
      → halves (set s.words k w) + length mine ≡ halves s.words + length mine' → length mine ≤ length mine'
      → of_connection c es' ≡ at_shard k mine' → ((d : ℕ) → d ≢ c → of_connection d es' ≡ of_connection d (r.histories k)) → ((j : ℕ) → j ≢ k → at_shard j mine' ≡ at_shard j mine)
      → StampsRise 0 mine' → last_stamp 0 mine' ≤ halves (set s.words k w) → length mine' ≤ 2 ^ 40
      → Holds (put r.histories k es') (put r.places k p') (length s.homes) c held'
      → StoreRule record { words = set s.words k w; homes = homes'; views = set s.views id (Pass c mine' held' t') }
  moved id w t t' mine held held' homes' at near only own' long home shard sum grows here others elsewhere rises last few mineheld =
      let knew = r.each_seat id (Pass c mine held t) at in
      let total : ℕ = halves s.words in
      let total' : ℕ = halves (set s.words k w) in
      let more : total ≤ total' = omega arith in
      let wide = r.wide in record {
        histories = put r.histories k es';
        places = put r.places k p';
        calls = put r.calls c mine';
        seats = r.seats;
        wide = length-set s.words k w ∙ wide ∙ sym long;
        beyond = λ q le. let ne : q ≢ k = λ e. omega arith in let b = r.beyond q (omega arith) in (put_else r.histories k es' q ne ∙ b.0, put_else r.places k p' q ne ∙ b.1);
        each_shard = λ q lt. subst (λ (n : ℕ). ShardIs n (set s.words k w) homes' r.seats q (put r.histories k es' q) (put r.places k p' q)) (sym long)
            (at_both r.histories r.places k es' p' (λ i es p. ShardIs (length s.homes) (set s.words k w) homes' r.seats i es p) q shard
            (λ ne. let old = r.each_shard q (omega arith) in record {
              shows = get_or-set_other s.words k q w 0 ne ∙ old.shows;
              lies = lies_else (length s.homes) s.homes homes' r.seats q (r.histories q) (r.places q) (home q ne) old.lies;
              sound = old.sound;
              last = le_trans old.last more;
            }));
        each_connection = λ d. at_put r.calls c mine' (λ i m. ConnectionIs total' (put r.histories k es') i m) d
            record {
              own_at = λ q. at_put r.histories k es' (λ i es. of_connection c es ≡ at_shard i mine') q here (λ ne. (r.each_connection c).own_at q ∙ ap (at_shard q) knew.2 ∙ sym (elsewhere q ne));
              rises = rises;
              last = last;
              few = few;
            }
            (λ ne. let old = r.each_connection d in record {
              own_at = λ q. at_put r.histories k es' (λ i es. of_connection d es ≡ at_shard i (r.calls d)) q (others d ne ∙ old.own_at k) (λ _. old.own_at q);
              rises = old.rises;
              last = le_trans old.last more;
              few = old.few;
            });
        each_seat = λ j v e. ⊎_elim
            (λ (x : (j ≡ id) × (Pass c mine' held' t' ≡ v)). subst (λ (y : ℕ × View). Knows (put r.histories k es') (put r.places k p') (put r.calls c mine') r.seats (length homes') y.0 y.1) (λ i. (sym x.0 i, x.1 i))
            (knew.0, knew.1, put_here r.calls c mine', subst (λ (n : ℕ). Holds (put r.histories k es') (put r.places k p') n c held') (sym long) mineheld))
            (λ (x : (j ≢ id) × (get_elem? s.views j ≡ some v)). knows_else only own' (length homes') id j v knew.0 x.0 (subst (λ (n : ℕ). Knows r.histories r.places r.calls r.seats n j v) (sym long) (r.each_seat j v x.1)))
            (at_set s.views id j (Pass c mine' held' t') v e);
        live = λ d j e. dite (ℕ_discrete d c)
            (λ is.
            let f = ap r.seats is in
            let g = knew.0 in
            let here : j ≡ id = omega arith in (
              held',
              t',
              ap (get_elem? (set s.views id (Pass c mine' held' t'))) here ∙ set_here s.views id (Pass c mine' held' t') (at_below s.views id (Pass c mine held t) at) ∙ ap (λ (m : List Entry). some (Pass c m held' t')) (sym (put_here r.calls c mine'))
                  ∙ ap (λ (x : ℕ). some (Pass x (put r.calls c mine' x) held' t')) (sym is),
            ))
            (λ ne.
            let old = r.live d j e in
            let apart : j ≢ id = places_apart s.views id j (Pass c mine held t) (Pass d (r.calls d) old.0 old.1) at old.2 (λ same. ne (cc)) in
            (old.0, old.1, set_else s.views id j (Pass c mine' held' t') apart ∙ old.2 ∙ ap (λ (m : List Entry). some (Pass d m old.0 old.1)) (sym (put_else r.calls c mine' d ne))));
        sums =
            let a = sum_changed 4096 c (λ d. length (r.calls d)) (λ d. length (put r.calls c mine' d)) knew.1 (λ j ne. ap length (put_else r.calls c mine' j ne)) in
            let b = ap length (put_here r.calls c mine') in
            let d = ap length knew.2 in
            let e = r.sums in
            omega arith;
      }
