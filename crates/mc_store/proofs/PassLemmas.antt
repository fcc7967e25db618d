-- The root gives a pass, and takes it back.
use Rattle.std.proofs.Common.{◌≡◌, ◌≢◌, ℕ, suc, ◌<◌, List, [], ◌∷◌, length, set, Bool, true, false, refl, sym, ap, ◌∙◌, subst, ⊎_elim, arith, length-set}
use Rattle.std.specs.Prelude as std
use mathlib.Core.Option.{Option, some}
use native.Mathlib.Decide.{ℕ_discrete, dec_lt}
use mathlib.Core.Logic.{dite}
use lib.ListN.{get_elem?}
use Rattle.atomic_table.specs.Table.{rest}
use Rattle.atomic_table.proofs.Lists.{at_set, set_else, at_longer, at_last}
use Rattle.mc_calls.specs.declared.entry.Entry.{Entry}
use Rattle.zy_table.specs.Put.{put}
use Rattle.zy_table.specs.Member.{is_in}
use Rattle.zy_table.proofs.PutLemmas.{put_here, put_else}
use Rattle.zy_table.proofs.SlotLemmas.{places_apart, at_end}
use Rattle.mc_shard.specs.Shard.{Kept}
use Rattle.mc_store.specs.declared.store.view.Trace.{Trace}
use Rattle.mc_store.specs.declared.store.view.View.{View}
use Rattle.mc_store.specs.declared.store.view.View.TheVariants.{Spent, Root, Pass}
use Rattle.mc_store.specs.Joined.{Joined, is_joined, is_out, calls_of}
use Rattle.mc_store.specs.StoreRule.{Place, free, away, Lies, Knows, StoreRule}
use Rattle.std.specs.Prelude.{◌||◌, ◌&&◌, not, ◌==◌, replicate, slice_get, unwrap_or, Some}
use Rattle.std.proofs.Common.{eq-eqb, ne_eqb, cond}
use Rattle.atomic_table.specs.Table.{Splits, Joins}
use Rattle.mc_store.specs.View.{untraced, passing, IsRoot, given_in, joined_in, calls_in, trace_in}
use Rattle.mc_store.specs.Steps.{gave, newcomer, taken_in}
use Rattle.mc_store.proofs.MoveLemmas.{St}

-- a connection whose pass was not joined has no calls
not_joined : (c : ℕ) (joined : Joined) → is_joined c joined ≡ false → calls_of c joined ≡ []
not_joined c [] h = refl
not_joined c (x ∷ xs) h = go (c == x.0) h (not_joined c xs)
  where
    go : (b : Bool) → (b || is_joined c xs) ≡ false → (is_joined c xs ≡ false → calls_of c xs ≡ []) → cond b x.1 (calls_of c xs) ≡ []
    go true e rest = cc
    go false e rest = rest e

-- a connection whose pass was not given is neither out nor joined
not_out : (c : ℕ) (given : List ℕ) (joined : Joined) → is_in c given ≡ false → is_out c given joined ≡ false
not_out c given joined h = ap (λ b. b && not (is_joined c joined)) h

-- a shard stays in its place when another connection's seat changes
lies_put : (m : ℕ) (homes : List (Option Kept)) (seats : ℕ → ℕ) (c n k : ℕ) (es : List Entry) (p : Place) → ((d : ℕ) → p ≡ away d → d ≢ c) → Lies m homes seats k es p → Lies m homes (put seats c n) k es p
lies_put m homes seats c n k es free ne h = h
lies_put m homes seats c n k es (away d) ne h = subst (λ (m : ℕ). 0 < m) (sym (put_else seats c n d (ne d refl))) h

-- a shard is with no connection whose pass is not out
nobody : (m : ℕ) (homes : List (Option Kept)) (seats : ℕ → ℕ) (k : ℕ) (es : List Entry) (c : ℕ) (p : Place) → seats c ≡ 0 → Lies m homes seats k es p → p ≡ away c → ⊥
nobody m homes seats k es c free gone h e = cc
nobody m homes seats k es c (away d) gone h e = let is : d ≡ c = cc in let f = ap seats is in omega arith

module _ (s : St) (r : StoreRule s) where
  -- no shard is with a connection that has no pass
  all_home : (c : ℕ) → r.seats c ≡ 0 → (k : ℕ) → r.places k ≡ away c → ⊥
  all_home c gone k = dite (dec_lt k (length s.homes))
      (λ near. nobody (length s.homes) s.homes r.seats k (r.histories k) c (r.places k) gone (r.each_shard k near).lies)
      (λ far e. let b = (r.beyond k (omega arith)).1 in cc)

  -- the seats of others
  seated : (c n j : ℕ) (v : View) → j ≢ 0 → r.seats c ≢ suc j → Knows r.histories r.places r.calls r.seats (length s.homes) j v → Knows r.histories r.places r.calls (put r.seats c n) (length s.homes) j v
  seated c n j Spent other ne h = tt
  seated c n j (Root given joined) other ne h = absurd (other h.0)
  seated c n j (Pass d mine held t) other ne h = (put_else r.seats c n d (λ e. ne (sym (ap r.seats e) ∙ h.0)) ∙ h.0, h.1, h.2, h.3)

-- what is neither of two is not the second
or_right : (a b : Bool) → (a || b) ≡ false → b ≡ false
or_right true b e = cc
or_right false b e = e

-- a pass that was given and is not out was joined
out_there : (a b : Bool) → (a && not b) ≡ false → a ≡ true → b ≡ true
out_there true true e h = refl
out_there true false e h = cc
out_there false b e h = cc

-- the pass of `c` was now given, so it is out unless it was joined
is_fresh : (c : ℕ) (given : List ℕ) (joined : Joined) → is_joined c joined ≡ false → is_out c (c ∷ given) joined ≡ false → ⊥
is_fresh c given joined new out = let a = out_there (is_in c (c ∷ given)) (is_joined c joined) out (ap (λ b. b || is_in c given) (eq-eqb c c refl)) in cc

-- the root gives a pass to a connection that had none
pub splits : (id c : ℕ) (given : List ℕ) (joined : Joined) → is_in c given ≡ false → c < 4096 → Splits StoreRule id (Root given joined) (gave c (Root given joined)) (newcomer c (Root given joined))
splits id c given joined fresh small s r at =
    let end : ℕ = length s.views in
    let knew = r.each_seat id (Root given joined) at in
    let mine = knew.1 c (not_out c given joined fresh) in
    let new = knew.2 c fresh in
    let left : View = Root (c ∷ given) joined in
    let seats : ℕ → ℕ = put r.seats c (suc end) in
    let root : Knows r.histories r.places r.calls seats (length s.homes) id left = (
      knew.0,
      (λ d out. dite (ℕ_discrete d c)
          (λ is. absurd (is_fresh c given joined new (subst (λ (x : ℕ). is_out x (c ∷ given) joined ≡ false) is out)))
          (λ ne.
          let was : is_out d given joined ≡ false = subst (λ b. ((b || is_in d given) && not (is_joined d joined)) ≡ false) (ne_eqb d c ne) out in
          let old = knew.1 d was in
          (put_else r.seats c (suc end) d ne ∙ old.0, old.1))),
      (λ d h. knew.2 d (or_right (d == c) (is_in d given) h)),
    ) in record {
      histories = r.histories;
      places = r.places;
      calls = r.calls;
      seats = seats;
      wide = r.wide;
      beyond = r.beyond;
      each_shard = λ k lt. let ok = r.each_shard k lt in record {
        shows = ok.shows;
        lies = lies_put (length s.homes) s.homes r.seats c (suc end) k (r.histories k) (r.places k) (λ d e f. all_home s r c mine.0 k (e ∙ ap away f)) ok.lies;
        sound = ok.sound;
        last = ok.last;
      };
      each_connection = r.each_connection;
      each_seat = λ j v e. ⊎_elim
          (λ (old : get_elem? (set s.views id left) j ≡ some v). ⊎_elim
          (λ (x : (j ≡ id) × (left ≡ v)). subst (λ (y : ℕ × View). Knows r.histories r.places r.calls seats (length s.homes) y.0 y.1) (λ i. (sym x.0 i, x.1 i)) root)
          (λ (x : (j ≢ id) × (get_elem? s.views j ≡ some v)). seated s r c (suc end) j v (λ z. x.0 (z ∙ sym knew.0)) (λ z. let g = mine.0 in omega arith) (r.each_seat j v x.1))
          (at_set s.views id j left v old))
          (λ (x : (j ≡ length (set s.views id left)) × (Pass c [] std.None untraced ≡ v)). subst (λ (y : ℕ × View). Knows r.histories r.places r.calls seats (length s.homes) y.0 y.1) (λ i. (sym x.0 i, x.1 i))
          (put_here r.seats c (suc end) ∙ ap suc (sym (length-set s.views id left)), small, mine.1 ∙ not_joined c joined new, all_home s r c mine.0))
          (at_end (set s.views id left) (Pass c [] std.None untraced) v j e);
      live = λ d j e. dite (ℕ_discrete d c)
          (λ is.
          let f = ap seats is in
          let g = put_here r.seats c (suc end) in
          let here : length (set s.views id left) ≡ j = length-set s.views id left ∙ (omega arith) in (
            std.None,
            untraced,
            at_last (set s.views id left) (Pass c [] std.None untraced) j here ∙ ap (λ (m : List Entry). some (Pass c m std.None untraced)) (sym (mine.1 ∙ not_joined c joined new)) ∙ ap (λ (x : ℕ). some (Pass x (r.calls x) std.None untraced)) (sym is),
          ))
          (λ ne.
          let old = r.live d j (sym (put_else r.seats c (suc end) d ne) ∙ e) in
          let apart : j ≢ id = places_apart s.views id j (Root given joined) (Pass d (r.calls d) old.0 old.1) at old.2 (λ same. cc) in
          (old.0, old.1, at_longer (set s.views id left) (Pass c [] std.None untraced ∷ []) j (Pass d (r.calls d) old.0 old.1) (set_else s.views id j left apart ∙ old.2)));
      sums = r.sums;
    }

-- a pass that has no shard is joined, and its seat is spent
pub joins : (id other c : ℕ) (given : List ℕ) (joined : Joined) (mine : List Entry) (t : Trace) → Joins StoreRule id (Root given joined) other (Pass c mine std.None t) (taken_in (Root given joined) (Pass c mine std.None t)) Spent
joins id other c given joined mine t s r at apart there =
    let both : View = Root given ((c, mine) ∷ joined) in
    let at' : get_elem? s.views other ≡ some (Pass c mine std.None t) =
    ⊎_elim (λ (x : (other ≡ id) × (both ≡ Pass c mine std.None t)). absurd (apart x.0)) (λ (x : (other ≢ id) × (get_elem? s.views other ≡ some (Pass c mine std.None t))). x.1) (at_set s.views id other both (Pass c mine std.None t) there) in
    let knew = r.each_seat id (Root given joined) at in
    let pass = r.each_seat other (Pass c mine std.None t) at' in
    let seats : ℕ → ℕ = put r.seats c 0 in
    let in_given : (d : ℕ) → is_in d given ≡ false → d ≢ c = λ d h is. let g = (knew.1 d (not_out d given joined h)).0 in let f = ap r.seats is in let p = pass.0 in omega arith in
    let root : Knows r.histories r.places r.calls seats (length s.homes) id both = (
      knew.0,
      (λ d out. dite (ℕ_discrete d c)
          (λ is. subst (λ (x : ℕ). (seats x ≡ 0) × (r.calls x ≡ calls_of x ((c, mine) ∷ joined))) (sym is)
          (put_here r.seats c 0, pass.2 ∙ ap (λ b. cond b mine (calls_of c joined)) (sym (eq-eqb c c refl))))
          (λ ne.
          let no : (d == c) ≡ false = ne_eqb d c ne in
          let was : is_out d given joined ≡ false = subst (λ b. (is_in d given && not (b || is_joined d joined)) ≡ false) no out in
          let old = knew.1 d was in
          (put_else r.seats c 0 d ne ∙ old.0, old.1 ∙ ap (λ b. cond b mine (calls_of d joined)) (sym no)))),
      (λ d h. ap (λ b. b || is_joined d joined) (ne_eqb d c (in_given d h)) ∙ knew.2 d h),
    ) in record {
      histories = r.histories;
      places = r.places;
      calls = r.calls;
      seats = seats;
      wide = r.wide;
      beyond = r.beyond;
      each_shard = λ k lt. let ok = r.each_shard k lt in record {
        shows = ok.shows;
        lies = lies_put (length s.homes) s.homes r.seats c 0 k (r.histories k) (r.places k) (λ d e f. pass.3 k (e ∙ ap away f)) ok.lies;
        sound = ok.sound;
        last = ok.last;
      };
      each_connection = r.each_connection;
      each_seat = λ j v e. ⊎_elim
          (λ (x : (j ≡ other) × (Spent ≡ v)). subst (Knows r.histories r.places r.calls seats (length s.homes) j) x.1 tt)
          (λ (x : (j ≢ other) × (get_elem? (set s.views id both) j ≡ some v)). ⊎_elim
          (λ (y : (j ≡ id) × (both ≡ v)). subst (λ (z : ℕ × View). Knows r.histories r.places r.calls seats (length s.homes) z.0 z.1) (λ i. (sym y.0 i, y.1 i)) root)
          (λ (y : (j ≢ id) × (get_elem? s.views j ≡ some v)). seated s r c 0 j v (λ z. y.0 (z ∙ sym knew.0)) (λ z. let g = pass.0 in let ne = x.0 in ne (omega arith)) (r.each_seat j v y.1))
          (at_set s.views id j both v x.1))
          (at_set (set s.views id both) other j Spent v e);
      live = λ d j e. dite (ℕ_discrete d c)
          (λ is. let f = ap seats is in let g = put_here r.seats c 0 in absurd (omega arith))
          (λ ne.
          let old = r.live d j (sym (put_else r.seats c 0 d ne) ∙ e) in
          let from_root : j ≢ id = places_apart s.views id j (Root given joined) (Pass d (r.calls d) old.0 old.1) at old.2 (λ same. cc) in
          let from_pass : j ≢ other = places_apart s.views other j (Pass c mine std.None t) (Pass d (r.calls d) old.0 old.1) at' old.2 (λ same. ne (cc)) in
          (old.0, old.1, set_else (set s.views id both) other j Spent from_pass ∙ set_else s.views id j both from_root ∙ old.2));
      sums = r.sums;
    }

-- ---- the same, stated at the values that the code has

-- the view of a root's badge
pub root_is : (views : List View) (v : View) → IsRoot views → views ≡ v ∷ [] → v ≡ Root (given_in views) (joined_in views)
root_is views v is one = cc

pub splits_as : (id c : ℕ) (given : List ℕ) (views : List View) (v : View) → IsRoot views → views ≡ v ∷ [] → given_in views ≡ given → is_in c given ≡ false → c < 4096 → Splits StoreRule id v (gave c v) (newcomer c v)
splits_as id c given views v is one same fresh small =
    subst (λ (u : View). Splits StoreRule id u (gave c u) (newcomer c u)) (sym (root_is views v is one)) (splits id c (given_in views) (joined_in views) (subst (λ (l : List ℕ). is_in c l ≡ false) (sym same) fresh) small)

pub joins_as : (id other c : ℕ) (views views' : List View) (v w : View) → IsRoot views → views ≡ v ∷ [] → views' ≡ passing c (calls_in views') (trace_in views') ∷ [] → views' ≡ w ∷ [] → Joins StoreRule id v other w (taken_in v w) Spent
joins_as id other c views views' v w is one pass other_one =
    let e : w ≡ passing c (calls_in views') (trace_in views') = cc in
    subst (λ (u : View). Joins StoreRule id u other w (taken_in u w) Spent) (sym (root_is views v is one))
    (subst (λ (u : View). Joins StoreRule id (Root (given_in views) (joined_in views)) other u (taken_in (Root (given_in views) (joined_in views)) u) Spent) (sym e) (joins id other c (given_in views) (joined_in views) (calls_in views') (trace_in views')))
