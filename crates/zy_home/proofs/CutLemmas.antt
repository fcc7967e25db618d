-- What a home keeps while items are cut.
use Rattle.std.specs.Prelude.{◌||◌, ◌==◌, Result, Ok, Err, IfOk, OnOk, is_err}
use Rattle.std.proofs.Common.{◌≡◌, ◌≢◌, ℕ, ◌+◌, ◌<◌, List, [], ◌∷◌, ◌++◌, length, set, get_or, Bool, true, false, Option, Some, None, slice_get, refl, sym, ap, ◌∙◌, subst, arith, append_assoc, append-nil, length-append, length-set}
use mathlib.Core.Logic.{dite}
use native.Mathlib.Decide.{ℕ_discrete}
use Rattle.zy_base.specs.declared.outside.NoMemory.{NoMemory}
use Rattle.zy_table.specs.Member.{is_in}
use Rattle.zy_table.proofs.MemberLemmas.{in_cons, in_front, in_more}
use Rattle.zy_table.proofs.SliceLemmas.{get_at, get_below, get_set_same}
use Rattle.zy_rx.specs.declared.rx.Rx.{Rx}
use Rattle.zy_shuffle.specs.Pass.{Held}
use Rattle.zy_conn.specs.Work.{Mark}
use Rattle.zy_conn.specs.Block.{Blocked}
use Rattle.zy_home.specs.Link.{Link, IsFor, TakesIn, conn_of}
use Rattle.zy_home.specs.Offer.{WaitsFull}
use Rattle.zy_home.specs.Own.{Share, own_conns, is_end}
use Rattle.zy_home.specs.Idle.{IsIdleWith, due_mark}
use Rattle.zy_home.specs.Home.{Homed, HomeStands, IsAt, IsSoundBut, StandsMore, conns_in}
use Rattle.zy_home.specs.declared.links.Links.{Links}
use Rattle.zy_home.specs.Links.{AreOfCore, ComesIn, SameConns, homed}
use Rattle.zy_home.specs.Place.{ComesTo}
use Rattle.zy_home.specs.Items.{CutsOne, CutsEach, StandsAll}
use Rattle.zy_home.specs.Receiving.{StaysIdle, CutsAll, CutsIn, left_after}
use Rattle.zy_home.proofs.TurnLemmas.{at_else, conns-set, each_set}
use Rattle.zy_home.proofs.ReceiveLemmas.{comes_once, for_is, more_at, more_past, no_end}

-- ---- one after another

pub cuts_more : (a b c : Homed) (items : List Rx) (item : Rx) → CutsEach a items b → CutsOne b item c → CutsEach a (items ++ item ∷ []) c
cuts_more a b c [] item s t = (c, subst (λ z. CutsOne z item c) s t, refl)
cuts_more a b c (x ∷ xs) item s t = (s.0, s.1, cuts_more s.0 b c xs item s.2 t)

pub stands_more : (a b c : Homed) (items : List Rx) (item : Rx) → StandsAll a items b → StandsMore b item c → StandsAll a (items ++ item ∷ []) c
stands_more a b c items item s t earlier h = subst (HomeStands c) (append_assoc earlier items (item ∷ [])) (t (earlier ++ items) (s earlier h))

-- ---- places

in_append : (q p : ℕ) (ps : List ℕ) → q ≢ p → is_in q (ps ++ p ∷ []) ≡ is_in q ps
in_append q p [] ne = in_cons p q [] ne
in_append q p (x ∷ xs) ne = ap (λ b. (q == x) || b) (in_append q p xs ne)

in_last : (p : ℕ) (ps : List ℕ) → is_in p (ps ++ p ∷ []) ≡ true
in_last p [] = in_front p []
in_last p (q ∷ qs) = in_more q p (qs ++ p ∷ []) (in_last p qs)

-- ---- an item is cut

module _ (h : Homed) (own : conns_in h.links ≡ own_conns h.core h.cores h.count) (p : ℕ) (item : Rx) (comes : ComesTo h p item) (l : Link) (x0 : Option Blocked) (there : slice_get h.links p ≡ Some l) (slot : slice_get h.blocks p ≡ Some x0) (is_own : IsFor (conn_of l) item) (m : Link) (due : due_mark m ≡ due_mark l) (takes : TakesIn item l m) (full : x0 ≡ None → WaitsFull m) (refused : Bool) where
  -- the home after it
  abbrev cut_home : Homed
  cut_home = record h { links = set h.links p m; refused = refused }

  cut_cuts : CutsOne h item cut_home
  cut_cuts = record {
    pass = refl;
    blocks = refl;
    ended = comes.live ∙ sym (ap (λ b. b || is_end item) comes.live ∙ no_end (conn_of comes.link) item (for_is (conn_of comes.link) item comes.own));
    away = λ q c none n e.
        let same = comes_once h own p q item comes c in
        subst WaitsFull (get_set_same h.links p m n (ap (slice_get (set h.links p m)) (sym same) ∙ e))
        (full (let here : slice_get h.blocks p ≡ Some None = ap (slice_get h.blocks) (sym same) ∙ none in let x : Some x0 ≡ Some None = sym slot ∙ here in cc));
    dropped = λ none. absurd (none p comes);
  }

  cut_in : CutsIn h item cut_home
  cut_in = (cut_cuts, λ items s. let t = more_at h own p l m there (ap (λ (z : Mark). z.0) due) comes.live item is_own takes items s in record { ended = t.ended; links = t.links })

-- the home keeps its rule, if the place is left to settle, or its block is idle still, or memory was refused
module _ (h : Homed) (live : h.refused ≡ false) (p : ℕ) (l : Link) (x0 : Option Blocked) (there : slice_get h.links p ≡ Some l) (slot : slice_get h.blocks p ≡ Some x0) (m : Link) (due : due_mark m ≡ due_mark l) (left : List ℕ) (k : IsSoundBut left h) where
  cut_sound : (left' : List ℕ) (refused : Bool)
      → (refused ≡ false → (q : ℕ) → q ≢ p → is_in q left' ≡ is_in q left)
      → (refused ≡ false → (c : Blocked) → x0 ≡ Some c → (is_in p left ≡ false → IsIdleWith c.work l) → is_in p left' ≡ false → IsIdleWith c.work m) → IsSoundBut left' (record h { links = set h.links p m; refused = refused })
  cut_sound left' refused others idle = record {
    core = k.core;
    cores = k.cores;
    conns = conns-set h.links p l m there (ap (λ (z : Mark). z.0) due) ∙ k.conns;
    long = k.long ∙ sym (length-set h.links p m);
    places = k.places ∙ sym (length-set h.links p m);
    here = k.here;
    each = λ none q x n eb el. each_set (λ q n. (x : Option Blocked) → slice_get h.blocks q ≡ Some x → IsAt left' h.pass q n x) h.links p m (here none)
        (λ q n ne el x eb. at_else left left' h.pass h.pass q n x refl refl (others none q ne) (k.each live q x n eb el)) q n el x eb;
    near = λ none q e. dite (ℕ_discrete q p)
        (λ same. subst (λ z. z < length h.blocks) (sym same) (get_below h.blocks p x0 slot))
        (λ ne. k.near live q (sym (others none q ne) ∙ e));
  }
    where
      here : refused ≡ false → (x : Option Blocked) → slice_get h.blocks p ≡ Some x → IsAt left' h.pass p m x
      here none None e = λ out. k.each live p None l e there out ∙ ap Some (sym due)
      here none (Some c) e = let at = k.each live p (Some c) l e there in (at.0 ∙ sym due, idle none c (let x : Some x0 ≡ Some (Some c) = sym slot ∙ e in cc) at.1)

  pub cut_left : (r : Result Bool NoMemory) → IfOk r (λ got. got ≡ false → StaysIdle x0 l m) → (refused : Bool) → refused ≡ is_err r → IsSoundBut (left_after p r left) (record h { links = set h.links p m; refused = refused })
  cut_left (Ok true) stays refused is = cut_sound (left ++ p ∷ []) refused (λ _ q ne. in_append q p left ne) (λ _ c e old out. absurd (let is = in_last p left in cc))
  cut_left (Ok false) stays refused is = cut_sound left refused (λ _ q ne. refl) (λ _ c e old out. stays refl c e (old out))
  cut_left (Err e) stays refused is = cut_sound left refused (λ none. absurd (cc)) (λ none. absurd (cc))

-- ---- the connections of a home

pub comes_to : (pass : Held Blocked) (bs : List (Option Blocked)) (L : Links) (p : ℕ) (item : Rx) → ComesIn L p item → ComesTo (homed pass bs L) p item
comes_to pass bs L p item c = record { live = c.live; link = c.link; there = c.there; own = c.own }

module _ (p : ℕ) (item : Rx) (bs : List (Option Blocked)) (L : Links) (long : length bs ≡ length L.items.items) (comes : ComesIn L p item) where
  pub cut_near : (p < length bs) × (p < length L.items.items)
  cut_near = let near = get_below L.items.items p comes.link comes.there in (omega arith, near)

  module _ (l : Link) (at : l ≡ get_or L.items.items p l) where
    pub cut_there : slice_get L.items.items p ≡ Some l
    cut_there = get_at L.items.items p l l cut_near.1 at

    -- the item is for the connection at this place
    pub cut_own : IsFor (conn_of l) item
    cut_own = let e : Some comes.link ≡ Some l = sym comes.there ∙ cut_there in let same : comes.link ≡ l = cc in subst (λ (z : Link). IsFor (conn_of z) item) same comes.own

    pub cut_conns : (m : Link) → due_mark m ≡ due_mark l → conns_in (set L.items.items p m) ≡ conns_in L.items.items
    cut_conns m due = conns-set L.items.items p l m cut_there (ap (λ (z : Mark). z.0) due)

    pub cut_slot : (x0 : Option Blocked) → x0 ≡ get_or bs p x0 → slice_get bs p ≡ Some x0
    cut_slot x0 slot = get_at bs p x0 x0 cut_near.0 slot

    pub cut_value : AreOfCore L → (x0 : Option Blocked) → x0 ≡ get_or bs p x0 → (m : Link) → due_mark m ≡ due_mark l → (refused : Bool) (r : Result Bool NoMemory) → OnOk r (TakesIn item l m) → OnOk r (x0 ≡ None → WaitsFull m)
        → OnOk r ((pass : Held Blocked) → CutsIn (homed pass bs L) item (record (homed pass bs L) { links = set L.items.items p m; refused = refused }))
    cut_value own x0 slot m due refused (Ok got) takes full = λ pass. cut_in (homed pass bs L) own p item (comes_to pass bs L p item comes) l x0 cut_there (cut_slot x0 slot) cut_own m due takes full refused
    cut_value own x0 slot m due refused (Err e) takes full = tt

-- an item that is for no place
pub cut_past : (h : Homed) (item : Rx) → ((p : ℕ) → ComesTo h p item → ⊥) → CutsIn h item (record h { ended = h.ended || is_end item })
cut_past h item none = (record { pass = refl; blocks = refl; ended = refl; away = λ p c. absurd (none p c); dropped = λ _. refl }, more_past h item none)

-- ---- items one after another

pub cuts_none : (h : Homed) (taken : List Rx) → CutsAll h taken h taken 0
cuts_none h taken = record {
  items = [];
  size = refl;
  taken_is = sym (append-nil taken);
  cuts = refl;
  stands = λ earlier s. subst (HomeStands h) (sym (append-nil earlier)) s;
}

pub cuts_next : (h m h' : Homed) (taken now next : List Rx) (item : Rx) (count : ℕ) → CutsAll h taken m now count → CutsIn m item h' → next ≡ now ++ item ∷ [] → CutsAll h taken h' next (count + 1)
cuts_next h m h' taken now next item count s t is = record {
  items = s.items ++ item ∷ [];
  size = (let a = length-append s.items (item ∷ []) in let b = s.size in omega arith);
  taken_is = is ∙ ap (λ l. l ++ item ∷ []) s.taken_is ∙ append_assoc taken s.items (item ∷ []);
  cuts = cuts_more h m h' s.items item s.cuts t.0;
  stands = stands_more h m h' s.items item s.stands t.1;
}

pub same_own : (l m : Links) → AreOfCore l → SameConns l m → AreOfCore m
same_own l m own same = same.conns ∙ own ∙ ap (λ (s : Share). own_conns s.core s.cores s.count) (sym same.share)
