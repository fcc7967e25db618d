-- What a home keeps, and what it may have received, after a step at one of its places.
use Rattle.std.specs.Prelude.{Ok}
use Rattle.std.proofs.Common.{◌≡◌, ◌≢◌, ℕ, zero, suc, ◌<◌, List, [], ◌∷◌, set, Bool, true, false, Option, Some, None, slice_get, refl, sym, ap, ◌∙◌, subst, length, length-set, ⊎_elim}
use mathlib.Core.Logic.{dite}
use native.Mathlib.Decide.{ℕ_discrete}
use Rattle.zy_table.specs.Member.{is_in}
use Rattle.zy_table.proofs.MemberLemmas.{in_cons, in_more, in_or}
use Rattle.zy_table.proofs.SliceLemmas.{get_set_else, get_set_same}
use Rattle.zy_rx.specs.Session.{received_by}
use Rattle.zy_shuffle.specs.Hand.{marked}
use Rattle.zy_shuffle.specs.Pass.{Held}
use Rattle.zy_conn.specs.Block.{Blocked}
use Rattle.zy_home.specs.Link.{Link, LinkStands, StandsOn, conn_of}
use Rattle.zy_home.specs.Idle.{mark_in}
use Rattle.zy_home.specs.Home.{Homed, IsSoundBut, IsSoundHome, SameHome, StandsHome, IsAt, IsHere, conns_in}
use Rattle.zy_home.specs.Turn.{Turns, home_turned}
use Rattle.zy_home.specs.Receiving.{left_after}

-- what holds of a new member and of each other one holds of all
pub each_set : {A : Type 0} (P : ℕ → A → Type 0) (xs : List A) (p : ℕ) (m : A) → P p m → ((q : ℕ) (n : A) → q ≢ p → slice_get xs q ≡ Some n → P q n) → (q : ℕ) (n : A) → slice_get (set xs p m) q ≡ Some n → P q n
each_set P xs p m here others q n e = dite (ℕ_discrete q p)
    (λ same. subst (λ z. P z n) (sym same) (subst (P p) (get_set_same xs p m n (ap (slice_get (set xs p m)) (sym same) ∙ e)) here))
    (λ ne. others q n ne (sym (get_set_else xs p q m ne) ∙ e))

pub conns-set : (ls : List Link) (p : ℕ) (l m : Link) → slice_get ls p ≡ Some l → conn_of m ≡ conn_of l → conns_in (set ls p m) ≡ conns_in ls
conns-set [] p l m e same = refl
conns-set (y ∷ ys) zero l m e same = let is : y ≡ l = cc in ap (λ c. c ∷ conns_in ys) (same ∙ ap conn_of (sym is))
conns-set (y ∷ ys) (suc p) l m e same = ap (λ l. conn_of y ∷ l) (conns-set ys p l m e same)

-- ---- the rule

-- one place more is left to settle
pub sound_one : (h : Homed) (p : ℕ) → p < length h.blocks → IsSoundHome h → IsSoundBut (p ∷ []) h
sound_one h p near k = record {
  core = k.core;
  cores = k.cores;
  conns = k.conns;
  long = k.long;
  places = k.places;
  here = k.here;
  each = λ live q x l eb el. go q x l (k.each live q x l eb el);
  near = λ live q e. ⊎_elim (λ same. subst (λ z. z < length h.blocks) (sym same) near) (λ no. absurd (let is = no.1 in cc)) (in_or p q [] e);
}
  where
    go : (q : ℕ) (x : Option Blocked) (l : Link) → IsAt [] h.pass q l x → IsAt (p ∷ []) h.pass q l x
    go q None l at = at
    go q (Some c) l at = (at.0, λ _. at.1 refl)

-- if memory was refused, it doesn't matter which places are left
pub sound_refused : (left left' : List ℕ) (h : Homed) (refused : Bool) → refused ≡ true → IsSoundBut left h → IsSoundBut left' (record h { refused = refused })
sound_refused left left' h refused is k = record { core = k.core; cores = k.cores; conns = k.conns; long = k.long; places = k.places; here = k.here; each = λ live. absurd (cc); near = λ live. absurd (cc) }

-- an item was cut for the connection of a place, whether or not the place was touched
pub sound_left : (h : Homed) (p : ℕ) (touched : Bool) → p < length h.blocks → IsSoundBut (left_after p (Ok touched) []) h → IsSoundBut (p ∷ []) h
sound_left h p true near k = k
sound_left h p false near k = sound_one h p near k

-- what holds of another place
pub at_else : (left left' : List ℕ) (v w : Held Blocked) (q : ℕ) (l : Link) (x : Option Blocked) → is_in q w.hand ≡ is_in q v.hand → marked mark_in q w.kept ≡ marked mark_in q v.kept → is_in q left' ≡ is_in q left → IsAt left v q l x → IsAt left' w q l x
at_else left left' v w q l None hand kept same at = λ out. kept ∙ at (sym hand ∙ out)
at_else left left' v w q l (Some c) hand kept same at = (at.0, λ e. at.1 (sym same ∙ e))

-- ---- a step

-- the connection may have received what it may have received before
pub set_stands : (h : Homed) (p : ℕ) (l m : Link) → slice_get h.links p ≡ Some l → conn_of m ≡ conn_of l → StandsOn l m → StandsHome h (record h { links = set h.links p m })
set_stands h p l m there conn on items s = record {
  ended = s.ended;
  links = each_set (λ q n. LinkStands n (received_by (conn_of n) items)) h.links p m
      (subst (λ c. LinkStands m (received_by c items)) (sym conn) (on (received_by (conn_of l) items) (s.links p l there)))
      (λ q n ne e. s.links q n e);
}

module _ (h : Homed) (p : ℕ) (x : Option Blocked) (l m : Link) (w : Held Blocked) (t : Turns h p x l m w) (refused : Bool) where
  -- the place is left no more, if it is as it should be or memory was refused
  pub turned_sound : (rest : List ℕ) → h.refused ≡ false → (refused ≡ false → IsAt rest w p m x) → IsSoundBut (p ∷ rest) h → IsSoundBut rest (home_turned h p x m w refused)
  turned_sound rest live at k = record {
    core = k.core;
    cores = k.cores;
    conns = conns-set h.links p l m t.there t.conn ∙ k.conns;
    long = length-set h.blocks p x ∙ k.long ∙ sym (length-set h.links p m);
    places = ap (λ z. z.slots) t.pass.table ∙ k.places ∙ sym (length-set h.links p m);
    here = λ q b e. each_set (λ q y. (b : Blocked) → y ≡ Some b → IsHere w q b) h.blocks p x t.here
        (λ q y ne e b is. let old = k.here q b (e ∙ ap Some is) in (t.pass.hand q ne ∙ old.0, old.1 ∙ sym t.pass.label))
        q (Some b) e b refl;
    each = λ none q y n eb el. each_set (λ q y. (n : Link) → slice_get (set h.links p m) q ≡ Some n → IsAt rest w q n y) h.blocks p x
        (λ n e. subst (λ z. IsAt rest w p z x) (get_set_same h.links p m n e) (at none))
        (λ q y ne e n el. at_else (p ∷ rest) rest h.pass w q n y (t.pass.hand q ne) (t.pass.kept q ne) (sym (in_cons p q rest ne)) (k.each live q y n e (sym (get_set_else h.links p q m ne) ∙ el)))
        q y eb n el;
    near = λ _ q e. subst (λ z. q < z) (sym (length-set h.blocks p x)) (k.near live q (in_more p q rest e));
  }

  pub turned_same : SameHome h (home_turned h p x m w refused)
  turned_same = record {
    core = refl;
    cores = refl;
    count = refl;
    table = t.pass.table;
    label = t.pass.label;
    out = t.pass.out;
    conns = conns-set h.links p l m t.there t.conn;
    few = t.pass.once;
  }
