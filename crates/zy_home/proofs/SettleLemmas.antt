-- What a home keeps when a block is settled or put back, and when the blocks of touched places are.
use Rattle.std.specs.Prelude.{map, is_some, is_err, Result, Ok, Err, OnOk, OnErr}
use Rattle.std.proofs.Common.{◌≡◌, ℕ, zero, suc, drop, ◌+◌, ◌<◌, ◌≤◌, List, [], ◌∷◌, ◌++◌, length, set, get_or, Bool, true, false, Option, Some, None, slice_get, refl, sym, ap, ◌∙◌, subst, arith}
use Rattle.std.proofs.lemmas.List.{drop_more}
use Rattle.std.proofs.lemmas.Result.{on_err_weaker}
use Rattle.zy_base.specs.declared.outside.NoMemory.{NoMemory}
use Rattle.zy_table.specs.Member.{is_in}
use Rattle.zy_table.proofs.MemberLemmas.{in_cons, in_front, in_more, in_without}
use Rattle.zy_table.proofs.SliceLemmas.{get_at, get_below, get_set_same, set_there}
use Rattle.zy_shuffle.specs.Hand.{marked}
use Rattle.zy_shuffle.specs.Run.{Before, was_idle}
use Rattle.zy_shuffle.specs.Pass.{Held, after_publish}
use Rattle.zy_shuffle.proofs.HandLemmas.{marked_here, marked_else}
use Rattle.zy_conn.specs.Work.{has_event}
use Rattle.zy_conn.specs.Block.{Blocked, label_in}
use Rattle.zy_home.specs.Link.{Link, StandsOn, conn_of}
use Rattle.zy_home.specs.Offer.{WaitsBehind}
use Rattle.zy_home.specs.Idle.{IsIdleWith, mark_in}
use Rattle.zy_home.specs.Home.{Homed, IsAt, IsSoundBut, IsSoundHome, SameFor, SameHome, StandsHome}
use Rattle.zy_home.specs.Place.{IsOut, KnowsAll, SameHand, Settles}
use Rattle.zy_home.specs.Items.{SettlesEach, SettlesHere}
use Rattle.zy_home.specs.Turn.{IsDue, IsSettled, IsPutBack, PassTurns, Turns, home_turned}
use Rattle.zy_home.specs.Receiving.{SettlesAt, SettlesOn, StepsIn}
use Rattle.zy_home.proofs.TurnLemmas.{set_stands, sound_one, turned_same, turned_sound}

-- ---- passes

pub published_turns : (p : ℕ) (b : Blocked) (v w : Held Blocked) → w ≡ after_publish p b v w.trace → PassTurns p v w
published_turns p b v w is =
    let count = ap (λ (z : Held Blocked). z.count) is in record {
      table = ap (λ (z : Held Blocked). z.table) is;
      label = ap (λ (z : Held Blocked). z.label) is;
      out = ap (λ (z : Held Blocked). z.out) is;
      once = omega arith;
      hand = λ q ne. ap (λ (z : Held Blocked). is_in q z.hand) is ∙ in_without p q v.hand ne;
      kept = λ q ne. ap (λ (z : Held Blocked). marked mark_in q z.kept) is ∙ marked_else mark_in p q b v.kept ne;
    }

pub same_turns : (p : ℕ) (v w : Held Blocked) → w ≡ v → PassTurns p v w
same_turns p v w is =
    let count = ap (λ (z : Held Blocked). z.count) is in record {
      table = ap (λ (z : Held Blocked). z.table) is;
      label = ap (λ (z : Held Blocked). z.label) is;
      out = ap (λ (z : Held Blocked). z.out) is;
      once = omega arith;
      hand = λ q ne. ap (λ (z : Held Blocked). is_in q z.hand) is;
      kept = λ q ne. ap (λ (z : Held Blocked). marked mark_in q z.kept) is;
    }

-- ---- one place

-- a block was settled at a place, or put back. l is the connection of the place
pub record Settling (before : Before) (h : Homed) (p : ℕ) (given : Blocked) (l m : Link) (w : Held Blocked) (x : Option Blocked) (r : Result Unit NoMemory) (refused : Bool) : Type 0 where
  pub sound : (rest : List ℕ) → IsSoundBut (p ∷ rest) h → IsSoundBut rest (home_turned h p x m w refused)
  pub same : SameHome h (home_turned h p x m w refused)
  pub settled : OnOk r (Settles before p given h (home_turned h p x m w refused))
  pub stands : OnOk r (StandsOn l m) → OnOk r (StandsHome h (home_turned h p x m w refused))

module _ (h : Homed) (p : ℕ) (l m : Link) (w : Held Blocked) (x : Option Blocked) (there : slice_get h.links p ≡ Some l) (conn : conn_of m ≡ conn_of l) (hand : is_in p h.pass.hand ≡ true) where
  -- a block is in the slot, and the pass is the same
  slot_turns : (b : Blocked) → w ≡ h.pass → x ≡ Some b → label_in b ≡ h.pass.label → Turns h p x l m w
  slot_turns b same filled label = record {
    there = there;
    conn = conn;
    pass = same_turns p h.pass w same;
    here = λ c e. let is : b ≡ c = cc in
        (ap (λ (z : Held Blocked). is_in p z.hand) same ∙ hand, ap label_in (sym is) ∙ label ∙ ap (λ (z : Held Blocked). z.label) (sym same));
  }

  -- the block was settled
  settled_turns : {before : Before} (given : Blocked) → IsSettled before p given m h.pass w x → Turns h p x l m w × ((rest : List ℕ) → IsAt rest w p m x)
  settled_turns given s = go (has_event s.block.work) refl
    where
      out : (w ≡ after_publish p s.block h.pass w.trace) × (x ≡ None) → Turns h p x l m w × ((rest : List ℕ) → IsAt rest w p m x)
      out is = (
        record { there = there; conn = conn; pass = published_turns p s.block h.pass w is.0; here = λ b e. absurd (let no = is.1 in cc) },
        λ rest. subst (IsAt rest w p m) (sym is.1) (λ away. ap (λ (z : Held Blocked). marked mark_in p z.kept) is.0 ∙ marked_here mark_in p s.block h.pass.kept ∙ ap Some s.mark),
      )

      in_slot : (w ≡ h.pass) × (x ≡ Some s.block) × IsIdleWith s.block.work m → Turns h p x l m w × ((rest : List ℕ) → IsAt rest w p m x)
      in_slot is = (slot_turns s.block is.0 is.1 s.label, λ rest. subst (IsAt rest w p m) (sym is.1) (s.mark, λ _. is.2))

      go : (b : Bool) → has_event s.block.work ≡ b → Turns h p x l m w × ((rest : List ℕ) → IsAt rest w p m x)
      go true e = out (s.event e)
      go false e = in_slot (s.idle e)

  settled_here : {before : Before} (given : Blocked) (refused : Bool) → IsSettled before p given m h.pass w x → Settles before p given h (home_turned h p x m w refused)
  settled_here given refused s = record {
    block = s.block;
    met = s.met;
    event = λ e. let is = s.event e in (is.0, ap (set h.blocks p) is.1);
    makes = s.makes;
    idle = λ e. let is = s.idle e in (is.0, ap (set h.blocks p) is.1);
    knows = λ n e. subst (λ z. KnowsAll z s.block) (get_set_same h.links p m n e) s.knows;
    behind = λ n e. subst (λ z. WaitsBehind z s.block) (get_set_same h.links p m n e) s.behind;
  }

  -- the block was put back
  pub back_turns : IsPutBack h.pass w x → Turns h p x l m w
  back_turns s = slot_turns s.block s.pass_is s.slot_is s.label

  pub settling : {before : Before} (given : Blocked) → h.refused ≡ false → (r : Result Unit NoMemory) → OnOk r (IsSettled before p given m h.pass w x) → OnErr r (IsPutBack h.pass w x) → (refused : Bool) → refused ≡ is_err r → Settling before h p given l m w x r refused
  settling given live (Ok done) s back refused is = let t = settled_turns given s in record {
    sound = λ rest. turned_sound h p x l m w t.0 refused rest live (λ _. t.1 rest);
    same = turned_same h p x l m w t.0 refused;
    settled = settled_here given refused s;
    stands = λ on items e. let last = set_stands h p l m there conn on items e in record { ended = last.ended; links = last.links };
  }
  settling given live (Err e) s back refused is = let t = back_turns back in record {
    sound = λ rest. turned_sound h p x l m w t refused rest live (λ none. absurd (cc));
    same = turned_same h p x l m w t refused;
    settled = tt;
    stands = λ on. tt;
  }

-- the connection of the place of a block that may be settled
pub out_there : (h : Homed) (p : ℕ) (given : Blocked) (l : Link) → IsOut h p given → l ≡ get_or h.links p l → slice_get h.links p ≡ Some l
out_there h p given l o at = get_at h.links p l l (get_below h.links p o.link o.there) at

-- one place is left to settle
pub out_sound : (h : Homed) (p : ℕ) (given : Blocked) → IsOut h p given → IsSoundHome h → IsSoundBut (p ∷ []) h
out_sound h p given o k = let near = get_below h.links p o.link o.there in let long = k.long in sound_one h p (omega arith) k

-- ---- the hand after a refusal

filled-set : (bs : List (Option Blocked)) (p : ℕ) (x y : Option Blocked) → slice_get bs p ≡ Some x → is_some y ≡ is_some x → map is_some (set bs p y) ≡ map is_some bs
filled-set [] p x y e same = refl
filled-set (b ∷ bs) zero x y e same = let is : b ≡ x = cc in ap (λ z. z ∷ map is_some bs) (same ∙ ap is_some (sym is))
filled-set (b ∷ bs) (suc p) x y e same = ap (λ l. is_some b ∷ l) (filled-set bs p x y e same)

same_hand : (bs : List (Option Blocked)) (p : ℕ) (v w : Held Blocked) (x : Option Blocked) (b : Blocked) → slice_get bs p ≡ Some (Some b) → IsPutBack v w x → map is_some (set bs p x) ≡ map is_some bs
same_hand bs p v w x b e s = filled-set bs p (Some b) x e (ap is_some s.slot_is)

-- ---- a touched place

-- l is the connection of the place, and x0 is in its slot
module _ (h : Homed) (p : ℕ) (live : h.refused ≡ false) (t : (rest : List ℕ) × IsSoundBut (p ∷ rest) h) where
  pub touched_near : (p < length h.blocks) × (p < length h.links)
  touched_near = let near = t.1.near live p (in_front p t.0) in let long = t.1.long in (near, omega arith)

  module _ (l : Link) (x0 : Option Blocked) (slot : x0 ≡ get_or h.blocks p x0) (at : l ≡ get_or h.links p l) where
    pub touched_there : slice_get h.links p ≡ Some l
    touched_there = get_at h.links p l l touched_near.1 at

    pub touched_slot : slice_get h.blocks p ≡ Some x0
    touched_slot = get_at h.blocks p x0 x0 touched_near.0 slot

    -- the slot is empty
    pub place_empty : (x : Option Blocked) → x ≡ x0 → record h { blocks = set h.blocks p x; links = set h.links p l } ≡ h
    place_empty x same i = record h { blocks = (ap (set h.blocks p) same ∙ set_there h.blocks p x0 touched_slot) i; links = set_there h.links p l touched_there i }

    -- the block may be settled
    pub touched_due : (c : Blocked) → x0 ≡ Some c → IsDue h.pass p l c
    touched_due c e =
        let here = t.1.here p c (touched_slot ∙ ap Some e) in
        let each = t.1.each live p (Some c) l (touched_slot ∙ ap Some e) touched_there in
        record { hand = here.0; mark = each.0; label = here.1 }

    -- it was settled, or put back
    module _ (c : Blocked) (e : x0 ≡ Some c) (m : Link) (w : Held Blocked) (x : Option Blocked) (conn : conn_of m ≡ conn_of l) (r : Result Unit NoMemory) (ok : OnOk r (IsSettled was_idle p c m h.pass w x)) (err : OnErr r (IsPutBack h.pass w x)) (refused : Bool) (is : refused ≡ is_err r) where
      pub touched_settling : Settling was_idle h p c l m w x r refused
      touched_settling = settling h p l m w x touched_there conn (touched_due c e).hand c live r ok err refused is

      pub place_settled : OnOk r (StandsOn l m) → OnOk r (SettlesAt p h (home_turned h p x m w refused))
      place_settled on = go r touched_settling.settled (touched_settling.stands on)
        where
          go : (r : Result Unit NoMemory) → OnOk r (Settles was_idle p c h (home_turned h p x m w refused)) → OnOk r (StandsHome h (home_turned h p x m w refused)) → OnOk r (SettlesAt p h (home_turned h p x m w refused))
          go (Ok done) settles stands = record { slot = Some c; there = touched_slot ∙ ap Some e; steps = (settles, stands) }
          go (Err e2) settles stands = tt

      pub place_back : OnErr r (SameHand h (home_turned h p x m w refused))
      place_back = on_err_weaker r (λ s. record { pass = s.pass_is; blocks = same_hand h.blocks p h.pass w x c (touched_slot ∙ ap Some e) s }) err

-- ---- blocks one after another

settles_more : (a b c : Homed) (places : List ℕ) (p : ℕ) → SettlesEach a places b → SettlesHere p b c → SettlesEach a (places ++ p ∷ []) c
settles_more a b c [] p s t = (c, subst (λ z. SettlesHere p z c) s t, refl)
settles_more a b c (q ∷ qs) p s t = (s.0, s.1, settles_more s.0 b c qs p s.2 t)

-- a place without a block need not be left
pub rest_none : (h : Homed) (p : ℕ) (rest : List ℕ) → slice_get h.blocks p ≡ Some None → IsSoundBut (p ∷ rest) h → IsSoundBut rest h
rest_none h p rest none k = record {
  core = k.core;
  cores = k.cores;
  conns = k.conns;
  long = k.long;
  places = k.places;
  here = k.here;
  each = λ live q x l eb el. go q x l eb (k.each live q x l eb el);
  near = λ live q e. k.near live q (in_more p q rest e);
}
  where
    go : (q : ℕ) (x : Option Blocked) (l : Link) → slice_get h.blocks q ≡ Some x → IsAt (p ∷ rest) h.pass q l x → IsAt rest h.pass q l x
    go q None l eb at = at
    go q (Some c) l eb at = (at.0, λ e. at.1 (in_cons p q rest (λ same. let f = sym none ∙ ap (slice_get h.blocks) (sym same) ∙ eb in absurd (cc)) ∙ e))

-- the first of the places that are left
pub left_first : (xs : List ℕ) (i p : ℕ) → i < length xs → p ≡ get_or xs i p → (h : Homed) → IsSoundBut (drop i xs) h → IsSoundBut (p ∷ drop (i + 1) xs) h
left_first xs i p lt e h = subst (λ left. IsSoundBut left h) (drop_more xs i p lt ∙ ap (λ x. x ∷ drop (i + 1) xs) (sym e))

pub settles_next : (a b c : Homed) (p : ℕ) → SettlesOn a b → SettlesAt p b c → SettlesOn a c
settles_next a b c p s t = go t.slot t.there t.steps
  where
    go : (x : Option Blocked) → slice_get b.blocks p ≡ Some x → StepsIn p x b c → SettlesOn a c
    go None none is = subst (SettlesOn a) (sym is) s
    go (Some given) there step = record {
      places = s.places ++ p ∷ [];
      settles = settles_more a b c s.places p s.settles (record { given = given; there = there; settles = step.0 });
      stands = λ items e. step.1 items (s.stands items e);
    }

-- ---- what stays

pub same_for_on : (n m k : ℕ) (a b c : Homed) → SameFor n a b → SameFor m b c → n + m ≤ k → SameFor k a c
same_for_on n m k a b c s t le = record {
  core = t.core ∙ s.core;
  cores = t.cores ∙ s.cores;
  count = t.count ∙ s.count;
  table = t.table ∙ s.table;
  label = t.label ∙ s.label;
  out = t.out ∙ s.out;
  conns = t.conns ∙ s.conns;
  few = (let p = s.few in let q = t.few in omega arith);
}
