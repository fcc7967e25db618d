-- What a home keeps when a block comes into its hand, or when only its pass has seen something.
use Rattle.std.proofs.Common.{◌≡◌, ℕ, zero, suc, ◌<◌, List, [], ◌∷◌, length, set, true, false, Option, Some, None, slice_get, refl, sym, ap, ◌∙◌, subst, arith}
use mathlib.Core.Logic.{dite}
use native.Mathlib.Decide.{ℕ_discrete}
use Rattle.zy_table.specs.Member.{is_in}
use Rattle.zy_table.proofs.SliceLemmas.{set_there}
use Rattle.zy_table.proofs.MemberLemmas.{in_cons, in_front}
use Rattle.zy_shuffle.specs.Hand.{marked}
use Rattle.zy_shuffle.specs.Pass.{Held, Joined}
use Rattle.zy_shuffle.proofs.HandLemmas.{marked_else}
use Rattle.zy_conn.specs.Block.{Blocked, label_in}
use Rattle.zy_home.specs.Link.{Link}
use Rattle.zy_home.specs.Idle.{due_mark, mark_in}
use Rattle.zy_home.specs.Home.{Homed, IsSoundHome, IsAt, all_here}
use Rattle.zy_home.specs.Place.{IsOut, with_pass}
use Rattle.zy_home.proofs.TurnLemmas.{at_else, turned_sound}
use Rattle.zy_home.proofs.SettleLemmas.{back_turns, out_sound}

-- there is a member below the length
pub some_there : {A : Type 0} (l : List A) (i : ℕ) → i < length l → (x : A) × (slice_get l i ≡ Some x)
some_there [] i lt = absurd (omega arith)
some_there (y ∷ ys) zero lt = (y, refl)
some_there (y ∷ ys) (suc i) lt = some_there ys i (omega arith)

-- ---- a look

module _ (h : Homed) (w : Held Blocked) (is : w ≡ record h.pass { trace = w.trace }) where
  pub keeps_looks : IsSoundHome h → IsSoundHome (with_pass h w)
  keeps_looks k =
      let hand = ap (λ (v : Held Blocked). v.hand) is in
      let kept = ap (λ (v : Held Blocked). v.kept) is in
      let label = ap (λ (v : Held Blocked). v.label) is in record {
        core = k.core;
        cores = k.cores;
        conns = k.conns;
        long = k.long;
        places = ap (λ (v : Held Blocked). v.table.slots) is ∙ k.places;
        here = λ p b e. let r = k.here p b e in (ap (is_in p) hand ∙ r.0, r.1 ∙ sym label);
        each = λ live p x l eb el. at_else [] [] h.pass w p l x (ap (is_in p) hand) (ap (marked mark_in p) kept) refl (k.each live p x l eb el);
        near = k.near;
      }

-- ---- a block comes

module _ (h : Homed) (w : Held Blocked) (n p : ℕ) (b : Blocked) (k : IsSoundHome h) (j : Joined mark_in label_in n h.pass w p b) where
  -- the block of the place is not in the hand
  not_here : (x : Option Blocked) → slice_get h.blocks p ≡ Some x → x ≡ None
  not_here None e = refl
  not_here (Some y) e = absurd (let r = (k.here p y e).0 in let a = j.apart in cc)

  keeps_at : (q : ℕ) (l : Link) (x : Option Blocked) → IsAt [] h.pass q l x → IsAt [] w q l x
  keeps_at q l (Some y) at = at
  keeps_at q l None at = λ out. dite (ℕ_discrete q p)
      (λ same. absurd (let one = in_front p h.pass.hand in let two : is_in p (p ∷ h.pass.hand) ≡ false = ap (λ z. is_in z (p ∷ h.pass.hand)) (sym same) ∙ ap (is_in q) (sym (ap (λ (v : Held Blocked). v.hand) j.is)) ∙ out in cc))
      (λ ne. ap (marked mark_in q) (ap (λ (v : Held Blocked). v.kept) j.is) ∙ marked_else mark_in p q b h.pass.kept ne ∙ at (sym (ap (is_in q) (ap (λ (v : Held Blocked). v.hand) j.is) ∙ in_cons p q h.pass.hand ne) ∙ out))

  pub keeps_joins : IsSoundHome (with_pass h w)
  keeps_joins =
      let hand = ap (λ (v : Held Blocked). v.hand) j.is in
      let label = ap (λ (v : Held Blocked). v.label) j.is in record {
        core = k.core;
        cores = k.cores;
        conns = k.conns;
        long = k.long;
        places = ap (λ (v : Held Blocked). v.table.slots) j.is ∙ k.places;
        here = λ q y e. let r = k.here q y e in (ap (is_in q) hand ∙ dite (ℕ_discrete q p) (λ same. ap (λ z. is_in z (p ∷ h.pass.hand)) same ∙ in_front p h.pass.hand) (λ ne. in_cons p q h.pass.hand ne ∙ r.0), r.1 ∙ sym label);
        each = λ live q x l eb el. keeps_at q l x (k.each live q x l eb el);
        near = k.near;
      }

  pub out_joins : n ≡ length h.links → h.refused ≡ false → marked mark_in p h.pass.kept ≡ Some (mark_in b) → IsOut (with_pass h w) p b
  out_joins size live mark =
      let near = j.near in
      let long = k.long in
      let l = some_there h.links p (omega arith) in
      let x = some_there h.blocks p (omega arith) in
      let none = not_here x.0 x.1 in
      let at : slice_get h.blocks p ≡ Some None = x.1 ∙ ap Some none in
      let due = k.each live p None l.0 at l.1 j.apart in
      let same : Some (mark_in b) ≡ Some (due_mark l.0) = sym mark ∙ due in record {
        link = l.0;
        there = l.1;
        hand = ap (λ (v : Held Blocked). is_in p v.hand) j.is ∙ in_front p h.pass.hand;
        mark = cc;
        label = j.labelled ∙ sym (ap (λ (v : Held Blocked). v.label) j.is);
      }

-- ---- nothing comes into a hand that has all

all_get : (bs : List (Option Blocked)) (p : ℕ) (x : Option Blocked) → all_here bs ≡ true → slice_get bs p ≡ Some x → (b : Blocked) × (x ≡ Some b)
all_get [] p x here e = absurd (cc)
all_get (None ∷ bs) p x here e = absurd (cc)
all_get (Some b ∷ bs) zero x here e = (b, (cc))
all_get (Some b ∷ bs) (suc p) x here e = all_get bs p x here e

pub not_joined : (h : Homed) (w : Held Blocked) (n p : ℕ) (b : Blocked) → IsSoundHome h → Joined mark_in label_in n h.pass w p b → n ≡ length h.links → all_here h.blocks ≡ true → ⊥
not_joined h w n p b k j size here =
    let near = j.near in
    let long = k.long in
    let x = some_there h.blocks p (omega arith) in
    let y = all_get h.blocks p x.0 here x.1 in
    let r = (k.here p y.0 (x.1 ∙ ap Some y.1)).0 in
    let a = j.apart in
    absurd (cc)

-- ---- a block that came is put back

-- memory was refused with a block out: it was put into its slot, with the mark and the label that it has
pub put_back : (h : Homed) (k : IsSoundHome h) (p : ℕ) (b b' : Blocked) (x : Option Blocked) (o : IsOut h p b) → h.refused ≡ false → label_in b' ≡ label_in b → x ≡ Some b' → IsSoundHome (record h { blocks = set h.blocks p x; refused = true })
put_back h k p b b' x o live label filled =
    subst (λ ls. IsSoundHome (record h { blocks = set h.blocks p x; links = ls; refused = true })) (set_there h.links p o.link o.there)
    (turned_sound h p x o.link o.link h.pass (back_turns h p o.link o.link h.pass x o.there refl o.hand (record { block = b'; label = label ∙ o.label; pass_is = refl; slot_is = filled })) true [] live (λ none. absurd (cc)) (out_sound h p b o k))
