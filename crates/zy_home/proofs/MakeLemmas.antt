-- A home that is made of its parts keeps its rule, and has received nothing.
use Rattle.std.specs.Prelude.{map, option_map, take}
use Rattle.std.specs.List.{AllByRecursion}
use Rattle.std.proofs.Common.{◌≡◌, ℕ, zero, suc, ◌<◌, ◌≤◌, List, [], ◌∷◌, ◌++◌, length, true, false, Option, Some, slice_get, refl, sym, ap, ◌∙◌, subst, arith}
use Rattle.std.proofs.lemmas.List.{length-map}
use Rattle.std.proofs.lemmas.Option.{slice_get-map}
use Rattle.zy_table.specs.Member.{is_in}
use Rattle.zy_table.specs.declared.name.Name.{Name}
use Rattle.zy_table.proofs.SliceLemmas.{get_below}
use Rattle.zy_rx.specs.Ring.{RingName}
use Rattle.zy_shuffle.specs.Pass.{Held}
use Rattle.zy_conn.specs.Ring.{EventInlet}
use Rattle.zy_conn.specs.Work.{texts_all, texts_taken}
use Rattle.zy_calls.specs.Output.{Output}
use Rattle.zy_home.proofs.JoinLemmas.{some_there}
use Rattle.zy_conn.specs.Block.{Blocked, label_in}
use Rattle.zy_home.specs.Link.{Link, IsFresh, conn_of}
use Rattle.zy_home.proofs.LinkLemmas.{stands_fresh}
use Rattle.zy_home.specs.Own.{own_conns}
use Rattle.zy_home.specs.Parts.{AreParts, AreFresh, IsNew, IsUnused, conns_of_blocks, rings_of_blocks, rings_of_inlets}
use Rattle.zy_home.specs.declared.parts.HomeParts.{HomeParts}
use Rattle.zy_home.specs.Home.{Homed, HomeStands, IsSoundHome, IsAt, conns_in}

-- ---- lists

pub all_at : {A : Type 0} (P : A → Type 0) (xs : List A) (p : ℕ) (x : A) → AllByRecursion P xs → slice_get xs p ≡ Some x → P x
all_at P [] p x all e = absurd (cc)
all_at P (y ∷ ys) zero x all e = let is : y ≡ x = cc in subst P is all.0
all_at P (y ∷ ys) (suc p) x all e = all_at P ys p x all.1 e

slot_at : (blocks : List Blocked) (p : ℕ) (x : Option Blocked) → slice_get (map Some blocks) p ≡ Some x → (b : Blocked) × (slice_get blocks p ≡ Some b) × (x ≡ Some b)
slot_at [] p x e = absurd (cc)
slot_at (b ∷ bs) zero x e = (b, refl, (cc))
slot_at (b ∷ bs) (suc p) x e = slot_at bs p x e

-- ---- links that are made

pub fresh_conns : (bs : List Blocked) (is : List EventInlet) (ls : List Link) → AreFresh bs is ls → conns_in ls ≡ conns_of_blocks bs
fresh_conns [] [] [] f = refl
fresh_conns [] [] (l ∷ ls) f = absurd f
fresh_conns [] (i ∷ is) ls f = absurd f
fresh_conns (b ∷ bs) [] ls f = absurd f
fresh_conns (b ∷ bs) (i ∷ is) [] f = absurd f
fresh_conns (b ∷ bs) (i ∷ is) (l ∷ ls) f = λ j. (f.0.output j).conn ∷ fresh_conns bs is ls f.1 j

-- a link with the inlet that it was made with
pub record MadeAt (is : List EventInlet) (p : ℕ) (b : Blocked) (l : Link) : Type 0 where
  pub inlet : EventInlet
  pub there : slice_get is p ≡ Some inlet
  pub fresh : IsFresh b.work.conn inlet l

pub fresh_at : (bs : List Blocked) (is : List EventInlet) (ls : List Link) (p : ℕ) (b : Blocked) (l : Link) → AreFresh bs is ls → slice_get bs p ≡ Some b → slice_get ls p ≡ Some l → MadeAt is p b l
fresh_at [] is ls p b l f eb el = absurd (cc)
fresh_at (c ∷ bs) [] ls p b l f eb el = absurd f
fresh_at (c ∷ bs) (i ∷ is) [] p b l f eb el = absurd f
fresh_at (c ∷ bs) (i ∷ is) (m ∷ ls) zero b l f eb el =
    let one : c ≡ b = cc in let two : m ≡ l = cc in
    record { inlet = i; there = refl; fresh = subst (λ z. IsFresh z.work.conn i l) one (subst (IsFresh c.work.conn i) two f.0) }
fresh_at (c ∷ bs) (i ∷ is) (m ∷ ls) (suc p) b l f eb el =
    let r = fresh_at bs is ls p b l f.1 eb el in record { inlet = r.inlet; there = r.there; fresh = r.fresh }

-- one further link
pub fresh_push : (bs : List Blocked) (is : List EventInlet) (ls : List Link) (b : Blocked) (i : EventInlet) (l : Link) → AreFresh bs is ls → IsFresh b.work.conn i l → AreFresh (bs ++ b ∷ []) (is ++ i ∷ []) (ls ++ l ∷ [])
fresh_push [] [] [] b i l f g = (g, tt)
fresh_push [] [] (m ∷ ls) b i l f g = absurd f
fresh_push [] (j ∷ is) ls b i l f g = absurd f
fresh_push (c ∷ bs) [] ls b i l f g = absurd f
fresh_push (c ∷ bs) (j ∷ is) [] b i l f g = absurd f
fresh_push (c ∷ bs) (j ∷ is) (m ∷ ls) b i l f g = (f.0, fresh_push bs is ls b i l f.1 g)

-- ---- the home

-- a new block is idle and has the expected mark
new_at : (label : Name) (pass : Held Blocked) (p : ℕ) (b : Blocked) (i : EventInlet) (l : Link) → IsNew label b → IsFresh b.work.conn i l → i.ring ≡ b.work.ring → i.sent ≡ [] → IsAt [] pass p l (Some b)
new_at label pass p b i l n f ring unused =
    let shown : take b.work.shown (texts_all b.work) ≡ [] = ap (λ k. take k (texts_all b.work)) n.shown in
    let conn : b.work.conn ≡ conn_of l = ap (λ (z : Output). z.conn) (sym f.output) in
    let is : b.work.ring ≡ l.inlet.ring = sym ring ∙ ap (λ (z : EventInlet). z.ring) (sym f.inlet_is) in
    let texts : texts_taken b.work ≡ l.output.texts = shown ∙ ap (λ (z : Output). z.texts) (sym f.output) in (
      (λ j. (conn j, (is j, texts j))),
      λ _. record {
        begun = n.begun;
        known = n.known;
        batch = n.batch;
        taken = n.taken ∙ sym unused ∙ ap (λ (z : EventInlet). z.sent) (sym f.inlet_is);
        waiting = f.waiting;
        finished = ap (λ (z : Output). z.finished) f.output ∙ sym n.finished;
      },
    )

module _ (core cores count : ℕ) (pass : Held Blocked) (blocks : List Blocked) (inlets : List EventInlet) (links : List Link) (parts : HomeParts) (is_pass : pass ≡ parts.pass) (is_blocks : blocks ≡ parts.blocks) (is_inlets : inlets ≡ parts.inlets) (fits : AreParts core cores count parts) (fresh : AreFresh blocks inlets links) where
  -- the home that is made
  abbrev pub made : Homed
  made = record { core = core; cores = cores; count = count; pass = pass; blocks = map Some blocks; links = links; ended = false; refused = false }

  pub made_conns : conns_in links ≡ own_conns core cores count
  made_conns = fresh_conns blocks inlets links fresh ∙ ap conns_of_blocks is_blocks ∙ fits.conns

  -- there is a link for each block
  long : length links ≡ length blocks
  long = sym (length-map links conn_of) ∙ ap (λ (l : List ℕ). length l) (fresh_conns blocks inlets links fresh) ∙ length-map blocks (λ (b : Blocked). b.work.conn)

  hand_at : (p : ℕ) (b : Blocked) → slice_get blocks p ≡ Some b → is_in p pass.hand ≡ true
  hand_at p b e =
      let near = get_below blocks p b e in
      let size = ap (λ (l : List Blocked). length l) is_blocks in
      ap (λ (v : Held Blocked). is_in p v.hand) is_pass ∙ fits.hand p (omega arith)

  new_is : (p : ℕ) (b : Blocked) → slice_get blocks p ≡ Some b → IsNew parts.pass.label b
  new_is p b e = all_at (IsNew parts.pass.label) parts.blocks p b fits.new (ap (λ bs. slice_get bs p) (sym is_blocks) ∙ e)

  ring_at : (p : ℕ) (b : Blocked) (i : EventInlet) → slice_get blocks p ≡ Some b → slice_get inlets p ≡ Some i → i.ring ≡ b.work.ring
  ring_at p b i eb ei =
      let left : slice_get (rings_of_inlets inlets) p ≡ Some i.ring = slice_get-map (λ (z : EventInlet). z.ring) inlets p ∙ ap (option_map (λ (z : EventInlet). z.ring)) ei in
      let right : slice_get (rings_of_blocks blocks) p ≡ Some b.work.ring = slice_get-map (λ (z : Blocked). z.work.ring) blocks p ∙ ap (option_map (λ (z : Blocked). z.work.ring)) eb in
      let same : rings_of_inlets inlets ≡ rings_of_blocks blocks = ap rings_of_inlets is_inlets ∙ fits.rings ∙ ap rings_of_blocks (sym is_blocks) in
      let both : Some i.ring ≡ Some b.work.ring = sym left ∙ ap (λ (l : List RingName). slice_get l p) same ∙ right in cc

  unused_at : (p : ℕ) (i : EventInlet) → slice_get inlets p ≡ Some i → i.sent ≡ []
  unused_at p i e = all_at IsUnused parts.inlets p i fits.unused (ap (λ is. slice_get is p) (sym is_inlets) ∙ e)

  is_at : (p : ℕ) (b : Blocked) (l : Link) → slice_get blocks p ≡ Some b → slice_get links p ≡ Some l → IsAt [] pass p l (Some b)
  is_at p b l eb el =
      let r = fresh_at blocks inlets links p b l fresh eb el in
      new_at parts.pass.label pass p b r.inlet l (new_is p b eb) r.fresh (ring_at p b r.inlet eb r.there) (unused_at p r.inlet r.there)

  pub made_keeps : core < cores → cores ≤ 64 → IsSoundHome made
  made_keeps below few = record {
    core = below;
    cores = few;
    conns = made_conns;
    long = length-map blocks (λ (b : Blocked). Some b) ∙ sym long;
    places = ap (λ (v : Held Blocked). v.table.slots) is_pass ∙ fits.places ∙ ap (λ (l : List Blocked). length l) (sym is_blocks) ∙ sym long;
    here = λ p b e.
        let s = slot_at blocks p (Some b) e in
        let same : s.0 ≡ b = (let one = s.2 in cc) in
        (hand_at p s.0 s.1, ap label_in (sym same) ∙ (new_is p s.0 s.1).labelled ∙ ap (λ (v : Held Blocked). v.label) (sym is_pass));
    each = λ live p x l eb el. let s = slot_at blocks p x eb in subst (IsAt [] pass p l) (sym s.2) (is_at p s.0 l s.1 el);
    near = λ live p e. absurd (cc);
  }

  pub made_stands : HomeStands made []
  made_stands = record {
    ended = λ c. refl;
    links = λ p l e.
        let near = get_below links p l e in
        let b = some_there blocks p (omega (arith, long)) in
        let r = fresh_at blocks inlets links p b.0 l fresh b.1 e in
        stands_fresh b.0.work.conn r.inlet l r.fresh (unused_at p r.inlet r.there);
  }
