-- Cores that stay what they are while one after the other is changed, and members of other lists.
use Rattle.std.proofs.Common.{◌≡◌, ℕ, zero, suc, ◌+◌, ◌<◌, ◌≤◌, List, [], ◌∷◌, length, get_or, set, take, Some, slice_get, true, false, Bool, refl, sym, ap, subst, ◌∙◌, arith, add-one}
use Rattle.std.specs.Prelude.{not, ◌&&◌, ◌||◌}
use mathlib.Core.Logic.{dite}
use native.Mathlib.Decide.{ℕ_discrete}
use Rattle.zy_table.proofs.SliceLemmas.{get_at, get_below, get_set_same, get_set_else}
use Rattle.zy_rx.specs.Ring.{RingName}
use Rattle.zy_home.specs.Home.{is_settled}
use Rattle.zy_core.specs.Share.{Sharing}
use Rattle.zy_control.specs.declared.view.Role.{Role}
use Rattle.zy_control.specs.declared.view.Role.TheVariants.{Root, Core, Watcher}
use Rattle.zy_control.specs.View.{has_counted, counted, MustHaveCounted}
use Rattle.zy_core.specs.Core.{Cored, identity_of, Fits, with_count}
use Rattle.zy_core.specs.Cores.{identities, EachFits, AreInlets}
use Rattle.zy_core.proofs.ListLemmas.{get_map, map_set}
use Rattle.zy_rounds.specs.Counting.{IsNoted, NotesTo, is_due, some_due}
use Rattle.zy_rounds.specs.Turns.{turns_of}

-- ---- one of the cores

pub fits_there : (s : Sharing) (cs ds : List Cored) (i : ℕ) (c : Cored) → i < length ds → c ≡ get_or ds i c → identities ds ≡ identities cs → EachFits s (identities cs) → Fits s (identity_of c)
unfolding EachFits
fits_there s cs ds i c lt is same fits = fits i (identity_of c) (ap (λ l. slice_get l i) (sym same) ∙ get_map identity_of ds i c (get_at ds i c c lt is))

pub inlet_there : (rings : List RingName) (cs ds : List Cored) (i : ℕ) (c : Cored) → i < length ds → c ≡ get_or ds i c → identities ds ≡ identities cs → AreInlets rings (identities cs) → slice_get rings c.home.core ≡ Some c.outlet.ring
inlet_there rings cs ds i c lt is same inlets = inlets i (identity_of c) (ap (λ l. slice_get l i) (sym same) ∙ get_map identity_of ds i c (get_at ds i c c lt is))

pub turns_there : (cs ds : List Cored) (i : ℕ) (c d : Cored) → i < length ds → c ≡ get_or ds i c → d.turns ≡ c.turns → turns_of ds ≡ turns_of cs → turns_of (set ds i d) ≡ turns_of cs
turns_there cs ds i c d lt is e same = map_set (λ (x : Cored). x.turns) ds i c d (get_at ds i c c lt is) e ∙ same

pub same_there : (cs ds : List Cored) (i : ℕ) (c d : Cored) → i < length ds → c ≡ get_or ds i c → identity_of d ≡ identity_of c → identities ds ≡ identities cs → identities (set ds i d) ≡ identities cs
same_there cs ds i c d lt is e same = map_set identity_of ds i c d (get_at ds i c c lt is) e ∙ same

-- ---- cores that have a property

module _ (P : Cored → Type 0) where
  -- each core below i has it
  abbrev pub HaveBelow : ℕ → List Cored → Type 0
  HaveBelow i cs = (k : ℕ) (c : Cored) → k < i → slice_get cs k ≡ Some c → P c

  -- the next core has it after it was changed
  pub have_more : (i : ℕ) (cs : List Cored) (d : Cored) → P d → HaveBelow i cs → HaveBelow (i + 1) (set cs i d)
  have_more i cs d here below k x lt e = dite (ℕ_discrete k i)
      (λ is. let was = get_set_same cs i d x (ap (slice_get (set cs i d)) (sym is) ∙ e) in subst P was here)
      (λ ne. below k x (omega arith) (sym (get_set_else cs i k d ne) ∙ e))

  -- all have it
  pub have_all : (i : ℕ) (cs : List Cored) → length cs ≤ i → HaveBelow i cs → (k : ℕ) (c : Cored) → slice_get cs k ≡ Some c → P c
  have_all i cs le below k c at = below k c (let lt = get_below cs k c at in omega arith) at

-- ---- members of a list that are related to what they became

-- the members from i on are as they were
abbrev pub SameFrom : {X : Type 0} → ℕ → List X → List X → Type 0
SameFrom i cs ds = (k : ℕ) → i ≤ k → slice_get ds k ≡ slice_get cs k

-- so are those after the next one, once it was changed
pub same_more : {X : Type 0} (i : ℕ) (cs ds : List X) (d : X) → SameFrom i cs ds → SameFrom (i + 1) cs (set ds i d)
same_more i cs ds d same k le = get_set_else ds i k d (λ e. absurd (omega arith)) ∙ same k (omega arith)

module _ {X : Type 0} (R : X → X → Type 0) where
  -- each member below i is related to what it became
  abbrev pub RelatedBelow : ℕ → List X → List X → Type 0
  RelatedBelow i cs ds = (k : ℕ) (c d : X) → k < i → slice_get cs k ≡ Some c → slice_get ds k ≡ Some d → R c d

  -- so is the next one, once it was changed
  pub related_more : (i : ℕ) (cs ds : List X) (c d : X) → slice_get ds i ≡ Some c → SameFrom i cs ds → R c d → RelatedBelow i cs ds
      → RelatedBelow (i + 1) cs (set ds i d)
  related_more i cs ds c d there same here below k x y lt was is = dite (ℕ_discrete k i)
      (λ e. let after : d ≡ y = get_set_same ds i d y (ap (slice_get (set ds i d)) (sym e) ∙ is) in
      let both : Some c ≡ Some x = sym there ∙ same i (omega arith) ∙ ap (slice_get cs) (sym e) ∙ was in
      let before : c ≡ x = cc in subst (λ z. R z y) before (subst (R c) after here))
      (λ ne. below k x y (omega arith) was (sym (get_set_else ds i k d ne) ∙ is))

  -- all are
  pub related_all : (i : ℕ) (cs ds : List X) → length ds ≤ i → RelatedBelow i cs ds → (k : ℕ) (c d : X) → slice_get cs k ≡ Some c → slice_get ds k ≡ Some d → R c d
  related_all i cs ds le below k c d was is = below k c d (let lt = get_below ds k d is in omega arith) was is

-- ---- cores that count themselves

-- a core that has counted itself must have
pub counted_must : (r : Role) → has_counted r ≡ true → MustHaveCounted r
counted_must (Root given) e = tt
counted_must (Core number counted announced) e = e
counted_must Watcher e = tt

-- and so it is after it counted itself
pub counting_must : (r : Role) → MustHaveCounted (counted r)
counting_must (Root given) = tt
counting_must (Core number counted announced) = refl
counting_must Watcher = tt

-- a core that counted itself if it was settled and had not done so is noted
pub noted_by : (before after : Cored) (now : Bool) → now ≡ (not (has_counted before.control.role) && is_settled before.home)
    → (now ≡ true → after ≡ with_count after.control.trace.done.value before) → (now ≡ false → after ≡ before) → IsNoted after
noted_by before after true is counts keeps settled =
    subst (λ (c : Cored). MustHaveCounted c.control.role) (sym (counts refl)) (counting_must before.control.role)
noted_by before after false is counts keeps settled = let same = keeps refl in
    subst (λ (c : Cored). MustHaveCounted c.control.role) (sym same)
    (counted_must before.control.role (had (has_counted before.control.role) (is_settled before.home) is (ap (λ (c : Cored). is_settled c.home) (sym same) ∙ settled)))
  where
    had : (a b : Bool) → false ≡ (not a && b) → b ≡ true → a ≡ true
    had true b e f = refl
    had false b e f = absurd (cc)

-- what such a core does
pub notes_by : (before after : Cored) (now : Bool) → now ≡ is_due before → (now ≡ true → after ≡ with_count after.control.trace.done.value before) → (now ≡ false → after ≡ before) → NotesTo before after
notes_by before after now is counts keeps = record { counted = λ e. (after.control.trace.done.value, counts (is ∙ e)); kept = λ e. keeps (is ∙ e) }

-- and the number of its turns
pub note_turns : (before after : Cored) → NotesTo before after → after.turns ≡ before.turns
note_turns before after to = by_due (is_due before) refl
  where
    by_due : (b : Bool) → is_due before ≡ b → after.turns ≡ before.turns
    by_due true e = ap (λ (c : Cored). c.turns) (to.counted e).1
    by_due false e = ap (λ (c : Cored). c.turns) (to.kept e)

-- one core more may be due
pub due_more : (cs : List Cored) (i : ℕ) (c : Cored) → slice_get cs i ≡ Some c → some_due (take (i + 1) cs) ≡ (some_due (take i cs) || is_due c)
due_more cs i c at = rw add-one (next cs i c at)
  where
    or_none : (a : Bool) → (a || false) ≡ a
    or_none true = refl
    or_none false = refl

    or_both : (a b d : Bool) → (a || (b || d)) ≡ ((a || b) || d)
    or_both true b d = refl
    or_both false b d = refl

    next : (cs : List Cored) (i : ℕ) (c : Cored) → slice_get cs i ≡ Some c → some_due (take (suc i) cs) ≡ (some_due (take i cs) || is_due c)
    next [] i c at = absurd (cc)
    next (x ∷ xs) zero c at = let is : x ≡ c = cc in or_none (is_due x) ∙ ap is_due is
    next (x ∷ xs) (suc i) c at = ap (λ b. is_due x || b) (next xs i c at) ∙ or_both (is_due x) (some_due (take i xs)) (is_due c)
