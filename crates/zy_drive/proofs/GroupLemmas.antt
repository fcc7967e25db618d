-- Groups of cores that are dealt, driven and gathered.
use Rattle.std.proofs.Common.{◌≡◌, ℕ, zero, suc, ◌<◌, List, [], ◌∷◌, ◌++◌, length, map, get_or, true, Some, slice_get, Vec, refl, sym, ap, ◌∙◌, subst, append_assoc, append-nil, arith}
use Rattle.std.specs.Prelude.{remove}
use Rattle.std.specs.declared.alloc.Global.{Global}
use Rattle.zy_table.proofs.SliceLemmas.{get_at}
use Rattle.zy_home.specs.Home.{is_settled}
use Rattle.zy_core.specs.declared.logical_core.Core.{Core}
use Rattle.zy_core.specs.Share.{Sharing}
use Rattle.zy_core.specs.Core.{Cored, Identity, identity_of, Fits}
use Rattle.zy_core.specs.Cores.{identities, EachFits, EachSettled}
use Rattle.zy_deal.specs.Deal.{lists_of, Deals, gathered, Each, EachOfAll}
use Rattle.zy_drive.specs.declared.seat.Seat.{Seat}
use Rattle.zy_drive.specs.Seat.{seat_identities, all_of_seats, all_of_groups, AllFit, AllSettled}
use Rattle.zy_core.proofs.ListLemmas.{get_map, map_get}
use Rattle.zy_deal.proofs.DealLemmas.{dealt_each, gathers_same, gathered_each}

-- ---- what stays

-- what stays of groups is what stays of their lists
all_lists : (gs : List (Vec Core Global)) → all_of_groups gs ≡ map (map identity_of) (lists_of gs)
all_lists [] = refl
all_lists (g ∷ gs) = ap (λ l. identities g.items ∷ l) (all_lists gs)

-- groups that were dealt, and stayed what they are, give the cores as they were dealt
pub gather_same : (n : ℕ) (gs hs : List (Vec Core Global)) (xs back : List Cored) → n ≡ length xs → Deals (lists_of gs) xs → all_of_groups hs ≡ all_of_groups gs → back ≡ gathered n (lists_of hs) → identities back ≡ identities xs
gather_same n gs hs xs back count dealt same is =
    ap identities is ∙ gathers_same identity_of n (lists_of gs) (lists_of hs) xs count dealt (sym (all_lists hs) ∙ same ∙ all_lists gs)

-- ---- what each core fits

each_fits : (s : Sharing) (cs : List Cored) → Each (λ c. Fits s (identity_of c)) cs → EachFits s (identities cs)
unfolding EachFits
each_fits s cs all i d at = let m = map_get identity_of cs i d at in subst (Fits s) m.2 (all i m.0 m.1)

fits_each : (s : Sharing) (cs : List Cored) → EachFits s (identities cs) → Each (λ c. Fits s (identity_of c)) cs
unfolding EachFits
fits_each s cs fits i c at = fits i (identity_of c) (get_map identity_of cs i c at)

all_fit : (s : Sharing) (gs : List (Vec Core Global)) → EachOfAll (λ c. Fits s (identity_of c)) (lists_of gs) → AllFit s (all_of_groups gs)
all_fit s [] all = tt
all_fit s (g ∷ gs) all = (each_fits s g.items all.0, all_fit s gs all.1)

-- cores that are dealt fit in their groups
pub dealt_fit : (s : Sharing) (gs : List (Vec Core Global)) (xs : List Cored) → Deals (lists_of gs) xs → EachFits s (identities xs) → AllFit s (all_of_groups gs)
dealt_fit s gs xs dealt fits = all_fit s gs (dealt_each (λ c. Fits s (identity_of c)) (lists_of gs) xs dealt (fits_each s xs fits))

-- the cores of one of several groups fit
pub fit_at : (s : Sharing) (ids : List (List Identity)) (i : ℕ) (d : List Identity) → AllFit s ids → slice_get ids i ≡ Some d → EachFits s d
fit_at s [] i d all at = absurd (cc)
fit_at s (x ∷ xs) zero d all at = let is : x ≡ d = cc in subst (EachFits s) is all.0
fit_at s (x ∷ xs) (suc i) d all at = fit_at s xs i d all.1 at

pub fit_there : {X : Type 0} (f : X → List Identity) (s : Sharing) (cs ds : List X) (i : ℕ) (c : X) → i < length ds → c ≡ get_or ds i c → map f ds ≡ map f cs → AllFit s (map f cs) → EachFits s (f c)
fit_there f s cs ds i c lt is same all = fit_at s (map f ds) i (f c) (subst (AllFit s) (sym same) all) (get_map f ds i c (get_at ds i c c lt is))

-- ---- settled cores

all_settled : (gs : List (Vec Core Global)) → AllSettled gs → EachOfAll (λ (c : Cored). is_settled c.home ≡ true) (lists_of gs)
all_settled [] all = tt
all_settled (g ∷ gs) all = (all.0, all_settled gs all.1)

-- the cores of settled groups are settled when they are gathered
pub gather_settled : (n : ℕ) (gs : List (Vec Core Global)) (back : List Cored) → AllSettled gs → back ≡ gathered n (lists_of gs) → EachSettled back
gather_settled n gs back all is = subst EachSettled (sym is) (gathered_each (λ (c : Cored). is_settled c.home ≡ true) n (lists_of gs) (all_settled gs all))

-- one further group of settled cores
pub settled_last : (gs : List (Vec Core Global)) (g : Vec Core Global) → AllSettled gs → EachSettled g.items → AllSettled (gs ++ g ∷ [])
settled_last [] g all here = (here, tt)
settled_last (x ∷ xs) g all here = (all.0, settled_last xs g all.1 here)

-- ---- groups that come back

-- what stays of one further group
pub groups_last : (gs : List (Vec Core Global)) (g : Vec Core Global) → all_of_groups (gs ++ g ∷ []) ≡ all_of_groups gs ++ identities g.items ∷ []
groups_last [] g = refl
groups_last (x ∷ xs) g = ap (λ l. identities x.items ∷ l) (groups_last xs g)

-- the first of a list is taken, and its image is put after others
pub taken_on : {X Y : Type 0} (f : X → Y) (bs : List Y) (xs : List X) (x : X) (ys : List X) (y : Y) → 0 < length xs → x ≡ get_or xs 0 x → ys ≡ remove xs 0 → y ≡ f x → (bs ++ y ∷ []) ++ map f ys ≡ bs ++ map f xs
taken_on f bs [] x ys y some first rest is = absurd (omega arith)
taken_on f bs (z ∷ zs) x ys y some first rest is =
    append_assoc bs (y ∷ []) (map f ys) ∙ ap (λ l. bs ++ l) (λ i. (is ∙ ap f first) i ∷ map f (rest i))

-- ---- groups that get their seats

-- what stays of one more seat
pub seats_last : (ss : List Seat) (s : Seat) → all_of_seats (ss ++ s ∷ []) ≡ all_of_seats ss ++ seat_identities s ∷ []
seats_last [] s = refl
seats_last (x ∷ xs) s = ap (λ l. seat_identities x ∷ l) (seats_last xs s)

-- the first group is taken
pub fit_rest : (s : Sharing) (gs hs : List (Vec Core Global)) → hs ≡ remove gs 0 → AllFit s (all_of_groups gs) → AllFit s (all_of_groups hs)
fit_rest s [] hs rest all = subst (λ (l : List (Vec Core Global)). AllFit s (all_of_groups l)) (sym rest) tt
fit_rest s (g ∷ gs) hs rest all = subst (λ (l : List (Vec Core Global)). AllFit s (all_of_groups l)) (sym rest) all.1

-- and none is left
pub none_left : (bs all : List (List Identity)) (gs : List (Vec Core Global)) → length gs ≡ 0 → bs ++ all_of_groups gs ≡ all → bs ≡ all
none_left bs all [] none is = sym (append-nil bs) ∙ is
none_left bs all (g ∷ gs) none is = absurd (omega arith)

-- ---- members that were changed

-- members of which one measure is now what another one was
pub related_map : {X Y : Type 0} (f g : X → Y) (xs ys : List X) → length xs ≡ length ys → ((i : ℕ) (x y : X) → slice_get xs i ≡ Some x → slice_get ys i ≡ Some y → g y ≡ f x) → map g ys ≡ map f xs
related_map f g [] [] len each = refl
related_map f g [] (y ∷ ys) len each = absurd (omega arith)
related_map f g (x ∷ xs) [] len each = absurd (omega arith)
related_map f g (x ∷ xs) (y ∷ ys) len each = λ i. each 0 x y refl refl i ∷ related_map f g xs ys (omega arith) (λ j z w. each (suc j) z w) i
