-- Lists of seats and of parkers, of which one was changed or added.
use Rattle.std.proofs.Common.{◌≡◌, ◌≢◌, ℕ, zero, suc, ◌+◌, ◌≤◌, ◌==◌, Bool, true, false, List, [], ◌∷◌, ◌++◌, set, map, length, Option, Some, None, slice_get, if◌then◌else◌, refl, sym, ap, ◌∙◌, arith}
use Rattle.std.proofs.lemmas.List.{length-map}
use Rattle.zy_base.proofs.SetLemmas.{slice_get-set_other}
use Rattle.std.specs.Int.{bit_at}
use Rattle.atomic_table.specs.Seated.{TableId}
use Rattle.zy_park.specs.declared.view.View.{View}
use Rattle.zy_park.specs.Token.{rings, unrung}
use Rattle.zy_park.specs.Bell.{Seated, seated, new_seat, tables_of, views_of, AreParkers}
use Rattle.zy_park.specs.Pass.{Rooted, new_root, IsFree, GaveNone, change_at, rung_by}

-- one seat learned of a step of its own
pub set_views : (f : View → View) (seats : List Seated) (i : ℕ) (s : Seated) → slice_get seats i ≡ Some s
    → views_of (set seats i (seated s.table (f s.view))) ≡ change_at f i (views_of seats)
set_views f [] i s e = absurd (cc)
set_views f (x ∷ xs) zero s e = let is : x ≡ s = cc in ap (λ (y : Seated). f y.view ∷ views_of xs) (sym is)
set_views f (x ∷ xs) (suc i) s e = ap (λ vs. x.view ∷ vs) (set_views f xs i s e)

pub set_tables : (w : View) (seats : List Seated) (i : ℕ) (s : Seated) → slice_get seats i ≡ Some s
    → tables_of (set seats i (seated s.table w)) ≡ tables_of seats
set_tables w [] i s e = absurd (cc)
set_tables w (x ∷ xs) zero s e = let is : x ≡ s = cc in ap (λ (y : Seated). y.table ∷ tables_of xs) (sym is)
set_tables w (x ∷ xs) (suc i) s e = ap (λ ts. x.table ∷ ts) (set_tables w xs i s e)

-- ---- tokens put by a word

-- the views from this core on, after the tokens of the first n of these cores were put
abbrev pub rung_first : ℕ → ℕ → ℕ → List View → List View
rung_first zero word core vs = vs
rung_first (suc n) word core [] = []
rung_first (suc n) word core (v ∷ vs) = (if bit_at word core == 1 then rings v else v) ∷ rung_first n word (core + 1) vs

-- one further core
rung_one : (n word core : ℕ) (vs : List View) → (bit_at word (core + n) == 1) ≡ true → change_at rings n (rung_first n word core vs) ≡ rung_first (suc n) word core vs
rung_one zero word core [] is = refl
rung_one zero word core (v ∷ vs) is =
    let there : core ≡ core + 0 = omega arith in
    let here : (bit_at word core == 1) ≡ true = ap (λ k. bit_at word k == 1) there ∙ is in
    ap (λ (b : Bool). (if b then rings v else v) ∷ vs) (sym here)
rung_one (suc n) word core [] is = refl
rung_one (suc n) word core (v ∷ vs) is = let next : core + 1 + n ≡ core + suc n = omega arith in ap (λ ws. (if bit_at word core == 1 then rings v else v) ∷ ws)
    (rung_one n word (core + 1) vs (ap (λ k. bit_at word k == 1) next ∙ is))

rung_none : (n word core : ℕ) (vs : List View) → (bit_at word (core + n) == 1) ≡ false → rung_first n word core vs ≡ rung_first (suc n) word core vs
rung_none zero word core [] is = refl
rung_none zero word core (v ∷ vs) is =
    let there : core ≡ core + 0 = omega arith in
    let here : (bit_at word core == 1) ≡ false = ap (λ k. bit_at word k == 1) there ∙ is in
    ap (λ (b : Bool). (if b then rings v else v) ∷ vs) (sym here)
rung_none (suc n) word core [] is = refl
rung_none (suc n) word core (v ∷ vs) is = let next : core + 1 + n ≡ core + suc n = omega arith in ap (λ ws. (if bit_at word core == 1 then rings v else v) ∷ ws)
    (rung_none n word (core + 1) vs (ap (λ k. bit_at word k == 1) next ∙ is))

-- the core with this number, whose bit is 1, or is not
pub rung_next : (n word : ℕ) (vs : List View) → (bit_at word n == 1) ≡ true → change_at rings n (rung_first n word 0 vs) ≡ rung_first (n + 1) word 0 vs
rung_next n word vs is = let z : 0 + n ≡ n = omega arith in let next : suc n ≡ n + 1 = omega arith in
    rung_one n word 0 vs (ap (λ k. bit_at word k == 1) z ∙ is) ∙ ap (λ k. rung_first k word 0 vs) next

pub kept_next : (n word : ℕ) (vs : List View) → (bit_at word n == 1) ≡ false → rung_first n word 0 vs ≡ rung_first (n + 1) word 0 vs
kept_next n word vs is = let z : 0 + n ≡ n = omega arith in let next : suc n ≡ n + 1 = omega arith in
    rung_none n word 0 vs (ap (λ k. bit_at word k == 1) z ∙ is) ∙ ap (λ k. rung_first k word 0 vs) next

-- all of them
pub rung_all : (n word core : ℕ) (vs : List View) → length vs ≤ n → rung_first n word core vs ≡ rung_by word core vs
rung_all zero word core [] le = refl
rung_all zero word core (v ∷ vs) le = absurd (omega arith)
rung_all (suc n) word core [] le = refl
rung_all (suc n) word core (v ∷ vs) le = ap (λ ws. (if bit_at word core == 1 then rings v else v) ∷ ws) (rung_all n word (core + 1) vs (omega arith))

-- ---- new seats

pub new_tables : (ids : List TableId) → tables_of (map new_seat ids) ≡ ids
new_tables [] = refl
new_tables (id ∷ ids) = ap (λ ts. id ∷ ts) (new_tables ids)

pub new_views : (ids : List TableId) → views_of (map new_seat ids) ≡ map (λ (id : TableId). unrung) ids
new_views [] = refl
new_views (id ∷ ids) = ap (λ vs. unrung ∷ vs) (new_views ids)

-- ---- parkers

-- a parker was added
pub parkers_end : (seats : List Seated) (ss : List (Option TableId)) (s : Seated) (t : TableId) → AreParkers (tables_of seats) ss → t ≡ s.table
    → AreParkers (tables_of (seats ++ s ∷ [])) (ss ++ Some t ∷ [])
parkers_end [] [] s t all is = (is, tt)
parkers_end [] (p ∷ ps) s t all is = absurd all
parkers_end (x ∷ xs) [] s t all is = absurd all
parkers_end (x ∷ xs) (p ∷ ps) s t all is = (all.0, parkers_end xs ps s t all.1 is)

-- a parker was taken out
pub parkers_out : (ts : List TableId) (ss : List (Option TableId)) (i : ℕ) → AreParkers ts ss → AreParkers ts (set ss i None)
parkers_out [] [] i all = tt
parkers_out [] (s ∷ ss) i all = absurd all
parkers_out (t ∷ ts) [] i all = absurd all
parkers_out (t ∷ ts) (s ∷ ss) zero all = (tt, all.1)
parkers_out (t ∷ ts) (s ∷ ss) (suc i) all = (all.0, parkers_out ts ss i all.1)

-- a parker is of the table at its place
pub parker_at : (ts : List TableId) (ss : List (Option TableId)) (i : ℕ) (s : TableId) → AreParkers ts ss → slice_get ss i ≡ Some (Some s) → slice_get ts i ≡ Some s
parker_at [] [] i s all e = absurd (cc)
parker_at [] (p ∷ ps) i s all e = absurd all
parker_at (t ∷ ts) [] i s all e = absurd all
parker_at (t ∷ ts) (None ∷ ps) zero s all e = absurd (cc)
parker_at (t ∷ ts) (Some p ∷ ps) zero s all e = let is : p ≡ s = cc in ap Some (sym all.0 ∙ is)
parker_at (t ∷ ts) (p ∷ ps) (suc i) s all e = parker_at ts ps i s all.1 e

-- a new root gave no pass
pub none_given : (ids : List TableId) → GaveNone (new_root ids)
none_given [] core lt = absurd (omega arith)
none_given (id ∷ ids) zero lt = refl
none_given (id ∷ ids) (suc core) lt = none_given ids core (omega arith)

-- giving one pass gives no other
pub others_free : (root new : Rooted) (core : ℕ) → new.given ≡ set root.given core true → (other : ℕ) → other ≢ core → IsFree root other → IsFree new other
others_free root new core is other ne free = ap (λ gs. slice_get gs other) is ∙ slice_get-set_other root.given core other true ne ∙ free

-- ---- lengths

pub table_count : (seats : List Seated) (ids : List TableId) → tables_of seats ≡ ids → length seats ≡ length ids
table_count seats ids is = sym (length-map seats (λ (s : Seated). s.table)) ∙ ap (λ (l : List TableId). length l) is
