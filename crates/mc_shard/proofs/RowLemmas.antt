-- Lists of keys with places: the first entry with a key, and what a change of one or of two lists changes.
use Rattle.std.proofs.Common.{◌≡◌, ℕ, zero, suc, ◌+◌, Bool, true, false, cond, List, [], ◌∷◌, ◌++◌, length, set, slice_get, refl, sym, ap, subst, ◌∙◌, arith}
use Rattle.std.specs.Prelude.{Option, Some, None}
use Rattle.std.specs.List.{remove}
use Rattle.std.specs.Cmp.{eq_by_cmp_equiv}
use Rattle.std.specs.BTreeMap.{is_at}
use Rattle.std.proofs.lemmas.Option.{same_Some}
use Rattle.mc_shard.specs.Contents.{hashed_cmp, hashed_total}
use Rattle.mc_shard.specs.Places.{Keyed, place_in, IsFirstAt, NoneBefore, IsWith, SamePlaces}
use Rattle.mc_shard.proofs.MapLemmas.{same_at}
use Rattle.mc_shard.proofs.PlaceLemmas.{first_of, lookup-append}

-- a key with its place
abbrev pub Pair : Type 0
Pair = List ℕ × ℕ

-- ---- tests of keys

-- the test of two keys is the same both ways
both_ways : (key q : List ℕ) → is_at (hashed_cmp q) key ≡ is_at (hashed_cmp key) q
both_ways key q = (eq_by_cmp_equiv hashed_total).symm q key

-- no key is at two keys
not_both : (key q x : List ℕ) (b : Bool) → is_at (hashed_cmp key) x ≡ false → is_at (hashed_cmp q) x ≡ b → b ≡ true → is_at (hashed_cmp key) q ≡ false
not_both key q x b other here is = subst (λ (k : List ℕ). is_at (hashed_cmp key) k ≡ false) (sym (same_at q x (here ∙ is))) other

swap : {X : Type 0} (a b : Bool) (x y rest : X) → (b ≡ true → a ≡ false) → cond b y (cond a x rest) ≡ cond a x (cond b y rest)
swap true true x y rest apart = cc (apart refl)
swap true false x y rest apart = refl
swap false true x y rest apart = refl
swap false false x y rest apart = refl

twice : {X : Type 0} (b : Bool) (x y rest : X) → cond b x rest ≡ cond b x (cond b y rest)
twice true x y rest = refl
twice false x y rest = refl

-- ---- the first entry with a key

before_suc : (row : Keyed) (key : List ℕ) (at : ℕ) (x : Pair) → NoneBefore row key at → slice_get row at ≡ Some x → is_at (hashed_cmp key) x.0 ≡ false → NoneBefore row key (suc at)
before_suc [] key at x none is other = cc
before_suc (y ∷ row) key zero x none is other = (subst (λ (p : Pair). is_at (hashed_cmp key) p.0 ≡ false) (sym (same_Some y x is)) other, tt)
before_suc (y ∷ row) key (suc at) x none is other = (none.0, before_suc row key at x none.1 is other)

pub before_next : (row : Keyed) (key : List ℕ) (at : ℕ) (x : Pair) → NoneBefore row key at → slice_get row at ≡ Some x → is_at (hashed_cmp key) x.0 ≡ false → NoneBefore row key (at + 1)
before_next row key at x none is other =
    let next : suc at ≡ at + 1 = omega arith in
    subst (λ (n : ℕ). NoneBefore row key n) next (before_suc row key at x none is other)

pub first_found : (row : Keyed) (key : List ℕ) (at : ℕ) (x : Pair) → NoneBefore row key at → slice_get row at ≡ Some x → is_at (hashed_cmp key) x.0 ≡ true → IsFirstAt row key at
first_found [] key at x none is here = cc
first_found (y ∷ row) key zero x none is here = subst (λ (p : Pair). is_at (hashed_cmp key) p.0 ≡ true) (sym (same_Some y x is)) here
first_found (y ∷ row) key (suc at) x none is here = (none.0, first_found row key at x none.1 is here)

pub none_found : (row : Keyed) (key : List ℕ) → NoneBefore row key (length row) → place_in row key ≡ None
none_found [] key none = refl
none_found (y ∷ row) key none = ap (λ b. cond b (Some y.1) (place_in row key)) none.0 ∙ none_found row key none.1

-- ---- a place in the row

pub item_got : (row : Keyed) (key : List ℕ) (at : ℕ) (x : Pair) → IsFirstAt row key at → slice_get row at ≡ Some x → place_in row key ≡ Some x.1
item_got [] key at x first is = absurd first
item_got (y ∷ row) key zero x first is =
    ap (λ b. cond b (Some y.1) (place_in row key)) first ∙ ap (λ (p : Pair). Some p.1) (same_Some y x is)
item_got (y ∷ row) key (suc at) x first is =
    ap (λ b. cond b (Some y.1) (place_in row key)) first.0 ∙ item_got row key at x first.1 is

-- another place takes the place of one in the row
pub item_put : (row : Keyed) (key : List ℕ) (at : ℕ) (x : Pair) (place : ℕ) → IsFirstAt row key at → slice_get row at ≡ Some x
    → IsWith row key (Some place) (set row at (x.0, place))
item_put [] key at x place first is q = absurd first
item_put (y ∷ row) key zero x place first is q =
    let same : key ≡ y.0 = same_at key y.0 first in
    let key_is : x.0 ≡ key = ap (λ (p : Pair). p.0) (sym (same_Some y x is)) ∙ sym same in
    let rest = place_in row q in
    ap (λ (k : List ℕ). cond (is_at (hashed_cmp q) k) (Some place) rest) key_is
    ∙ twice (is_at (hashed_cmp q) key) (Some place) (Some y.1) rest
    ∙ ap (λ (k : List ℕ). cond (is_at (hashed_cmp q) key) (Some place) (cond (is_at (hashed_cmp q) k) (Some y.1) rest)) same
    ∙ ap (λ b. cond b (Some place) (cond (is_at (hashed_cmp q) y.0) (Some y.1) rest)) (both_ways key q)
item_put (y ∷ row) key (suc at) x place first is q =
    ap (λ o. cond (is_at (hashed_cmp q) y.0) (Some y.1) o) (item_put row key at x place first.1 is q)
    ∙ swap (is_at (hashed_cmp key) q) (is_at (hashed_cmp q) y.0) (Some place) (Some y.1) (place_in row q) (not_both key q y.0 (is_at (hashed_cmp q) y.0) first.0 refl)

-- ---- a place after the row

joined : (row tree : Keyed) (q : List ℕ) → place_in (row ++ tree) q ≡ first_of (place_in row q) (place_in tree q)
joined row tree q = lookup-append (is_at (hashed_cmp q)) row tree

changed_by : (b : Bool) (one two place : Option ℕ) → (b ≡ true → one ≡ None) → first_of one (cond b place two) ≡ cond b place (first_of one two)
changed_by true one two place none = ap (λ o. first_of o place) (none refl)
changed_by false one two place none = refl

none_at : (row : Keyed) (key q : List ℕ) → place_in row key ≡ None → is_at (hashed_cmp key) q ≡ true → place_in row q ≡ None
none_at row key q none is = subst (λ (k : List ℕ). place_in row k ≡ None) (same_at key q is) none

-- the tree changes at a key that is not in the row
pub tree_changed : (row tree tree' : Keyed) (key : List ℕ) (place : Option ℕ) → place_in row key ≡ None → IsWith tree key place tree' → IsWith (row ++ tree) key place (row ++ tree')
tree_changed row tree tree' key place none changed q =
    joined row tree' q
    ∙ ap (first_of (place_in row q)) (changed q)
    ∙ changed_by (is_at (hashed_cmp key) q) (place_in row q) (place_in tree q) place (none_at row key q none)
    ∙ ap (λ o. cond (is_at (hashed_cmp key) q) place o) (sym (joined row tree q))

put_by : (b : Bool) (one two : Option ℕ) (place : ℕ) → first_of (cond b (Some place) one) two ≡ cond b (Some place) (first_of one two)
put_by true one two place = refl
put_by false one two place = refl

-- the row gets a place at a key
pub row_changed : (row row' tree : Keyed) (key : List ℕ) (place : ℕ) → IsWith row key (Some place) row' → IsWith (row ++ tree) key (Some place) (row' ++ tree)
row_changed row row' tree key place changed q =
    joined row' tree q
    ∙ ap (λ o. first_of o (place_in tree q)) (changed q)
    ∙ put_by (is_at (hashed_cmp key) q) (place_in row q) (place_in tree q) place
    ∙ ap (λ o. cond (is_at (hashed_cmp key) q) (Some place) o) (sym (joined row tree q))

-- an entry in front of others
pub in_front : (tree : Keyed) (key : List ℕ) (place : ℕ) → IsWith tree key (Some place) ((key, place) ∷ tree)
in_front tree key place q = ap (λ b. cond b (Some place) (place_in tree q)) (both_ways key q)

append_one : (row tree : Keyed) (x : Pair) → (row ++ x ∷ []) ++ tree ≡ row ++ (x ∷ tree)
append_one [] tree x = refl
append_one (y ∷ row) tree x = ap (λ es. y ∷ es) (append_one row tree x)

-- the row gets an entry
pub row_longer : (row tree : Keyed) (key : List ℕ) (place : ℕ) → place_in row key ≡ None → IsWith (row ++ tree) key (Some place) ((row ++ (key, place) ∷ []) ++ tree)
row_longer row tree key place none =
    subst (λ es. IsWith (row ++ tree) key (Some place) es) (sym (append_one row tree (key, place))) (tree_changed row tree ((key, place) ∷ tree) key (Some place) none (in_front tree key place))

-- the last entry of the row goes to the tree
pub entry_moved : (row tree tree' : Keyed) (key : List ℕ) (place : ℕ) → IsWith tree key (Some place) tree' → SamePlaces ((row ++ (key, place) ∷ []) ++ tree) (row ++ tree')
entry_moved row tree tree' key place changed q =
    joined row tree' q
    ∙ ap (first_of (place_in row q)) (changed q ∙ sym (in_front tree key place q))
    ∙ sym (joined row ((key, place) ∷ tree) q)
    ∙ ap (λ es. place_in es q) (sym (append_one row tree (key, place)))

-- ---- a key taken out

-- one entry is taken out
pub one_out : (row : Keyed) (key : List ℕ) (at : ℕ) → IsFirstAt row key at → (q : List ℕ) → is_at (hashed_cmp key) q ≡ false → place_in (remove row at) q ≡ place_in row q
one_out [] key at first q other = absurd first
one_out (y ∷ row) key zero first q other =
    let apart : is_at (hashed_cmp q) y.0 ≡ false = ap (λ (k : List ℕ). is_at (hashed_cmp q) k) (sym (same_at key y.0 first)) ∙ both_ways key q ∙ other in
    sym (ap (λ b. cond b (Some y.1) (place_in row q)) apart)
one_out (y ∷ row) key (suc at) first q other = ap (λ o. cond (is_at (hashed_cmp q) y.0) (Some y.1) o) (one_out row key at first.1 q other)

out_by : (b : Bool) (new old : Option ℕ) → (b ≡ true → new ≡ None) → (b ≡ false → new ≡ old) → new ≡ cond b None old
out_by true new old here other = here refl
out_by false new old here other = other refl

-- all entries of a key are out
pub all_out : (row row' : Keyed) (key : List ℕ) → place_in row' key ≡ None → ((q : List ℕ) → is_at (hashed_cmp key) q ≡ false → place_in row' q ≡ place_in row q) → IsWith row key None row'
all_out row row' key none others q = out_by (is_at (hashed_cmp key) q) (place_in row' q) (place_in row q) (none_at row' key q none) (others q)

out_of : (b : Bool) (one two : Option ℕ) → first_of (cond b None one) (cond b None two) ≡ cond b None (first_of one two)
out_of true one two = refl
out_of false one two = refl

-- a key is taken out of the row and of the tree
pub taken_out : (row tree row' tree' : Keyed) (key : List ℕ) → IsWith row key None row' → IsWith tree key None tree' → IsWith (row ++ tree) key None (row' ++ tree')
taken_out row tree row' tree' key of_row of_tree q =
    joined row' tree' q
    ∙ ap (λ o. first_of o (place_in tree' q)) (of_row q)
    ∙ ap (first_of (cond (is_at (hashed_cmp key) q) None (place_in row q))) (of_tree q)
    ∙ out_of (is_at (hashed_cmp key) q) (place_in row q) (place_in tree q)
    ∙ ap (λ o. cond (is_at (hashed_cmp key) q) None o) (sym (joined row tree q))
