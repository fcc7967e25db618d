-- The entries of an ordered map, as a finite map: lookups, and the effect of a change at one key.
use Rattle.std.proofs.Common.{◌≡◌, ℕ, List, [], ◌∷◌, refl, sym, ap, subst, ◌∙◌}
use Rattle.std.specs.Prelude.{Option, Some, None, cond, true, false}
use Rattle.std.specs.declared.cmp.Ordering.{Ordering}
use Rattle.std.specs.declared.cmp.Ordering.TheVariants.{Less, Equal, Greater}
use Rattle.std.specs.Ordering.{nat_cmp, is_eq, ordering_then, eq_by_cmp}
use Rattle.std.specs.Cmp.{eq_by_cmp_equiv, nat_cmp_total}
use Rattle.std.proofs.lemmas.Cmp.{tied_itself}
use Rattle.std.specs.Cmp.Lexicographic.{slice_cmp, nat_list_cmp_total}
use Rattle.std.specs.FinMap.{find, get, insert, remove, get-insert, get-remove, get-from_entries, same_map, slice_cmp-IsAntisymmetric, nat_cmp-IsAntisymmetric}
use Rattle.std.specs.BTreeMap.{is_at}
use Rattle.mc_calls.specs.declared.item.Item.{Item}
use Rattle.mc_calls.specs.Key.{hash_of}
use Rattle.mc_shard.specs.Contents.{hashed_cmp, hashed_total, item_in, items_in}

-- keys that differ are ordered by their hashes, or by themselves where the hashes are equal
differ_by : (hashes keys : Ordering) → is_eq keys ≡ false → is_eq (ordering_then hashes keys) ≡ false
differ_by Less keys differ = refl
differ_by Equal keys differ = differ
differ_by Greater keys differ = refl

alike_by : (key q : List ℕ) (order : Ordering) → order ≡ slice_cmp nat_cmp key q → is_at (hashed_cmp key) q ≡ is_eq order
alike_by key q Equal same =
    let equal : key ≡ q = slice_cmp-IsAntisymmetric nat_cmp-IsAntisymmetric key q (sym same) in
    subst (λ (k : List ℕ). is_at (hashed_cmp key) k ≡ true) equal (ap is_eq (tied_itself hashed_total key))
alike_by key q Less same = differ_by (nat_cmp (hash_of key) (hash_of q)) (slice_cmp nat_cmp key q) (ap is_eq (sym same))
alike_by key q Greater same = differ_by (nat_cmp (hash_of key) (hash_of q)) (slice_cmp nat_cmp key q) (ap is_eq (sym same))

-- the order by hashes finds the same keys as the order of a dictionary
pub alike : (key q : List ℕ) → is_at (slice_cmp nat_cmp key) q ≡ is_at (hashed_cmp key) q
alike key q = sym (alike_by key q (slice_cmp nat_cmp key q) refl)

same_by : (key q : List ℕ) (order : Ordering) → order ≡ slice_cmp nat_cmp key q → is_eq order ≡ true → key ≡ q
same_by key q Equal same is = slice_cmp-IsAntisymmetric nat_cmp-IsAntisymmetric key q (sym same)
same_by key q Less same is = cc
same_by key q Greater same is = cc

-- a key is found only at itself
pub same_at : (key q : List ℕ) → is_at (hashed_cmp key) q ≡ true → key ≡ q
same_at key q is = same_by key q (slice_cmp nat_cmp key q) refl (alike key q ∙ is)

-- keys with the same hash are the same if and only if their bytes are
pub same_hash : (a b : List ℕ) → hash_of a ≡ hash_of b → eq_by_cmp hashed_cmp a b ≡ eq_by_cmp (slice_cmp nat_cmp) a b
same_hash a b same =
    ap (λ o. is_eq (ordering_then o (slice_cmp nat_cmp a b))) (subst (λ (h : ℕ). nat_cmp (hash_of a) h ≡ Equal) same (tied_itself nat_cmp_total (hash_of a)))

find_lookup : (entries : List (List ℕ × Item)) (key : List ℕ) → find (slice_cmp nat_cmp) key entries ≡ item_in entries key
find_lookup [] key = refl
find_lookup (e ∷ es) key =
    ap (λ t. cond t (Some e.1) (find (slice_cmp nat_cmp) key es)) (alike key e.0) ∙ ap (cond (is_at (hashed_cmp key) e.0) (Some e.1)) (find_lookup es key)

-- the item at a key of the map made from the entries
pub get-items_in : (entries : List (List ℕ × Item)) (key : List ℕ) → get (items_in entries) key ≡ item_in entries key
get-items_in entries key = get-from_entries nat_list_cmp_total entries key ∙ find_lookup entries key

same_key : (key q : List ℕ) (a b : Option Item) → cond (is_at (slice_cmp nat_cmp key) q) a b ≡ cond (is_at (slice_cmp nat_cmp q) key) a b
same_key key q a b = ap (λ t. cond t a b) ((eq_by_cmp_equiv nat_list_cmp_total).symm key q)

-- two lists of entries that differ at one key, where the new one has an item, make maps that differ
-- at that key
pub items_in-stored : (old new : List (List ℕ × Item)) (key : List ℕ) (item : Item)
    → ((q : List ℕ) → item_in new q ≡ cond (is_at (hashed_cmp key) q) (Some item) (item_in old q)) → items_in new ≡ insert (items_in old) key item
items_in-stored old new key item is = same_map nat_list_cmp_total (slice_cmp-IsAntisymmetric nat_cmp-IsAntisymmetric) _ _ (λ q.
    get-items_in new q ∙ is q ∙ ap (λ t. cond t (Some item) (item_in old q)) (sym (alike key q)) ∙ ap (cond (is_at (slice_cmp nat_cmp key) q) (Some item)) (sym (get-items_in old q))
    ∙ same_key key q (Some item) (get (items_in old) q) ∙ sym (get-insert nat_list_cmp_total (items_in old) key item q))

-- two lists of entries that differ at one key, where the new one has no item, make maps that differ
-- at that key
pub items_in-removed : (old new : List (List ℕ × Item)) (key : List ℕ)
    → ((q : List ℕ) → item_in new q ≡ cond (is_at (hashed_cmp key) q) None (item_in old q)) → items_in new ≡ remove (items_in old) key
items_in-removed old new key is = same_map nat_list_cmp_total (slice_cmp-IsAntisymmetric nat_cmp-IsAntisymmetric) _ _ (λ q.
    get-items_in new q ∙ is q ∙ ap (λ t. cond t None (item_in old q)) (sym (alike key q)) ∙ ap (cond (is_at (slice_cmp nat_cmp key) q) None) (sym (get-items_in old q))
    ∙ same_key key q None (get (items_in old) q) ∙ sym (get-remove nat_list_cmp_total (items_in old) key q))

-- two lists of entries with the same item at each key make the same map
pub items_in-same : (old new : List (List ℕ × Item)) → ((q : List ℕ) → item_in new q ≡ item_in old q) → items_in new ≡ items_in old
items_in-same old new is = same_map nat_list_cmp_total (slice_cmp-IsAntisymmetric nat_cmp-IsAntisymmetric) _ _ (λ q. get-items_in new q ∙ is q ∙ sym (get-items_in old q))

-- a key is found at itself
pub at_itself : (key : List ℕ) → is_at (hashed_cmp key) key ≡ true
at_itself key = ap is_eq (tied_itself hashed_total key)
