-- What a good items file says is what a server can have: its keys rise, and no unique is above the bound.
use Rattle.std.proofs.Common.{◌≡◌, ℕ, zero, suc, ◌+◌, ◌-◌, ◌<◌, ◌≤◌, ◌==◌, Bool, true, false, List, [], ◌∷◌, ◌++◌, length, get_or, refl, sym, subst, arith, All, AllPairs}
use Rattle.std.specs.Prelude.{◌&&◌, nat_lt, nat_le, if◌then◌else◌, Option, None, Some, ⊤}
use Rattle.std.specs.Int.{from_be_bytes, w64}
use Rattle.std.specs.List.{slice_index}
use Rattle.std.proofs.lemmas.Bool.{ltb-true, ltb-false, leb-true}
use Rattle.std.proofs.lemmas.List.Elements.{All-nil, All-push}
use Rattle.std.proofs.lemmas.List.Quantifiers.{all_pairs_push}
use Rattle.std.specs.Cmp.Lexicographic.{nat_list_cmp_total}
use Rattle.zy_base.specs.declared.file_fault.FileFault.{FileFault}
use Rattle.zy_base.specs.declared.file_fault.FileFault.TheVariants.{Truncated}
use Rattle.zy_read.specs.Format.{Reading, read_on, reading_of, verdict_on}
use Rattle.zy_read.specs.Fields.{at_state, step, ended_by}
use Rattle.zy_read.proofs.VerdictLemmas.{Leaves, state_kept}
use Rattle.zy_items.specs.declared.due.ItemsDue.{ItemsDue}
use Rattle.zy_items.specs.declared.due.ItemsDue.TheVariants.{Magic, Bound, Tag, KeySize, Key, Flags, Unique}
use Rattle.zy_items.specs.declared.due.ItemsDue.TheVariants.{ValueSize, Value, LastingSize, Lasting, Nothing}
use Rattle.zy_items.specs.declared.standing.KeptItem.{KeptItem}
use Rattle.zy_items.specs.Items.{items_magic}
use Rattle.zy_items.specs.Standing.{Standing, IsStanding, IsKeyBefore, IsItemBefore}
use Rattle.zy_items.specs.Steps.{ItemsRead, ItemsPlace, items_start, items_fields, items_judged, is_last, standing_in, is_key_size, is_next, item_keys, item_read}
use Rattle.zy_items.specs.Verdict.{good_items, items_verdict}
use Rattle.zy_items.specs.Verdict.ItemsVerdict.{Good, Bad}
use Rattle.zy_items.proofs.KeyLemmas.{less_is, by_bytes}
use Rattle.zy_items.proofs.StateLemmas.{chosen}

-- ---- a key that is above the last one is above all

last_key : (keys : List (List ℕ)) (key d : List ℕ) (n : ℕ) → length keys ≡ n + 1 → is_next keys key ≡ true → IsKeyBefore (get_or keys n d) key
last_key [] key d n is next = absurd (omega (arith, is))
last_key (one ∷ []) key d zero is next = less_is (by_bytes one key) next
last_key (one ∷ []) key d (suc n) is next = absurd (omega (arith, is))
last_key (first ∷ (second ∷ keys)) key d zero is next = absurd (omega (arith, is))
last_key (first ∷ (second ∷ keys)) key d (suc n) is next = last_key (second ∷ keys) key d n (omega (arith, is)) next

last_item : (items : List KeptItem) (key : List ℕ) (d : KeptItem) (n : ℕ) → length items ≡ n + 1 → is_next (item_keys items) key ≡ true → IsKeyBefore (get_or items n d).key key
last_item [] key d n is next = absurd (omega (arith, is))
last_item (one ∷ []) key d zero is next = less_is (by_bytes one.key key) next
last_item (one ∷ []) key d (suc n) is next = absurd (omega (arith, is))
last_item (first ∷ (second ∷ items)) key d zero is next = absurd (omega (arith, is))
last_item (first ∷ (second ∷ items)) key d (suc n) is next = last_item (second ∷ items) key d n (omega (arith, is)) next

-- each element is at most the last one
upto_last : {X : Type 0} (Before : X → Type 0) (xs : List X) (k n : ℕ) (d : X) → length xs ≡ n + 1 → k < length xs → (k < n → Before (get_or xs k d)) → Before (get_or xs n d) → Before (get_or xs k d)
upto_last Before xs k n d size within below last = go (nat_lt k n) refl
  where
    go : (test : Bool) → nat_lt k n ≡ test → Before (get_or xs k d)
    go true is = below (ltb-true k n is)
    go false is = let same : n ≡ k = (let most = ltb-false k n is in omega (arith, most, size, within)) in subst (λ (i : ℕ). Before (get_or xs i d)) same last

keys_before : (keys : List (List ℕ)) (key : List ℕ) → AllPairs IsKeyBefore keys → is_next keys key ≡ true → (k : ℕ) (d : List ℕ) → k < length keys → IsKeyBefore (get_or keys k d) key
keys_before keys key rises next k d within =
    let n : ℕ = length keys - 1 in
    let size : length keys ≡ n + 1 = omega (arith, within) in
    let last = last_key keys key d n size next in
    upto_last (λ (one : List ℕ). IsKeyBefore one key) keys k n d size within (λ below. nat_list_cmp_total.trans (get_or keys k d) (get_or keys n d) key (rises k n d below (omega (arith, size))) last) last

items_before : (items : List KeptItem) (key : List ℕ) → AllPairs IsItemBefore items → is_next (item_keys items) key ≡ true → (k : ℕ) (d : KeptItem) → k < length items → IsKeyBefore (get_or items k d).key key
items_before items key rises next k d within =
    let n : ℕ = length items - 1 in
    let size : length items ≡ n + 1 = omega (arith, within) in
    let last = last_item items key d n size next in
    upto_last (λ (one : KeptItem). IsKeyBefore one.key key) items k n d size within (λ below. nat_list_cmp_total.trans (get_or items k d).key (get_or items n d).key key (rises k n d below (omega (arith, size))) last) last

-- ---- a state

-- what is known where this is expected: before the bound nothing was read; the key of an item is above the last one, and
-- its unique is not above the bound
abbrev Waits : ItemsDue → ItemsRead → Type 0
Waits Magic s = s.items ≡ []
Waits Bound s = s.items ≡ []
Waits Flags s = is_next (item_keys s.items) s.key ≡ true
Waits (Unique flags) s = is_next (item_keys s.items) s.key ≡ true
Waits (ValueSize flags unique) s = (is_next (item_keys s.items) s.key ≡ true) × (unique ≤ s.bound)
Waits (Value flags unique others) s = (is_next (item_keys s.items) s.key ≡ true) × (unique ≤ s.bound)
Waits due s = ⊤

abbrev StandsIn : ItemsRead → Type 0
StandsIn s = IsStanding (standing_in s) × Waits s.due s

-- one more item
with_item : (s : ItemsRead) (flags unique : ℕ) (value : List ℕ) → IsStanding (standing_in s) → is_next (item_keys s.items) s.key ≡ true → unique ≤ s.bound
    → IsStanding (record { items = s.items ++ item_read s flags unique value ∷ []; lasting = s.lasting; bound = s.bound })
with_item s flags unique value stands next within = record {
  rises = all_pairs_push IsItemBefore s.items (item_read s flags unique value) stands.rises (items_before s.items s.key stands.rises next);
  lasting = stands.lasting;
  within = All-push (λ (kept : KeptItem). kept.item.unique ≤ s.bound) s.items (item_read s flags unique value) stands.within within;
}

-- one more lasting key
with_lasting : (s : ItemsRead) (key : List ℕ) → IsStanding (standing_in s) → is_next s.lasting key ≡ true → IsStanding (record { items = s.items; lasting = s.lasting ++ key ∷ []; bound = s.bound })
with_lasting s key stands next = record {
  rises = stands.rises;
  lasting = all_pairs_push IsKeyBefore s.lasting key stands.lasting (keys_before s.lasting key stands.lasting next);
  within = stands.within;
}

-- another bound, before the first item
with_bound : (s : ItemsRead) (bound : ℕ) → IsStanding (standing_in s) → s.items ≡ [] → IsStanding (record { items = s.items; lasting = s.lasting; bound = bound })
with_bound s bound stands none = record {
  rises = stands.rises;
  lasting = stands.lasting;
  within = subst (λ (l : List KeptItem). All (λ (kept : KeptItem). kept.item.unique ≤ bound) l) (sym none) (All-nil (λ (kept : KeptItem). kept.item.unique ≤ bound));
}

-- each whole field leaves it
judged_stands : (due : ItemsDue) (s : ItemsRead) (at : ℕ) (field : List ℕ) → IsStanding (standing_in s) → Waits due s → Leaves StandsIn (items_judged due s at field)
judged_stands Magic s at field stands waits =
    chosen (Leaves StandsIn) (get_or field 0 0 == slice_index items_magic at) _ _ (λ yes. chosen (Leaves StandsIn) (at == 7) _ _ (λ last. (stands, waits)) (λ more. (stands, waits))) (λ no. tt)
judged_stands Bound s at field stands waits = (with_bound s (from_be_bytes w64 field) stands waits, tt)
judged_stands Tag s at field stands waits =
    chosen (Leaves StandsIn) (get_or field 0 0 == 73 && length s.lasting == 0) _ _ (λ item. (stands, tt))
    (λ no. chosen (Leaves StandsIn) (get_or field 0 0 == 76) _ _ (λ key. (stands, tt)) (λ other. chosen (Leaves StandsIn) (get_or field 0 0 == 69) _ _ (λ end. (stands, tt)) (λ none. tt)))
judged_stands KeySize s at field stands waits = chosen (Leaves StandsIn) (is_key_size (from_be_bytes w64 field)) _ _ (λ yes. (stands, tt)) (λ no. tt)
judged_stands (Key others) s at field stands waits = chosen (Leaves StandsIn) (is_next (item_keys s.items) field) _ _ (λ yes. (stands, yes)) (λ no. tt)
judged_stands Flags s at field stands waits = (stands, waits)
judged_stands (Unique flags) s at field stands waits =
    chosen (Leaves StandsIn) (nat_le (from_be_bytes w64 field) s.bound) _ _ (λ yes. (stands, (waits, leb-true (from_be_bytes w64 field) s.bound yes))) (λ no. tt)
judged_stands (ValueSize flags unique) s at field stands waits =
    chosen (Leaves StandsIn) (from_be_bytes w64 field == 0) _ _ (λ none. (with_item s flags unique [] stands waits.0 waits.1, tt)) (λ some. (stands, waits))
judged_stands (Value flags unique others) s at field stands waits = (with_item s flags unique field stands waits.0 waits.1, tt)
judged_stands LastingSize s at field stands waits = chosen (Leaves StandsIn) (is_key_size (from_be_bytes w64 field)) _ _ (λ yes. (stands, tt)) (λ no. tt)
judged_stands (Lasting others) s at field stands waits = chosen (Leaves StandsIn) (is_next s.lasting field) _ _ (λ yes. (with_lasting s field stands yes, tt)) (λ no. tt)
judged_stands Nothing s at field stands waits = tt

-- nothing was read
nothing_stands : IsStanding (standing_in items_start)
nothing_stands = record {
  rises = λ i j d before within. absurd (omega (arith, within));
  lasting = λ i j d before within. absurd (omega (arith, within));
  within = All-nil (λ (kept : KeptItem). kept.item.unique ≤ 0);
}

-- ---- a whole text

end_good : (is_end : Bool) (p : ItemsPlace) (standing : Standing) → (if is_end then Good (standing_in p.state) else Bad (Truncated p.at)) ≡ Good standing → standing_in p.state ≡ standing
end_good true p standing is = cc
end_good false p standing is = cc

ends_good : (fault : Option FileFault) (p : ItemsPlace) (given : List ⊤) (standing : Standing) → ended_by fault items_fields good_items Bad p given ≡ Good standing → standing_in p.state ≡ standing
ends_good None p given standing is = end_good (is_last p.state.due) p standing is
ends_good (Some fault) p given standing is = cc

pub good_stands : (text : List ℕ) (standing : Standing) → items_verdict text ≡ Good standing → IsStanding standing
unfolding verdict_on reading_of
good_stands text standing is =
    let r : Reading ItemsPlace ⊤ = read_on (step items_fields) (at_state items_start 0) text in
    let kept = state_kept items_fields StandsIn (λ s at field holds. judged_stands s.due s at field holds.0 holds.1) text (at_state items_start 0) (nothing_stands, refl) in
    subst IsStanding (ends_good r.last.fault r.last r.given standing is) kept.0
