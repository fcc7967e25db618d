-- Items and lasting keys that are written, one after another.
use Rattle.std.proofs.Common.{◌≡◌, ℕ, ◌+◌, ◌<◌, take, get_or, List, [], ◌∷◌, ◌++◌, refl, sym, ◌∙◌, ap, append_assoc}
use Rattle.std.specs.Prelude.{flat_map}
use Rattle.std.proofs.lemmas.List.{append-nil, take_more}
use Rattle.std.proofs.lemmas.Grind.{flat_map-append}
use Rattle.std.specs.Prelude.{length}
use Rattle.std.specs.Int.{to_be_bytes, w32, w64}
use Rattle.zy_items.specs.declared.standing.KeptItem.{KeptItem}
use Rattle.zy_items.specs.Items.{items_magic, item_text, lasting_text}

-- one more key comes before those that are left
pub one_more : (before left rest all : List (List ℕ)) (key : List ℕ) → before ++ left ≡ all → left ≡ key ∷ rest → (before ++ key ∷ []) ++ rest ≡ all
one_more before left rest all key is first = append_assoc before (key ∷ []) rest ∙ ap (λ (l : List (List ℕ)). before ++ l) (sym first) ∙ is

-- the text of one more key
pub text_on : (before : List (List ℕ)) (key : List ℕ) → flat_map lasting_text before ++ lasting_text key ≡ flat_map lasting_text (before ++ key ∷ [])
text_on before key =
    ap (λ (l : List ℕ). flat_map lasting_text before ++ l) (sym (append-nil (lasting_text key))) ∙ sym (flat_map-append lasting_text before (key ∷ []))

-- the text of all keys is those of the ones before a key, of that key, and of the others
pub text_parts : (before left rest all : List (List ℕ)) (key : List ℕ) → before ++ left ≡ all → left ≡ key ∷ rest
    → flat_map lasting_text before ++ (lasting_text key ++ flat_map lasting_text rest) ≡ flat_map lasting_text all
text_parts before left rest all key is first =
    sym (flat_map-append lasting_text before (key ∷ rest)) ∙ ap (λ (l : List (List ℕ)). flat_map lasting_text (before ++ l)) (sym first) ∙ ap (λ (l : List (List ℕ)). flat_map lasting_text l) is

-- the pieces of an item
pub text_item : (kept : KeptItem) (size key flags unique count value : List ℕ) → size ≡ to_be_bytes w64 (length key) → key ≡ kept.key → flags ≡ to_be_bytes w32 kept.item.flags → unique ≡ to_be_bytes w64 kept.item.unique
    → count ≡ to_be_bytes w64 (length value) → value ≡ kept.item.value → (73 ∷ []) ++ (size ++ (key ++ (flags ++ (unique ++ (count ++ (value ++ [])))))) ≡ item_text kept
unfolding item_text
text_item kept size key flags unique count value one two three four five six = rw (one, three, four, five, two, six, append-nil kept.item.value) refl

-- what is written first, and then the rest
pub text_head : (bound number rest : List ℕ) → bound ≡ number → (items_magic ++ (bound ++ [])) ++ rest ≡ items_magic ++ (number ++ rest)
text_head bound number rest is =
    append_assoc items_magic (bound ++ []) rest ∙ ap (λ (l : List ℕ). items_magic ++ (l ++ rest)) (append-nil bound ∙ is)

-- the text of one more item
pub items_on : (items : List KeptItem) (i : ℕ) (kept : KeptItem) → i < length items → kept ≡ get_or items i kept → flat_map item_text (take i items) ++ item_text kept ≡ flat_map item_text (take (i + 1) items)
items_on items i kept within is =
    ap (λ (k : KeptItem). flat_map item_text (take i items) ++ item_text k) is
    ∙ ap (λ (l : List ℕ). flat_map item_text (take i items) ++ l) (sym (append-nil (item_text (get_or items i kept))))
    ∙ sym (flat_map-append item_text (take i items) (get_or items i kept ∷ []))
    ∙ ap (λ (l : List KeptItem). flat_map item_text l) (sym (take_more items i kept within))
