-- The format of items files, docs/FORMATS.md, "Items file": their encoding.
use Rattle.std.specs.Prelude.{ℕ, ◌-◌, ◌^◌, List, [], ◌∷◌, ◌++◌, length, flat_map, codes}
use Rattle.std.specs.Int.{to_be_bytes, w32, w64}
use Rattle.zy_items.specs.declared.standing.KeptItem.{KeptItem}
use Rattle.zy_items.specs.Standing.{Standing}

-- ---- spelling

-- the bytes with which an items file begins
abbrev pub items_magic : List ℕ
items_magic = codes "ZYGITM1\n"

-- bytes after their length
abbrev pub sized : List ℕ → List ℕ
sized bytes = to_be_bytes w64 (length bytes) ++ bytes

-- an item: its tag, its key, flags, unique and value
unfoldable pub item_text : KeptItem → List ℕ
item_text kept =
    73 ∷ (to_be_bytes w64 (length kept.key) ++ (kept.key
    ++ (to_be_bytes w32 kept.item.flags ++ (to_be_bytes w64 kept.item.unique ++ sized kept.item.value))))

-- a lasting key, after its tag
abbrev pub lasting_text : List ℕ → List ℕ
lasting_text key = 76 ∷ sized key

-- an items file: its magic, the bound, the items, the lasting keys and the end
unfoldable pub items_bytes : Standing → List ℕ
items_bytes standing =
    items_magic ++ (to_be_bytes w64 standing.bound
    ++ (flat_map item_text standing.items ++ (flat_map lasting_text standing.lasting ++ 69 ∷ [])))

-- ---- limits

-- the most bytes of an items file
abbrev pub items_limit : ℕ
items_limit = 2 ^ 63 - 1
