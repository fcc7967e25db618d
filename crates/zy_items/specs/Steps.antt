-- The fields of an items file, and what a whole one does, by what is expected: the table of docs/FORMATS.md, "Items
-- file".
use Rattle.std.specs.Prelude.{ℕ, ◌-◌, ◌==◌, ◌&&◌, nat_le, if◌then◌else◌, Bool, true, false}
use Rattle.std.specs.Prelude.{List, [], ◌∷◌, ◌++◌, length, get_or, map, ⊤}
use Rattle.std.specs.List.{slice_index}
use Rattle.std.specs.Int.{from_be_bytes, w32, w64}
use Rattle.std.specs.Ordering.{nat_cmp, is_lt}
use Rattle.std.specs.Cmp.Lexicographic.{slice_cmp}
use Rattle.zy_base.specs.declared.file_fault.FileFault.{FileFault}
use Rattle.zy_base.specs.declared.file_fault.FileFault.TheVariants.{Form, Truncated, TooLong}
use Rattle.zy_base.specs.Limits.{key_limit}
use Rattle.zy_read.specs.Fields.{Judged, Fields, Place}
use Rattle.zy_read.specs.Fields.Judged.{Then, Gives, Wrong}
use Rattle.zy_read.specs.FieldReading.{width_of}
use Rattle.zy_read.specs.declared.shape.Shape.{Shape}
use Rattle.zy_read.specs.declared.shape.Shape.TheVariants as Shapes
use Rattle.zy_items.specs.declared.due.ItemsDue.{ItemsDue}
use Rattle.zy_items.specs.declared.due.ItemsDue.TheVariants.{Magic, Bound, Tag, KeySize, Key, Flags, Unique}
use Rattle.zy_items.specs.declared.due.ItemsDue.TheVariants.{ValueSize, Value, LastingSize, Lasting, Nothing}
use Rattle.zy_items.specs.declared.standing.KeptItem.{KeptItem}
use Rattle.zy_items.specs.Standing.{Standing}
use Rattle.zy_items.specs.Items.{items_magic, items_limit}

-- ---- how far a text was read

-- what was read of a text up to some field
pub record ItemsRead : Type 0 where
  -- what is expected there
  pub due : ItemsDue
  pub bound : ℕ
  -- the key of the item that is being read
  pub key : List ℕ
  -- the items and the lasting keys that were read
  pub items : List KeptItem
  pub lasting : List (List ℕ)

-- where a text was read up to some byte
abbrev pub ItemsPlace : Type 0
ItemsPlace = Place ItemsRead FileFault

-- before the first field
abbrev pub items_start : ItemsRead
items_start = record { due = Magic; bound = 0; key = []; items = []; lasting = [] }

-- what was read, as what a server has
abbrev pub standing_in : ItemsRead → Standing
standing_in s = record { items = s.items; lasting = s.lasting; bound = s.bound }

-- what a whole field does
abbrev pub ItemsDone : Type 0
ItemsDone = Judged ItemsRead ⊤ FileFault

-- this is expected after the field
abbrev pub goes : ItemsRead → ItemsDue → ItemsDone
goes s due = Then (record s { due = due })

-- ---- keys

-- the keys of items
abbrev pub item_keys : List KeptItem → List (List ℕ)
item_keys items = map (λ (kept : KeptItem). kept.key) items

-- a key is above the last one of these, if there is one
abbrev pub is_next : List (List ℕ) → List ℕ → Bool
is_next [] key = true
is_next (last ∷ []) key = is_lt (slice_cmp nat_cmp last key)
is_next (first ∷ (second ∷ keys)) key = is_next (second ∷ keys) key

-- a key may have this many bytes
abbrev pub is_key_size : ℕ → Bool
is_key_size size = nat_le 1 size && nat_le size key_limit

-- what the length of a key does, if this is expected after it
abbrev pub key_size : ItemsRead → ℕ → ℕ → ItemsDue → ItemsDone
key_size s at size due = if is_key_size size then goes s due else Wrong (Form at)

-- what the key of an item does
abbrev pub key_read : ItemsRead → ℕ → List ℕ → ItemsDone
key_read s at key =
    if is_next (item_keys s.items) key then Then (record s { due = Flags; key = key }) else Wrong (Form at)

-- what a lasting key does
abbrev pub lasting_read : ItemsRead → ℕ → List ℕ → ItemsDone
lasting_read s at key =
    if is_next s.lasting key then Then (record s { due = Tag; lasting = s.lasting ++ key ∷ [] }) else Wrong (Form at)

-- ---- other fields

-- what a byte of the magic does
abbrev pub magic_read : ItemsRead → ℕ → ℕ → ItemsDone
magic_read s at byte =
    if byte == slice_index items_magic at then (if at == 7 then goes s Bound else goes s Magic) else Wrong (Form at)

-- the field ends the file
abbrev pub ends_items : ItemsRead → ItemsDone
ends_items s = Gives (record s { due = Nothing }) tt

-- what the tag of a record does, or the end; no item comes after a lasting key
abbrev pub tag : ItemsRead → ℕ → ℕ → ItemsDone
tag s at byte =
    if byte == 73 && length s.lasting == 0 then goes s KeySize else if byte == 76 then goes s LastingSize
    else if byte == 69 then ends_items s else Wrong (Form at)

-- what the unique of an item does
abbrev pub unique_read : ItemsRead → ℕ → ℕ → ℕ → ItemsDone
unique_read s at flags unique = if nat_le unique s.bound then goes s (ValueSize flags unique) else Wrong (Form at)

-- the item that was read
abbrev pub item_read : ItemsRead → ℕ → ℕ → List ℕ → KeptItem
item_read s flags unique value =
    record { key = s.key; item = record { flags = flags; value = value; unique = unique } }

-- the field ends the item, which has this value
abbrev pub ends_item : ItemsRead → ℕ → ℕ → List ℕ → ItemsDone
ends_item s flags unique value =
    Then (record s { due = Tag; key = []; items = s.items ++ item_read s flags unique value ∷ [] })

-- what the length of a value does
abbrev pub value_size : ItemsRead → ℕ → ℕ → ℕ → ItemsDone
value_size s flags unique size =
    if size == 0 then ends_item s flags unique [] else goes s (Value flags unique (size - 1))

-- ---- a whole field, by what is expected

abbrev pub items_judged : ItemsDue → ItemsRead → ℕ → List ℕ → ItemsDone
items_judged Magic s at field = magic_read s at (get_or field 0 0)
items_judged Bound s at field = Then (record s { due = Tag; bound = from_be_bytes w64 field })
items_judged Tag s at field = tag s at (get_or field 0 0)
items_judged KeySize s at field = key_size s at (from_be_bytes w64 field) (Key (from_be_bytes w64 field - 1))
items_judged (Key others) s at field = key_read s at field
items_judged Flags s at field = goes s (Unique (from_be_bytes w32 field))
items_judged (Unique flags) s at field = unique_read s at flags (from_be_bytes w64 field)
items_judged (ValueSize flags unique) s at field = value_size s flags unique (from_be_bytes w64 field)
items_judged (Value flags unique others) s at field = ends_item s flags unique field
items_judged LastingSize s at field = key_size s at (from_be_bytes w64 field) (Lasting (from_be_bytes w64 field - 1))
items_judged (Lasting others) s at field = lasting_read s at field
items_judged Nothing s at field = Wrong (Form at)

-- ---- the fields

-- the shape of the field that is expected
abbrev pub items_shape : ItemsDue → Shape
items_shape Magic = Shapes.Byte
items_shape Tag = Shapes.Byte
items_shape Nothing = Shapes.Byte
items_shape Flags = Shapes.Four
items_shape (Key others) = Shapes.Run others
items_shape (Value flags unique others) = Shapes.Run others
items_shape (Lasting others) = Shapes.Run others
items_shape due = Shapes.Eight

-- the end was read
abbrev pub is_last : ItemsDue → Bool
is_last Nothing = true
is_last due = false

-- the fields of an items file
abbrev pub items_fields : Fields ItemsRead ⊤ FileFault
items_fields = record {
  start = items_start;
  width = λ s. width_of (items_shape s.due);
  judge = λ s at field. items_judged s.due s at field;
  is_end = λ s. is_last s.due;
  limit = items_limit;
  too_long = TooLong;
  truncated = Truncated;
}
