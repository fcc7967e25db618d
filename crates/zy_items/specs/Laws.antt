-- A field of an items file has a byte, and after the end each byte is wrong.
use Rattle.std.proofs.Common.{◌≡◌, ℕ, ◌-◌, ◌^◌, ◌<◌, List, true, refl, arith}
use Rattle.zy_read.specs.Fields.{IsLawful, IsWrong}
use Rattle.zy_read.specs.FieldReading.{width_of}
use Rattle.zy_read.specs.declared.shape.Shape.{Shape}
use Rattle.zy_read.specs.declared.shape.Shape.TheVariants.{Byte, Four, Eight, Run}
use Rattle.zy_items.specs.declared.due.ItemsDue.{ItemsDue}
use Rattle.zy_items.specs.declared.due.ItemsDue.TheVariants as Dues
use Rattle.zy_items.specs.Places.{takes_memory, FitsItems, WantsItems}
use Rattle.zy_items.specs.Steps.{ItemsRead, items_shape, is_last, items_judged, items_fields}

some : (kind : Shape) → 0 < width_of kind
some Byte = omega arith
some Four = omega arith
some Eight = omega arith
some (Run others) = omega arith

one : (due : ItemsDue) → is_last due ≡ true → width_of (items_shape due) ≡ 1
one Dues.Nothing is = refl
one due is = cc

pub none_follows : (due : ItemsDue) (s : ItemsRead) (at : ℕ) (field : List ℕ) → is_last due ≡ true
    → IsWrong (items_judged due s at field)
none_follows Dues.Nothing s at field is = tt
none_follows due s at field is = cc

-- so it is a format of fields
pub items_lawful : IsLawful items_fields
items_lawful = record {
  some = λ s. some (items_shape s.due);
  one = λ s. one s.due;
  ends = λ s at field is full. none_follows s.due s at field is;
}

pub items_widths : (s : ItemsRead) → items_fields.width s ≡ width_of (items_shape s.due)
items_widths s = refl

run_wants : (due : ItemsDue) (others : ℕ) → items_shape due ≡ Run others → takes_memory due ≡ true
run_wants (Dues.Key count) others is = refl
run_wants (Dues.Value flags unique count) others is = refl
run_wants (Dues.Lasting count) others is = refl
run_wants due others is = cc

-- a key or a value may need memory
pub items_run : (s : ItemsRead) (others : ℕ) → items_shape s.due ≡ Run others → WantsItems s
items_run s others is = run_wants s.due others is

pub items_few : items_fields.limit < 2 ^ 64 - 1
items_few = omega arith

pub items_begin : FitsItems items_fields.start 0
items_begin = omega arith
