-- What the reader of items files answers, by its state.
use Rattle.std.proofs.Common.{◌≡◌, ◌≢◌, ℕ, ◌+◌, ◌-◌, ◌<◌, Bool, true, false, List, get_or, refl, sym, ◌∙◌, ap, arith}
use Rattle.std.specs.Prelude.{◌==◌, nat_le, if◌then◌else◌, Option, None, Some, Result, Ok, Err, ⊤}
use Rattle.std.specs.Int.{from_be_bytes, w64}
use Rattle.std.specs.List.{slice_index}
use Rattle.zy_base.specs.declared.file_fault.FileFault.{FileFault}
use Rattle.zy_read.specs.Fields.{ended_by}
use Rattle.zy_read.specs.declared.not_taken.NotTaken.{NotTaken}
use Rattle.zy_read.specs.declared.not_taken.NotTaken.TheVariants.{Fault, NoMemory}
use Rattle.zy_read.specs.declared.shape.Shape.TheVariants.{Run}
use Rattle.zy_read.specs.FieldReading.{Judges, EndsWith, IsQuiet}
use Rattle.zy_read.proofs.Feeding.{verdict_here}
use Rattle.zy_items.specs.declared.due.ItemsDue.{ItemsDue}
use Rattle.zy_items.specs.declared.due.ItemsDue.TheVariants.{Magic, Bound, Tag, KeySize, Key, Flags, Unique}
use Rattle.zy_items.specs.declared.due.ItemsDue.TheVariants.{ValueSize, Value, LastingSize, Lasting, Nothing}
use Rattle.zy_items.specs.Items.{items_magic}
use Rattle.zy_items.specs.Places.{StandsForItems, FitsItems, WantsItems, TakesItemsStep, takes_memory}
use Rattle.zy_items.specs.Steps.{ItemsRead, ItemsPlace, ItemsDone, items_fields, items_judged, items_shape, is_key_size, is_next, item_keys}
use Rattle.zy_items.specs.Verdict.{items_files, items_verdict, good_items}
use Rattle.zy_items.specs.Verdict.ItemsVerdict.{Bad}

-- a fact of either way that a test goes
pub chosen : {S : Type 0} (P : S → Type 0) (test : Bool) (x y : S) → (test ≡ true → P x) → (test ≡ false → P y) → P (if test then x else y)
chosen P test x y first second =
    elim test as (λ (t : Bool). (t ≡ true → P x) → (t ≡ false → P y) → P (if t then x else y)) [ true ↦ λ one two. one refl | false ↦ λ one two. two refl ] first second

-- no field but a tag gives a record
pub quiet : (due : ItemsDue) (s : ItemsRead) (at : ℕ) (field : List ℕ) → due ≢ Tag → IsQuiet (items_judged due s at field)
quiet Magic s at field no_tag =
    chosen IsQuiet (get_or field 0 0 == slice_index items_magic at) _ _ (λ yes. chosen IsQuiet (at == 7) _ _ (λ last. tt) (λ more. tt)) (λ no. tt)
quiet Bound s at field no_tag = tt
quiet Tag s at field no_tag = absurd (no_tag refl)
quiet KeySize s at field no_tag = chosen IsQuiet (is_key_size (from_be_bytes w64 field)) _ _ (λ yes. tt) (λ no. tt)
quiet (Key others) s at field no_tag = chosen IsQuiet (is_next (item_keys s.items) field) _ _ (λ yes. tt) (λ no. tt)
quiet Flags s at field no_tag = tt
quiet (Unique flags) s at field no_tag = chosen IsQuiet (nat_le (from_be_bytes w64 field) s.bound) _ _ (λ yes. tt) (λ no. tt)
quiet (ValueSize flags unique) s at field no_tag = chosen IsQuiet (from_be_bytes w64 field == 0) _ _ (λ none. tt) (λ some. tt)
quiet (Value flags unique others) s at field no_tag = tt
quiet LastingSize s at field no_tag = chosen IsQuiet (is_key_size (from_be_bytes w64 field)) _ _ (λ yes. tt) (λ no. tt)
quiet (Lasting others) s at field no_tag = chosen IsQuiet (is_next s.lasting field) _ _ (λ yes. tt) (λ no. tt)
quiet Nothing s at field no_tag = tt

-- ---- answers

-- a field after which this may be expected anywhere
pub placed : (done : ItemsDone) (after : ℕ) (old new : ItemsRead) (answer : Result (Option ⊤) (NotTaken FileFault)) → TakesItemsStep done old new answer → Judges FitsItems WantsItems done after old new answer
placed done after old new (Ok None) takes = (takes.0, takes.1 after)
placed done after old new (Ok (Some item)) takes = (takes.0, takes.1 after)
placed done after old new (Err (Fault fault)) takes = takes
placed done after old new (Err NoMemory) takes = takes

-- a run is a key or a value
pub run_due : (due : ItemsDue) (count : ℕ) → 0 < count → ((others : ℕ) → count ≡ others + 1 → items_shape due ≡ Run others) → takes_memory due ≡ true
run_due (Key others) count some is = refl
run_due (Value flags unique others) count some is = refl
run_due (Lasting others) count some is = refl
run_due (ValueSize flags unique) count some is = refl
run_due due count some is = let run = is (count - 1) (omega (arith, some)) in cc

-- the fault where a text ends is its verdict
ended_bad : (found : Option FileFault) (p : ItemsPlace) (given : List ⊤) (fault : FileFault) → EndsWith items_fields found p fault → ended_by found items_fields good_items Bad p given ≡ Bad fault
ended_bad None p given fault ends = rw (ends.0) (ap (λ (f : FileFault). Bad f) (sym ends.1))
ended_bad (Some found) p given fault ends = ap (λ (f : FileFault). Bad f) ends

pub ends_bad : (p : ItemsPlace) (fault : FileFault) → EndsWith items_fields p.fault p fault → (given : List ⊤) (b : List ℕ) → StandsForItems p given b → items_verdict b ≡ Bad fault
ends_bad p fault ends given b stands = verdict_here items_files p given b stands ∙ ended_bad p.fault p given fault ends
