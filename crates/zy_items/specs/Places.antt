-- The bytes that brought a reader of items files to where it is, and the meaning of its answers.
use Rattle.std.specs.Prelude.{◌≡◌, ℕ, ◌<◌, Bool, true, false, List, Option, Result, Ok, Err, ⊤}
use Rattle.zy_base.specs.declared.file_fault.FileFault.{FileFault}
use Rattle.zy_read.specs.declared.not_taken.NotTaken.{NotTaken}
use Rattle.zy_read.specs.Standing.{StandsAs}
use Rattle.zy_read.specs.FieldReading.{Judges}
use Rattle.zy_items.specs.declared.due.ItemsDue.{ItemsDue}
use Rattle.zy_items.specs.declared.due.ItemsDue.TheVariants.{Magic, Key, ValueSize, Value, Lasting}
use Rattle.zy_items.specs.declared.standing.Standing.{Standing as Kept}
use Rattle.zy_items.specs.Standing.{standing_of}
use Rattle.zy_items.specs.Steps.{ItemsRead, ItemsPlace, ItemsDone}
use Rattle.zy_items.specs.Verdict.{ItemsVerdict, items_files, items_verdict}
use Rattle.zy_items.specs.Verdict.ItemsVerdict.{Good, Bad}

-- these bytes were fed, one after another
abbrev pub StandsForItems : ItemsPlace → List ⊤ → List ℕ → Type 0
StandsForItems p given fed = StandsAs items_files p given fed

-- an answer at the end of the bytes is their verdict
abbrev pub EndsItemsAs : Result Kept FileFault → ItemsVerdict → Type 0
EndsItemsAs (Ok kept) found = found ≡ Good (standing_of kept)
EndsItemsAs (Err fault) found = found ≡ Bad fault

-- the bytes fed are an items file that says this, or have this fault as they end
abbrev pub EndsItemsBy : ItemsPlace → Result Kept FileFault → Type 0
EndsItemsBy p answer =
    (given : List ⊤) (b : List ℕ) → StandsForItems p given b → EndsItemsAs answer (items_verdict b)

-- the reader may need memory when this is expected: a key, a value, or its length, at which its item may end
abbrev pub takes_memory : ItemsDue → Bool
takes_memory (Key others) = true
takes_memory (ValueSize flags unique) = true
takes_memory (Value flags unique others) = true
takes_memory (Lasting others) = true
takes_memory due = false

-- the reader may need memory for the byte
abbrev pub MayWantItems : ItemsPlace → ℕ → Type 0
MayWantItems p byte = takes_memory p.state.due ≡ true

-- ---- for the reader only

-- the state may be that at this place: that of a byte of the magic is within it
abbrev pub IsInItemsBounds : ItemsDue → ℕ → Type 0
IsInItemsBounds Magic at = at < 8
IsInItemsBounds due at = ⊤

abbrev pub FitsItems : ItemsRead → ℕ → Type 0
FitsItems s at = IsInItemsBounds s.due at

-- its field may need memory
abbrev pub WantsItems : ItemsRead → Type 0
WantsItems s = takes_memory s.due ≡ true

-- an answer and a new state are those of a whole field, which ends at this place
abbrev pub TakesItemsStep : ItemsDone → ItemsRead → ItemsRead → Result (Option ⊤) (NotTaken FileFault) → Type 0
TakesItemsStep done old new result =
    Judges (λ (s : ItemsRead) after. (at : ℕ) → FitsItems s at) WantsItems done 0 old new result
