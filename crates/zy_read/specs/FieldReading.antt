-- What a reader of a format of fields keeps, and what the judgement of a field answers.
use Rattle.std.specs.Prelude.{◌≡◌, ℕ, ◌+◌, ◌-◌, ◌^◌, ◌<◌, ◌≤◌, true, false, List, [], ◌++◌, length, Option, None, Some}
use Rattle.std.specs.Prelude.{Result, Ok, Err, ⊤}
use Rattle.zy_read.specs.Format.{Step}
use Rattle.zy_read.specs.Standing.{Follows}
use Rattle.zy_read.specs.Fields.{Judged, Fields, Place, is_full, format_of}
use Rattle.zy_read.specs.Fields.Judged.{Then, Gives, Wrong}
use Rattle.zy_read.specs.declared.not_taken.NotTaken.{NotTaken}
use Rattle.zy_read.specs.declared.not_taken.NotTaken.TheVariants.{Fault, NoMemory}
use Rattle.zy_read.specs.declared.shape.Shape.{Shape}
use Rattle.zy_read.specs.declared.shape.Shape.TheVariants.{Byte, Four, Eight, Run}

-- how many bytes a field of this shape has
abbrev pub width_of : Shape → ℕ
width_of Byte = 1
width_of Four = 4
width_of Eight = 8
width_of (Run others) = others + 1

-- the reader may need memory for the byte: its field may, and the text may have it
abbrev pub MayNeed : {S G F : Type 0} → Fields S G F → (S → Type 0) → Place S F → ℕ → Type 0
MayNeed fields Wants p byte = Wants p.state × (is_full fields p ≡ false)

-- the field gives this answer and state, which may be that at the place after the field; `NoMemory` changes nothing,
-- and is answered only if the state may want memory
abbrev pub Judges : {S G F : Type 0} → (S → ℕ → Type 0) → (S → Type 0) → Judged S G F → ℕ → S → S
    → Result (Option G) (NotTaken F) → Type 0
Judges Fits Wants judged after old new (Ok None) = (judged ≡ Then new) × Fits new after
Judges Fits Wants judged after old new (Ok (Some item)) = (judged ≡ Gives new item) × Fits new after
Judges Fits Wants judged after old new (Err (Fault fault)) = (judged ≡ Wrong fault) × (new ≡ old)
Judges Fits Wants judged after old new (Err NoMemory) = (new ≡ old) × Wants old

-- the field gives no record
abbrev pub IsQuiet : {S G F : Type 0} → Judged S G F → Type 0
IsQuiet (Gives next item) = ⊥
IsQuiet judged = ⊤

-- this is the fault that was met, or that of a text that ends too early
abbrev pub EndsWith : {S G F : Type 0} → Fields S G F → Option F → Place S F → F → Type 0
EndsWith fields None p fault = (fields.is_end p.state ≡ false) × (fault ≡ fields.truncated p.at)
EndsWith fields (Some found) p fault = found ≡ fault

-- the end was read and no fault was met, or this is the fault
abbrev pub EndsAt : {S G F : Type 0} → Fields S G F → Place S F → Result ⊤ F → Type 0
EndsAt fields p (Ok done) = (p.fault ≡ None) × (fields.is_end p.state ≡ true)
EndsAt fields p (Err fault) = EndsWith fields p.fault p fault

-- ---- for the reader only

-- the bytes that were read of a number and of a run are those of a field of this shape
abbrev pub IsPart : Shape → List ℕ → List ℕ → Type 0
IsPart Byte field payload = (field ≡ []) × (payload ≡ [])
IsPart Four field payload = (length field < 4) × (payload ≡ [])
IsPart Eight field payload = payload ≡ []
IsPart (Run others) field payload = (field ≡ []) × (length payload ≤ others)

-- if no fault was met, the state may be that at the place of the field
abbrev pub IsPlaced : {S F : Type 0} → (S → ℕ → Type 0) → Option F → S → ℕ → Type 0
IsPlaced Fits None s at = Fits s at
IsPlaced Fits (Some fault) s at = ⊤

-- what holds of the parts of a reader
pub record IsReader {S F : Type 0} (shape : S → Shape) (limit : ℕ) (Fits : S → ℕ → Type 0) (s : S)
    (field payload : List ℕ) (at : ℕ) (fault : Option F) : Type 0 where
  pub part : IsPart (shape s) field payload
  pub place : IsPlaced Fits fault s (at - length (field ++ payload))
  pub count : length (field ++ payload) ≤ at
  pub short : at ≤ limit
  pub few : limit < 2 ^ 64 - 1

-- the step gives this answer and place
abbrev pub TakesField : {S G F V : Type 0} → Fields S G F → (S → List G → V) → (F → V) → (S → Type 0)
    → Step (Place S F) G → Place S F → Place S F → ℕ → Result (Option G) (NotTaken F) → Type 0
TakesField fields good bad Wants step old new byte answer =
    Follows (format_of fields good bad) (MayNeed fields Wants) step old new byte answer
