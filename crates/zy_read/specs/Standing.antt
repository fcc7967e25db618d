-- The bytes that brought a reader to where it is, the records that it gave for them, and the
-- meaning of an answer to further bytes.
use Rattle.std.specs.Prelude.{◌≡◌, ℕ, ◌+◌, List, [], ◌++◌, Option, None, Some, option_to_list, Result, Ok, Err, ⊤}
use Rattle.zy_read.specs.declared.not_taken.NotTaken.{NotTaken}
use Rattle.zy_read.specs.declared.not_taken.NotTaken.TheVariants.{Fault, NoMemory}
use Rattle.zy_read.specs.Format.{Format, Step, reading_of, fault_met, verdict_on}

-- these bytes were fed, one after another, and these records were given for them
unfoldable pub StandsAs : {P G F V : Type 0} → Format P G F V → P → List G → List ℕ → Type 0
StandsAs format p given fed = reading_of format fed ≡ record { given = given; last = p }

-- ---- bytes that are fed

-- the records that an answer gives
abbrev pub given_in : {G F : Type 0} → Result (Option G) (NotTaken F) → List G
given_in (Ok gave) = option_to_list gave
given_in (Err e) = []

-- for these further bytes, these further records were given
abbrev pub Feeds : {P G F V : Type 0} → Format P G F V → P → P → List ℕ → List G → Type 0
Feeds {P} {G} format old new bytes gave =
    (given : List G) (b : List ℕ) → StandsAs format old given b → StandsAs format new (given ++ gave) (b ++ bytes)

-- after these further bytes, this is the fault that was met
abbrev pub MeetsFault : {P G F V : Type 0} → Format P G F V → P → List ℕ → Option F → Type 0
MeetsFault {P} {G} format old bytes told =
    (given : List G) (b : List ℕ) → StandsAs format old given b → fault_met format (b ++ bytes) ≡ told

-- after these further bytes, this is the fault of every longer text
abbrev pub LastsAs : {P G F V : Type 0} → Format P G F V → P → List ℕ → F → Type 0
LastsAs {P} {G} format old bytes fault =
    (given : List G) (b more : List ℕ) → StandsAs format old given b
    → verdict_on format (b ++ (bytes ++ more)) ≡ format.bad fault

-- an answer gives the records of the bytes; after `NoMemory` nothing changed
abbrev pub FeedsAs : {P G F V : Type 0} → Format P G F V → P → P → List ℕ → Result (Option G) (NotTaken F) → Type 0
FeedsAs format old new bytes (Ok gave) = Feeds format old new bytes (option_to_list gave)
FeedsAs format old new bytes (Err (Fault fault)) = Feeds format old new bytes []
FeedsAs format old new bytes (Err NoMemory) = new ≡ old

-- an answer is the fault that was met in the bytes
abbrev pub TellsFault : {P G F V : Type 0} → Format P G F V → P → List ℕ → Result (Option G) (NotTaken F) → Type 0
TellsFault format old bytes (Ok gave) = MeetsFault format old bytes None
TellsFault format old bytes (Err (Fault fault)) = MeetsFault format old bytes (Some fault)
TellsFault format old bytes (Err NoMemory) = ⊤

-- a fault that an answer reports lasts
abbrev pub TellsLasting : {P G F V : Type 0} → Format P G F V → P → List ℕ → Result (Option G) (NotTaken F) → Type 0
TellsLasting format old bytes (Err (Fault fault)) = LastsAs format old bytes fault
TellsLasting format old bytes answer = ⊤

-- the answer is determined by the bytes fed
abbrev pub AnswersBy : {P G F V X : Type 0} → Format P G F V → P → (List ℕ → X) → X → Type 0
AnswersBy {P} {G} format p of answer = (given : List G) (b : List ℕ) → StandsAs format p given b → answer ≡ of b

-- ---- bytes in pieces

-- the number of bytes taken, with this answer to the byte after `before` others
abbrev pub taken_with : {G F : Type 0} → ℕ → Result (Option G) (NotTaken F) → ℕ
taken_with before (Ok gave) = before + 1
taken_with before (Err (Fault fault)) = before + 1
taken_with before (Err NoMemory) = before

-- ---- for readers only

-- the step gives this answer and state; `NoMemory` changes nothing, and is answered only at a byte that needs memory
abbrev pub Follows : {P G F V : Type 0} → Format P G F V → (P → ℕ → Type 0) → Step P G → P → P → ℕ
    → Result (Option G) (NotTaken F) → Type 0
Follows format wants step old new byte (Ok gave) = (new ≡ step.next) × (gave ≡ step.gave) × (format.fault_in new ≡ None)
Follows format wants step old new byte (Err (Fault fault)) =
    (new ≡ step.next) × (step.gave ≡ None) × (format.fault_in new ≡ Some fault)
Follows format wants step old new byte (Err NoMemory) = (new ≡ old) × wants old byte
