-- A part, by the bytes that were read of a source. No public clause cites this module.
use Rattle.std.specs.Prelude.{◌≡◌, ◌⊎◌, ℕ, ◌<◌, Bool, true, false, List, [], ◌++◌, length, Option, None, Result, Ok}
use Rattle.std.specs.Prelude.{Err, IfSome, ⊤}
use Rattle.zy_base.specs.Outside.{Rose}
use Rattle.zy_read.specs.declared.stop.Stop.{Stop}
use Rattle.zy_read.specs.declared.stop.Stop.TheVariants.{Refused, ReadFault, NoMemory}
use Rattle.zy_read.specs.Piece.{HasGiven, IsOver}
use Rattle.zy_read.specs.Format.{Format, fault_met, verdict_on}
use Rattle.zy_input.specs.declared.stop.Refusal.{Refusal}

-- ---- a part

-- a kind of part, which a reader reads and which gives something
pub record Kind (P T : Type 0) : Type 1 where
  -- these bytes brought the reader to where it is
  pub stands : P → List ℕ → Type 0
  -- the bytes have no fault so far, and the part goes on
  pub goes_on : List ℕ → Type 0
  -- the bytes are the whole part, whatever follows
  pub whole : List ℕ → Type 0
  -- the text is a part that gives this
  pub gives : T → List ℕ → Type 0
  -- the text has this fault, and doesn't begin with a whole part
  pub faulty : List ℕ → Refusal → Type 0

-- the bytes that were taken have no fault, and the part, which has one of these kinds, goes on
abbrev pub IsPartOpen : {C P T : Type 0} → (C → Kind P T) → P → Type 0
IsPartOpen {C} kind part =
    (setting : C) × (bytes : List ℕ) × (kind setting).stands part bytes × (kind setting).goes_on bytes

-- the bytes that were taken are the whole part, or the part goes on
abbrev pub IsPartFed : {C P T : Type 0} → (C → Kind P T) → P → Type 0
IsPartFed {C} kind part =
    (setting : C) × (bytes : List ℕ) × (kind setting).stands part bytes
    × ((kind setting).whole bytes ⊎ (kind setting).goes_on bytes)

-- the part goes on, or was fed, or is read no further
abbrev pub IsLeft : {C P T : Type 0} → (C → Kind P T) → P → Result Bool (Stop Refusal) → Type 0
IsLeft kind part (Ok false) = IsPartOpen kind part
IsLeft kind part (Ok true) = IsPartFed kind part
IsLeft kind part (Err stop) = ⊤

-- after the bytes that were taken, the part goes on or is whole, or has a fault whatever follows;
-- `NoMemory` needs no cause
abbrev pub TakesInPart : {P T : Type 0} → Kind P T → P → List ℕ → Result Bool (Stop Refusal) → Type 0
TakesInPart kind now bytes (Ok false) = kind.stands now bytes × kind.goes_on bytes
TakesInPart kind now bytes (Ok true) = kind.stands now bytes × kind.whole bytes
TakesInPart kind now bytes (Err (Refused refusal)) = (more : List ℕ) → kind.faulty (bytes ++ more) refusal
TakesInPart kind now bytes (Err ReadFault) = ⊥
TakesInPart kind now bytes (Err NoMemory) = ⊤

-- what a whole part gives; `NoMemory` needs no cause
abbrev pub EndsWhole : {P T : Type 0} → Kind P T → List ℕ → Result T (Stop Refusal) → Type 0
EndsWhole kind bytes (Ok gave) = kind.gives gave bytes
EndsWhole kind bytes (Err (Refused refusal)) = ⊥
EndsWhole kind bytes (Err ReadFault) = ⊥
EndsWhole kind bytes (Err NoMemory) = ⊤

-- what a part gives when the input ends; `NoMemory` needs no cause
abbrev pub EndsCut : {P T : Type 0} → Kind P T → List ℕ → Result T (Stop Refusal) → Type 0
EndsCut kind bytes (Ok gave) = kind.gives gave bytes
EndsCut kind bytes (Err (Refused refusal)) = kind.faulty bytes refusal
EndsCut kind bytes (Err ReadFault) = ⊥
EndsCut kind bytes (Err NoMemory) = ⊤

-- ---- a part of a source

-- the text is what came before the part, and then a text with this fault
pub record HasFaultBehind {P T : Type 0} (kind : Kind P T) (before text : List ℕ) (refusal : Refusal) : Type 0 where
  pub rest : List ℕ
  pub whole : text ≡ before ++ rest
  pub faulty : kind.faulty rest refusal

-- the cause of each stop in a part: the fault is one that a part of this kind may have, and that of
-- the source's text, if that is known
abbrev pub StopsPartBy : {P T S : Type 0} → Kind P T → (S → Option (List ℕ)) → (S → ℕ) → S → S → List ℕ → Stop Refusal
    → Type 0
StopsPartBy kind rest faults first now before (Refused refusal) =
    ((text : List ℕ) × kind.faulty text refusal) × IfSome (rest first) (λ text. HasFaultBehind kind before text refusal)
StopsPartBy kind rest faults first now before ReadFault = Rose (faults first) (faults now)
StopsPartBy kind rest faults first now before NoMemory = ⊤

-- the reader was fed these bytes of the part, which goes on
pub record IsReading {P T S : Type 0} (kind : Kind P T) (rest : S → Option (List ℕ)) (faults : S → ℕ) (first now : S)
    (left before bytes : List ℕ) (reader : P) : Type 0 where
  pub given : HasGiven rest faults first now left (before ++ bytes)
  pub stands : kind.stands reader bytes
  pub goes_on : kind.goes_on bytes

-- the reader was fed all bytes of the part, or of the source
pub record HasReadToEnd {P T S : Type 0} (kind : Kind P T) (rest : S → Option (List ℕ)) (faults : S → ℕ) (first now : S)
    (left before : List ℕ) (reader : P) : Type 0 where
  pub bytes : List ℕ
  pub given : HasGiven rest faults first now left (before ++ bytes)
  pub stands : kind.stands reader bytes
  pub end : kind.whole bytes ⊎ (kind.goes_on bytes × IsOver (rest now) left)

-- the part goes on after more bytes, or is read no further
abbrev pub AdvancesPart : {P T S : Type 0} → Kind P T → (S → Option (List ℕ)) → (S → ℕ) → S → S → List ℕ → List ℕ
    → List ℕ
    → P → Result Bool (Stop Refusal) → Type 0
AdvancesPart kind rest faults first now left before bytes reader (Ok false) =
    (more : List ℕ) × (0 < length more) × IsReading kind rest faults first now left before (bytes ++ more) reader
AdvancesPart kind rest faults first now left before bytes reader (Ok true) =
    HasReadToEnd kind rest faults first now left before reader
AdvancesPart kind rest faults first now left before bytes reader (Err stop) =
    StopsPartBy kind rest faults first now before stop

-- the reader was fed the whole part, or all that is left of the source
abbrev pub FeedsPart : {P T S : Type 0} → Kind P T → (S → Option (List ℕ)) → (S → ℕ) → S → S → List ℕ → List ℕ → P
    → Result ⊤ (Stop Refusal) → Type 0
FeedsPart kind rest faults first now left before reader (Ok done) =
    HasReadToEnd kind rest faults first now left before reader
FeedsPart kind rest faults first now left before reader (Err stop) = StopsPartBy kind rest faults first now before stop

-- after what it gave before, the source gave a part: a whole one, or all that is left of the source
pub record HasReadPart {P T S : Type 0} (kind : Kind P T) (rest : S → Option (List ℕ)) (faults : S → ℕ) (first now : S)
    (left before : List ℕ) (gave : T) : Type 0 where
  pub bytes : List ℕ
  pub given : HasGiven rest faults first now left (before ++ bytes)
  pub gives : kind.gives gave bytes
  pub end : kind.whole bytes ⊎ IsOver (rest now) left

-- a part was read, or it is read no further
abbrev pub Reads : {P T S : Type 0} → Kind P T → (S → Option (List ℕ)) → (S → ℕ) → S → S → List ℕ → List ℕ
    → Result T (Stop Refusal) → Type 0
Reads kind rest faults first now left before (Ok gave) = HasReadPart kind rest faults first now left before gave
Reads kind rest faults first now left before (Err stop) = StopsPartBy kind rest faults first now before stop

-- a part with which the source begins was read, or it is read no further
abbrev pub ReadsAlone : {P T S : Type 0} → Kind P T → (S → Option (List ℕ)) → (S → ℕ) → S → S → Result T (Stop Refusal)
    → Type 0
ReadsAlone kind rest faults first now result = (left : List ℕ) × Reads kind rest faults first now left [] result

-- ---- texts of a format

-- the text is whole
abbrev pub IsWholeText : {P G F V : Type 0} → Format P G F V → (V → Bool) → List ℕ → Type 0
IsWholeText format good text = good (verdict_on format text) ≡ true

-- no fault was met in the text, and it is not whole
abbrev pub IsUnfinished : {P G F V : Type 0} → Format P G F V → (V → Bool) → List ℕ → Type 0
IsUnfinished format good text = (fault_met format text ≡ None) × (good (verdict_on format text) ≡ false)

-- no prefix of the text is whole
abbrev pub HasNoWhole : {P G F V : Type 0} → Format P G F V → (V → Bool) → List ℕ → Type 0
HasNoWhole format good text = (front back : List ℕ) → text ≡ front ++ back → ¬ IsWholeText format good front

-- the text has this fault, which is reported so, and no prefix of it is whole
abbrev pub IsFaultyText : {P G F V : Type 0} → Format P G F V → (V → Bool) → (F → Refusal) → List ℕ → Refusal → Type 0
IsFaultyText {P} {G} {F} format good refused text refusal =
    (fault : F) × (refusal ≡ refused fault) × HasNoWhole format good text × (verdict_on format text ≡ format.bad fault)

-- the kind of the parts that are texts of a format: where these are whole, how their faults are reported, which bytes
-- brought the reader to where it is, and what a text gives
abbrev pub format_kind : {P T R G F V : Type 0} → Format R G F V → (V → Bool) → (F → Refusal) → (P → List ℕ → Type 0)
    → (T → List ℕ → Type 0) → Kind P T
format_kind format good refused stands gives = record {
  stands = stands;
  goes_on = IsUnfinished format good;
  whole = IsWholeText format good;
  gives = gives;
  faulty = IsFaultyText format good refused;
}

-- no text is whole before the source is at its end
abbrev pub never : {V : Type 0} → V → Bool
never verdict = false
