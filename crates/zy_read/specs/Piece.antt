-- What was read of a source, piece after piece.
use Rattle.std.specs.Prelude.{◌≡◌, ℕ, ◌≤◌, Bool, true, false, List, [], ◌++◌, Option, Result, Ok, Err}
use Rattle.std.specs.Io.KnownBytes.{Consumes, IsAtEnd}
use Rattle.zy_base.specs.Outside.{Rose}
use Rattle.zy_base.specs.declared.outside.Failed.{Failed}
use Rattle.zy_read.specs.Bytes.{AreBytes}
use Rattle.zy_read.specs.declared.not_taken.NotTaken.{NotTaken}
use Rattle.zy_read.specs.declared.not_taken.NotTaken.TheVariants.{Fault}
use Rattle.zy_read.specs.declared.not_taken.NotTaken.TheVariants as Answers
use Rattle.zy_read.specs.declared.stop.Stop.{Stop}
use Rattle.zy_read.specs.declared.stop.Stop.TheVariants.{Refused, NoMemory}

-- since the state `first`, a source gave the bytes taken, followed by those left of the piece
pub record HasGiven {S : Type 0} (rest : S → Option (List ℕ)) (faults : S → ℕ) (first now : S)
    (left taken : List ℕ) : Type 0 where
  pub source : Consumes (rest first) (rest now) (taken ++ left)
  -- all these numbers are bytes
  pub bytes : AreBytes (taken ++ left)
  pub count : faults first ≤ faults now

-- nothing is left of the piece, and the source is at its end
abbrev pub IsOver : Option (List ℕ) → List ℕ → Type 0
IsOver rest left = (left ≡ []) × IsAtEnd rest

-- the piece has bytes, or none are left, or the read failed: then the count of faults rose or is at
-- its largest value
abbrev pub Refills : {S : Type 0} → (S → Option (List ℕ)) → (S → ℕ) → S → S → List ℕ → List ℕ → Result Bool Failed
    → Type 0
Refills rest faults first now left taken (Ok true) = HasGiven rest faults first now left taken
Refills rest faults first now left taken (Ok false) = HasGiven rest faults first now left taken × IsOver (rest now) left
Refills rest faults first now left taken (Err failed) = Rose (faults first) (faults now)

-- why a text is read no further for a byte that was not taken
abbrev pub stop_of : {F : Type 0} → NotTaken F → Stop F
stop_of (Fault fault) = Refused fault
stop_of Answers.NoMemory = NoMemory
