-- What a part keeps of a text while it is read: the streams of a capture's records, and the outputs of those of a
-- replies file. No public clause cites this module.
use Rattle.std.specs.Prelude.{◌≡◌, ℕ, List, [], ◌∷◌, ◌++◌, Option, None, Some, option_to_list, Bool, Result}
use Rattle.std.specs.Prelude.{Ok, Err, ⊤}
use Rattle.zy_read.specs.declared.not_taken.NotTaken.{NotTaken}
use Rattle.zy_read.specs.declared.not_taken.NotTaken.TheVariants as Answers
use Rattle.zy_read.specs.declared.stop.Stop.{Stop}
use Rattle.zy_read.specs.declared.stop.Stop.TheVariants.{Refused, NoMemory}
use Rattle.zy_input.specs.declared.stop.Refusal.{Refusal}
use Rattle.zy_read.specs.Bytes.{AreBytes}
use Rattle.zy_read.specs.Format.{Format, fault_met}
use Rattle.zy_read.specs.Standing.{StandsAs}

-- what is kept of the texts of a format: it is made once the number that begins the text is known, and depends on the
-- number and the records
pub record Keeper (P G F V K : Type 0) : Type 1 where
  pub format : Format P G F V
  -- the number, once it was read
  pub number_of : List ℕ → Option ℕ
  -- this is kept of a number and some records
  pub holds : K → ℕ → List G → Type 0

-- this is kept of the records, by the number that was read; before that nothing is kept, and there is no record
abbrev pub KeepsRecords : {P G F V K : Type 0} → Keeper P G F V K → Option K → Option ℕ → List G → Type 0
KeepsRecords keeping None None given = given ≡ []
KeepsRecords keeping (Some kept) (Some number) given = keeping.holds kept number given
KeepsRecords keeping kept number given = ⊥

-- the same, except that nothing may have been made yet
abbrev pub KeepsSoFar : {P G F V K : Type 0} → Keeper P G F V K → Option K → Option ℕ → List G → Type 0
KeepsSoFar keeping None number given = given ≡ []
KeepsSoFar keeping (Some kept) number given = KeepsRecords keeping (Some kept) number given

-- these bytes were fed, and this is kept of their records
pub record HasKept {P G F V K : Type 0} (keeping : Keeper P G F V K) (place : P) (made : Option K)
    (bytes : List ℕ) : Type 0 where
  pub given : List G
  pub reader : StandsAs keeping.format place given bytes
  pub small : AreBytes bytes
  pub kept : KeepsRecords keeping made (keeping.number_of bytes) given

-- the reader was fed bytes without a fault, and their records are those that are kept and this one, if there is one
pub record IsKeeping {P G F V K : Type 0} (keeping : Keeper P G F V K) (place : P) (made : Option K)
    (gave : Option G) : Type 0 where
  pub given : List G
  pub bytes : List ℕ
  pub reader : StandsAs keeping.format place (given ++ option_to_list gave) bytes
  pub small : AreBytes bytes
  pub clean : fault_met keeping.format bytes ≡ None
  pub kept : KeepsSoFar keeping made (keeping.number_of bytes) given

-- the same, with one more record; what is kept was made if the number is known
pub record IsAdding {P G F V K : Type 0} (keeping : Keeper P G F V K) (place : P) (made : Option K)
    (item : G) : Type 0 where
  pub given : List G
  pub bytes : List ℕ
  pub reader : StandsAs keeping.format place (given ++ item ∷ []) bytes
  pub small : AreBytes bytes
  pub clean : fault_met keeping.format bytes ≡ None
  pub kept : KeepsRecords keeping made (keeping.number_of bytes) given

-- what the reader gave is kept
abbrev pub KeepsGiven : {P G F V K : Type 0} → Keeper P G F V K → P → Option K → Option K → Option G → Type 0
KeepsGiven {P} {G} keeping place old new gave =
    (given : List G) (bytes : List ℕ) → StandsAs keeping.format place (given ++ option_to_list gave) bytes
    → KeepsSoFar keeping old (keeping.number_of bytes) given
    → KeepsRecords keeping new (keeping.number_of bytes) (given ++ option_to_list gave)

-- what the reader's answer gives is kept, or the part is read no further; `NoMemory` needs no cause
abbrev pub TakesBy : {P G F V K : Type 0} → Keeper P G F V K → (F → Refusal) → P → Option K → Option K → Bool
    → Result (Option G) (NotTaken F) → Result Bool (Stop Refusal) → Type 0
TakesBy keeping refused place old new done (Ok gave) (Ok whole) =
    (whole ≡ done) × KeepsGiven keeping place old new gave
TakesBy keeping refused place old new done (Ok gave) (Err NoMemory) = ⊤
TakesBy keeping refused place old new done (Ok gave) (Err stop) = ⊥
TakesBy keeping refused place old new done (Err (Answers.Fault fault)) answer = answer ≡ Err (Refused (refused fault))
TakesBy keeping refused place old new done (Err Answers.NoMemory) answer = answer ≡ Err NoMemory
