-- What whole fields encode, one after another: the texts that a format of fields takes, and those that have a
-- fault.
use Rattle.std.specs.Prelude.{◌≡◌, ◌⊎◌, ℕ, ◌+◌, ◌<◌, ◌≤◌, true, false, List, [], ◌∷◌, ◌++◌, length}
use Rattle.std.specs.List.{concat}
use Rattle.zy_read.specs.Fields.{Judged, Fields}
use Rattle.zy_read.specs.Fields.Judged.{Then, Gives, Wrong}

-- ---- whole fields

-- the whole field is not wrong, and the rest leads on from the next state with the other records
abbrev pub GoesOn : {S G F : Type 0} → Judged S G F → (S → List G → Type 0) → List G → Type 0
GoesOn (Then next) Rest given = Rest next given
GoesOn {S} {G} (Gives next item) Rest given = (others : List G) × (given ≡ item ∷ others) × Rest next others
GoesOn (Wrong fault) Rest given = ⊥

-- from a state, at some place, whole fields of which none is wrong lead to a state, and give these records
abbrev pub Runs : {S G F : Type 0} → Fields S G F → S → ℕ → List (List ℕ) → S → List G → Type 0
Runs fields s at [] last given = (last ≡ s) × (given ≡ [])
Runs {S} {G} fields s at (field ∷ others) last given =
    (length field ≡ fields.width s)
    × GoesOn (fields.judge s at field) (λ next rest. Runs fields next (at + length field) others last rest) given

-- a text is whole fields that lead from a state, at some place, to a state, and give these records
pub record RunsOver {S G F : Type 0} (fields : Fields S G F) (s : S) (at : ℕ) (text : List ℕ) (last : S)
    (given : List G) : Type 0 where
  pub parts : List (List ℕ)
  pub runs : Runs fields s at parts last given
  pub text_is : concat parts ≡ text

-- ---- texts

-- a text begins with whole fields that lead to this state and give these records, and goes on with `rest`
pub record Begins {S G F : Type 0} (fields : Fields S G F) (text : List ℕ) (s : S) (given : List G) (rest : List ℕ)
    : Type 0 where
  pub parts : List (List ℕ)
  pub runs : Runs fields fields.start 0 parts s given
  pub text_is : text ≡ concat parts ++ rest
  pub short : length (concat parts) ≤ fields.limit

-- the number of bytes is within the limit, or the end was read before them
abbrev pub HasRoom : {S G F : Type 0} → Fields S G F → S → ℕ → Type 0
HasRoom fields s count = (fields.is_end s ≡ true) ⊎ (count ≤ fields.limit)

-- whole fields lead to a state at which the text may end
pub record IsWhole {S G F : Type 0} (fields : Fields S G F) (text : List ℕ) (s : S) (given : List G) : Type 0 where
  pub begins : Begins fields text s given []
  pub end_is : fields.is_end s ≡ true

-- after whole fields the text ends within the next field, or before it, and may not end there
pub record IsCut {S G F : Type 0} (fields : Fields S G F) (text : List ℕ) : Type 0 where
  pub s : S
  pub given : List G
  pub seen : List ℕ
  pub begins : Begins fields text s given seen
  pub no_end : fields.is_end s ≡ false
  pub part : length seen < fields.width s
  pub within : length text ≤ fields.limit

-- after whole fields the next one is whole too, and wrong
pub record IsMisjudged {S G F : Type 0} (fields : Fields S G F) (text : List ℕ) (s : S) (fault : F) : Type 0 where
  pub given : List G
  pub field : List ℕ
  pub rest : List ℕ
  pub begins : Begins fields text s given (field ++ rest)
  pub size : length field ≡ fields.width s
  pub room : HasRoom fields s (length (concat begins.parts) + length field)
  pub wrong : fields.judge s (length (concat begins.parts)) field ≡ Wrong fault

-- the text has the most bytes and one more, before its end was read
pub record IsOverlong {S G F : Type 0} (fields : Fields S G F) (text : List ℕ) (s : S) : Type 0 where
  pub given : List G
  pub seen : List ℕ
  pub byte : ℕ
  pub rest : List ℕ
  pub begins : Begins fields text s given (seen ++ byte ∷ rest)
  pub no_end : fields.is_end s ≡ false
  pub part : length seen < fields.width s
  pub most : length (concat begins.parts) + length seen ≡ fields.limit

-- the text has this fault, which is met in this state
abbrev pub HasFault : {S G F : Type 0} → Fields S G F → List ℕ → S → F → Type 0
HasFault fields text s fault = IsMisjudged fields text s fault ⊎ (IsOverlong fields text s × (fault ≡ fields.too_long))

-- what a verdict on a text says of it: it is whole, cut, or has a fault
abbrev pub IsOutcome : {S G F V : Type 0} → Fields S G F → (S → List G → V) → (F → V) → List ℕ → V → Type 0
IsOutcome {S} {G} {F} fields good bad text verdict =
    ((s : S) × ((given : List G) × IsWhole fields text s given × (verdict ≡ good s given)))
    ⊎ ((IsCut fields text × (verdict ≡ bad (fields.truncated (length text))))
    ⊎ ((s : S) × ((fault : F) × HasFault fields text s fault × (verdict ≡ bad fault))))
