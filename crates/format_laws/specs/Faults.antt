-- The faults of a text, in terms of which texts are files and what is wrong in others. A text without anything wrong
-- that is no file is cut, or too long.
use Rattle.std.specs.Prelude.{◌≡◌, ◌⊎◌, ℕ, ◌≤◌, List, ◌∷◌, ◌++◌, length}
use Rattle.zy_base.specs.declared.file_fault.FileFault.{FileFault}
use Rattle.zy_base.specs.declared.file_fault.FileFault.TheVariants.{Form}

-- the text is no file, but nothing in it is wrong, and it is not longer than a file may be
pub record IsBegun {F : Type 0} (limit : ℕ) (IsFile : List ℕ → Type 0) (IsWrong : List ℕ → F → Type 0)
    (text : List ℕ) : Type 0 where
  pub short : length text ≤ limit
  pub no_file : IsFile text → ⊥
  pub none_wrong : (fault : F) → IsWrong text fault → ⊥

-- the text has another byte after the largest number that a file may have, and these do not reach
-- the end byte
pub record IsTooLong {F : Type 0} (limit : ℕ) (IsFile : List ℕ → Type 0) (IsWrong : List ℕ → F → Type 0)
    (text : List ℕ) : Type 0 where
  pub front : List ℕ
  pub byte : ℕ
  pub rest : List ℕ
  pub whole : text ≡ front ++ byte ∷ rest
  pub most : length front ≡ limit
  pub begun : IsBegun limit IsFile IsWrong front

-- the text has this fault: a byte or a number is wrong, or the text ends before the end byte, or it is too long
abbrev pub HasFaultBy : {F : Type 0} → ℕ → (ℕ → F) → F → (List ℕ → Type 0) → (List ℕ → F → Type 0) → List ℕ → F → Type 0
HasFaultBy limit truncated too_long IsFile IsWrong text fault =
    IsWrong text fault
    ⊎ (((fault ≡ truncated (length text)) × IsBegun limit IsFile IsWrong text)
    ⊎ ((fault ≡ too_long) × IsTooLong limit IsFile IsWrong text))

-- a fault of form has the offset of what is wrong
abbrev pub IsWrongForm : (List ℕ → ℕ → Type 0) → List ℕ → FileFault → Type 0
IsWrongForm IsWrongAt text (Form at) = IsWrongAt text at
IsWrongForm IsWrongAt text fault = ⊥
