-- Comparing an output, text by text. No public clause cites this module.
use Rattle.std.specs.Prelude.{◌≡◌, ◌≢◌, ℕ, ◌≤◌, List, [], ◌++◌, length, take, Option, None, Some}
use Rattle.zy_check.specs.declared.compared.Compared.{Compared}
use Rattle.zy_check.specs.declared.compared.Differing.{Differing}
use Rattle.zy_check.specs.Cause.{agreeing_in}

-- the text made so far for an output is the first `at` bytes of the output that was found
abbrev pub HasFirst : Option (List ℕ) → List ℕ → ℕ → Type 0
HasFirst None made at = (made ≡ []) × (at ≡ 0)
HasFirst (Some found) made at = (at ≤ length found) × (take at found ≡ made)

-- the output that was found is not the expected one, and the first `at` bytes agree
abbrev pub DiffersAt : Option (List ℕ) → List ℕ → ℕ → Type 0
DiffersAt found due at = (found ≢ Some due) × (agreeing_in found (Some due) ≡ at)

-- the text made so far is found, or the output differs, whatever is made after it
abbrev pub AddedTo : Option (List ℕ) → ℕ → List ℕ → ℕ → Option Differing → Type 0
AddedTo found session made at None = HasFirst found made at
AddedTo found session made at (Some d) =
    (d.session ≡ session) × ((behind : List ℕ) → DiffersAt found (made ++ behind) d.at)

-- another text of an output is compared
pub record AddsText (found : Option (List ℕ)) (session : ℕ) (text : List ℕ) (before after : Compared) : Type 0 where
  pub kept : (d : Differing) → before.differing ≡ Some d → after ≡ before
  pub added : before.differing ≡ None → (made : List ℕ) → HasFirst found made before.at
      → AddedTo found session (made ++ text) after.at after.differing

-- the text made is what was found, or the output differs
abbrev pub EndedWith : Option (List ℕ) → ℕ → List ℕ → ℕ → Option Differing → Type 0
EndedWith found session made at None = (found ≡ Some made) × (at ≡ 0)
EndedWith found session made at (Some d) = (d.session ≡ session) × DiffersAt found made d.at

-- an output is compared to its end
pub record Finishes (found : Option (List ℕ)) (session : ℕ) (before after : Compared) : Type 0 where
  pub kept : (d : Differing) → before.differing ≡ Some d → after ≡ before
  pub ended : before.differing ≡ None → (made : List ℕ) → HasFirst found made before.at
      → EndedWith found session made after.at after.differing
