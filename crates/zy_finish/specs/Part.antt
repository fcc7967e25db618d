-- How the outputs of a connection's sessions are added, one after another. No public clause cites this module.
use Rattle.std.specs.Prelude.{◌≡◌, ℕ, ◌==◌, if◌then◌else◌, List, [], ◌∷◌, ◌++◌, length}

-- the ends at which a connection's texts are cut: version 1 has one session a connection
abbrev pub session_ends : ℕ → List ℕ → List ℕ
session_ends version ends = if version == 1 then [] else ends

-- the sessions with some outputs of one more connection
abbrev pub added : List (List (List ℕ)) → List (List ℕ) → List (List (List ℕ))
added sessions [] = sessions
added sessions (part ∷ parts) = sessions ++ (part ∷ parts) ∷ []

-- `count` outputs of one connection were added, and `left` is left to add
pub record HasAdded (before : List (List (List ℕ))) (all : List (List ℕ)) (count : ℕ) (left : List (List ℕ))
    (sessions : List (List (List ℕ))) : Type 0 where
  pub parts : List (List ℕ)
  pub whole : parts ++ left ≡ all
  pub count_is : length parts ≡ count
  pub sessions_are : sessions ≡ added before parts
