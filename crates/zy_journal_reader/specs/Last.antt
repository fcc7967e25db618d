-- The last one of a list. No public clause cites this module.
use Rattle.std.specs.Prelude.{List, [], ◌∷◌, Option, None, Some}

-- the last one of a list, or the one before all if the list is empty
abbrev pub last_after : {X : Type 0} → Option X → List X → Option X
last_after before [] = before
last_after before (x ∷ xs) = last_after (Some x) xs

-- the last one of a list, if there is one
abbrev pub last_one : {X : Type 0} → List X → Option X
last_one xs = last_after None xs
