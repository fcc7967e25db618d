-- Answers, before they are text (docs/PROFILE.md, "Answers").
use Rattle.std.specs.Prelude.{ℕ, Bool, List}
use Rattle.mc_parse.specs.declared.error_line.ErrorLine.{ErrorLine}

-- a line that does not depend on a reply
pub data Fixed : Type 0 where
  -- the version
  the_version : Fixed
  -- `OK`: the command was executed
  is_done : Fixed
  -- `MN`: the answer to `mn`
  does_noop : Fixed
  -- a fault
  has_fault : ErrorLine → Fixed

-- what the one reply to a meta command is about
pub data About : Type 0 where
  -- an item that may be found
  a_found : About
  -- a value that may be stored
  a_stored : About
  -- an item that may be removed
  a_removed : About

-- what answers a command
pub data Saying : Type 0 where
  -- the line of its one reply; nothing if it is quiet
  says_reply : Bool → Saying
  -- the items of these keys, and whether with their uniques
  says_items : List (List ℕ) → Bool → Saying
  -- the sums of the counts
  says_counts : Saying
  -- a line that does not depend on a reply; nothing if it is quiet
  says_line : Fixed → Bool → Saying
  -- what its one reply is about, the key, and the letters whose marks are shown
  says_marks : About → List ℕ → List ℕ → Saying
