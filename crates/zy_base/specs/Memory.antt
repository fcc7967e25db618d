-- Sources and sinks in memory, which fail at the calls that a test names.
use Rattle.std.specs.Prelude.{ℕ, ◌+◌, Bool, ◌==◌, nat_le, if◌then◌else◌, List, ◌++◌, length, Option, None, Some}
use Rattle.std.specs.List.{list_any}

-- a source in memory
pub record Reading : Type 0 where
  -- the bytes that are still to come
  pub rest : List ℕ
  -- how many bytes one call gives at most
  pub most : ℕ
  -- the numbers of the calls that fail, from 0
  pub failing : List ℕ
  -- how many calls were made
  pub calls : ℕ
  -- how many of them failed
  pub faults : ℕ

-- a sink in memory
pub record Writing : Type 0 where
  -- the bytes taken, unless one of them was not kept
  pub holds : Option (List ℕ)
  -- how many bytes are kept at most
  pub room : ℕ
  -- how many bytes one call takes at most
  pub most : ℕ
  -- the numbers of the calls that fail, from 0
  pub failing : List ℕ
  -- how many calls were made
  pub calls : ℕ
  -- how many of them failed
  pub faults : ℕ
  -- how often a finish was called, also if it failed
  pub finishes : ℕ
  -- whether the last call was a finish, and succeeded
  pub is_finished : Bool

-- a sink in memory that never fails
pub record Keeping : Type 0 where
  -- the bytes taken, unless one of them was not kept
  pub holds : Option (List ℕ)
  -- how many bytes are kept at most
  pub room : ℕ
  -- how often it was finished
  pub finishes : ℕ
  -- whether the last call was a finish
  pub is_finished : Bool

-- the call with this number fails
abbrev pub is_failing : List ℕ → ℕ → Bool
is_failing failing call = list_any (λ n. n == call) failing

-- the bytes held after a piece was taken: a piece that does not fit is not kept, and then the bytes
-- are no longer known
abbrev pub held_after : Option (List ℕ) → ℕ → List ℕ → Option (List ℕ)
held_after None room piece = None
held_after (Some held) room piece = if nat_le (length held + length piece) room then Some (held ++ piece) else None
