-- What a source gives, what a sink takes, and when they fail.
use Rattle.std.specs.Prelude.{◌≡◌, ◌⊎◌, ⊤, ℕ, ◌+◌, ◌-◌, ◌^◌, ◌<◌, ◌≤◌, min, Bool, true}
use Rattle.std.specs.Prelude.{List, [], ◌++◌, length, take, Option, None, Some, Result, MatchResult, OnOk, OnErr}

-- the count of faults rose, or is at its largest value
abbrev pub Rose : ℕ → ℕ → Type 0
Rose before after = (before < after) ⊎ (2 ^ 64 - 1 ≤ after)

-- a count plus one, which stays at its largest value
abbrev pub one_more : ℕ → ℕ
one_more count = min (count + 1) (2 ^ 64 - 1)

-- if the bytes held are known afterwards, they were known before, and these were appended
abbrev pub Grew : Option (List ℕ) → Option (List ℕ) → List ℕ → Type 0
Grew before None bytes = ⊤
Grew None (Some after) bytes = ⊥
Grew (Some before) (Some after) bytes = after ≡ before ++ bytes

-- as `Grew`, with a prefix of these bytes
abbrev pub GrewByPrefix : Option (List ℕ) → Option (List ℕ) → List ℕ → Type 0
GrewByPrefix before after bytes = (n : ℕ) × (n ≤ length bytes) × Grew before after (take n bytes)

-- a write took its first n bytes at `Ok(n)`, and none at `Err`
abbrev pub WriteGrew : {E : Type 0} → Option (List ℕ) → Option (List ℕ) → Result ℕ E → List ℕ → Type 0
WriteGrew before after result from =
    MatchResult result (λ n. Grew before after (take n from)) (λ _. Grew before after [])

-- `Ok(n)` took at most the whole piece, and something of a piece that is not empty
abbrev pub TakesSome : {E : Type 0} → Result ℕ E → List ℕ → Type 0
TakesSome result from = MatchResult result (λ n. (n ≤ length from) × (0 < length from → 0 < n)) (λ _. ⊤)

-- the bytes that are known now, or none if none were known at first
abbrev pub told_since : Option (List ℕ) → Option (List ℕ) → Option (List ℕ)
told_since None now = None
told_since (Some first) now = now

-- a call that writes a text wrote the whole text, or failed after a prefix of it
pub record Writes {K E : Type 0} (holds : K → Option (List ℕ)) (faults finishes : K → ℕ) (old new : K)
    (result : Result ⊤ E) (text : List ℕ) : Type 0 where
  -- at `Ok` the sink grew by the text
  pub whole : OnOk result (Grew (holds old) (holds new) text)
  -- at `Err` it grew by a prefix of the text
  pub part : OnErr result (GrewByPrefix (holds old) (holds new) text)
  -- the count of faults didn't fall
  pub count : faults old ≤ faults new
  -- a call answers `Err` only if the count rose, or is at its largest value
  pub cause : OnErr result (Rose (faults old) (faults new))
  -- the sink was not finished
  pub unfinished : finishes new ≡ finishes old

-- a call that writes a text and then finishes the sink wrote the whole text and finished once, or failed after a
-- prefix
pub record WritesLast {K E : Type 0} (holds : K → Option (List ℕ)) (faults finishes : K → ℕ) (is_finished : K → Bool)
    (old new : K) (result : Result ⊤ E) (text : List ℕ) : Type 0 where
  -- at `Ok` the sink grew by the text
  pub whole : OnOk result (Grew (holds old) (holds new) text)
  -- at `Err` it grew by a prefix of the text
  pub part : OnErr result (GrewByPrefix (holds old) (holds new) text)
  -- the count of faults didn't fall
  pub count : faults old ≤ faults new
  -- a call answers `Err` only if the count rose, or is at its largest value
  pub cause : OnErr result (Rose (faults old) (faults new))
  -- at `Ok` the sink was finished once
  pub finished : OnOk result (finishes new ≡ one_more (finishes old))
  -- at `Ok` that was the last call, and it succeeded
  pub last : OnOk result (is_finished new ≡ true)
  -- at `Err` it was not finished, if a write failed, or once, if that failed
  pub broken : OnErr result ((finishes new ≡ finishes old) ⊎ (finishes new ≡ one_more (finishes old)))
