-- How far a framer has come in a stream, and which streams may have brought it there.
use Rattle.std.specs.Prelude.{◌≡◌, ℕ, ◌+◌, ◌<◌, ◌≤◌, nat_lt, if◌then◌else◌, Bool, true, false}
use Rattle.std.specs.Prelude.{List, [], ◌∷◌, ◌++◌, length, take, drop, Option, None, Some, ⊤}
use Rattle.mc_calls.specs.Shard.{value_limit}
use Rattle.mc_parse.specs.declared.need.Need.TheVariants as Needs
use Rattle.mc_parse.specs.Need.{need}
use Rattle.zy_frame.specs.declared.frame_kind.FrameKind.{FrameKind}
use Rattle.zy_frame.specs.declared.frame_kind.FrameKind.TheVariants as Kinds
use Rattle.zy_frame.specs.Line.{Ended, IsShort, first_line, chomped}
use Rattle.zy_frame.specs.Cut.{frames_of, meets_quit}

-- ---- the unfinished frame of a framer

-- a storage line whose block is to come: the line with the carriage return at its end, if it has
-- one, the size of the value that it announces, and the number of bytes of its block that are still
-- to come
pub record Awaited : Type 0 where
  pub line : List ℕ
  pub size : ℕ
  pub left : ℕ

-- the unfinished frame of a framer
pub data Progress : Type 0 where
  -- a line: its bytes so far
  in_line : List ℕ → Progress
  -- a line that is too long, which is not kept
  in_long_line : Progress
  -- a block: its line, and its bytes so far
  in_block : Awaited → List ℕ → Progress
  -- a block that is too large, which is not kept
  in_large_block : Awaited → Progress
  -- what follows a quit line
  behind_quit : Progress
  -- what follows after a failed allocation
  without_memory : Progress

-- the line takes a block of this size, of which some bytes are still to come
pub record IsAwaited (block : Awaited) : Type 0 where
  pub short : IsShort block.line
  pub sized : need (chomped block.line) ≡ Needs.Block block.size
  pub some : 0 < block.left

-- a block that is kept: it is not too large, and its bytes so far are all but those that are still
-- to come
pub record IsKeptBlock (awaited : Awaited) (block : List ℕ) : Type 0 where
  pub awaits : IsAwaited awaited
  pub small : awaited.size ≤ value_limit
  pub all : length block + awaited.left ≡ awaited.size + 2

-- a block that is not kept
pub record IsLargeBlock (awaited : Awaited) : Type 0 where
  pub awaits : IsAwaited awaited
  pub large : value_limit < awaited.size

-- what holds of each framer
abbrev pub Keeps : Progress → Type 0
Keeps (in_line kept) = IsShort kept
Keeps (in_block awaited block) = IsKeptBlock awaited block
Keeps (in_large_block awaited) = IsLargeBlock awaited
Keeps progress = ⊤

-- the number of bytes kept
abbrev pub kept_by : Progress → ℕ
kept_by (in_line kept) = length kept
kept_by (in_block awaited block) = length awaited.line + length block
kept_by (in_large_block awaited) = length awaited.line
kept_by progress = 0

-- whether what follows a quit line comes
abbrev pub is_quit : Progress → Bool
is_quit behind_quit = true
is_quit progress = false

-- a quit line was met
abbrev pub IsQuit : Progress → Type 0
IsQuit framer = framer ≡ behind_quit

-- an allocation failed
abbrev pub IsRefused : Progress → Type 0
IsRefused framer = framer ≡ without_memory

-- ---- what cutting gives

-- frames, and whether a quit line was met
pub record Outcome : Type 0 where
  pub frames : List FrameKind
  pub quit : Bool

-- what cutting a stream gives
abbrev pub outcome_of : List ℕ → Outcome
outcome_of stream = record { frames = frames_of stream; quit = meets_quit stream }

-- no frame, and no quit line
abbrev pub no_outcome : Outcome
no_outcome = record { frames = []; quit = false }

-- an outcome with these frames before its own
abbrev pub with_frames : List FrameKind → Outcome → Outcome
with_frames frames outcome = record { frames = frames ++ outcome.frames; quit = outcome.quit }

-- ---- what a framer gives for the bytes that follow

-- what a framer gives in a line that is too long, by where its line feed comes
abbrev pub ends_long : Option Ended → Outcome
ends_long None = no_outcome
ends_long (Some ended) = with_frames (Kinds.Long ∷ []) (outcome_of ended.after)

-- what a framer gives in a frame that lacks `left` bytes
abbrev pub ends_frame : ℕ → (List ℕ → FrameKind) → List ℕ → Outcome
ends_frame left kind bytes = if nat_lt (length bytes) left
    then no_outcome
    else with_frames (kind (take left bytes) ∷ []) (outcome_of (drop left bytes))

-- the frame of a block, once the rest of it has come
abbrev pub with_rest : Awaited → List ℕ → List ℕ → FrameKind
with_rest awaited block rest = Kinds.Block (chomped awaited.line) (block ++ rest)

-- what a framer gives when these bytes follow
unfoldable pub goes_on : Progress → List ℕ → Outcome
goes_on (in_line kept) bytes = outcome_of (kept ++ bytes)
goes_on in_long_line bytes = ends_long (first_line bytes)
goes_on (in_block awaited block) bytes = ends_frame awaited.left (with_rest awaited block) bytes
goes_on (in_large_block awaited) bytes =
    ends_frame awaited.left (λ rest. Kinds.Large (chomped awaited.line)) bytes
goes_on behind_quit bytes = record { frames = []; quit = true }
goes_on without_memory bytes = no_outcome

-- the bytes that were fed may have been these: whatever follows, the framer gives what the stream
-- then has beyond its frames so far
unfoldable pub StandsFor : Progress → List ℕ → Type 0
StandsFor framer fed = (more : List ℕ)
    → outcome_of (fed ++ more) ≡ with_frames (frames_of fed) (goes_on framer more)
