-- How a framer's state is seen, and what a step from one to another does. No public clause cites
-- this module.
use Rattle.std.specs.Prelude.{◌≡◌, ℕ, ◌+◌, ◌<◌, ◌≤◌, ◌==◌, nat_lt, if◌then◌else◌, Bool, true, false, List, []}
use Rattle.std.specs.Prelude.{◌∷◌, ◌++◌, length, take, drop, Option, Some, option_to_list, Result, Ok, Err, ⊤}
use Rattle.mc_calls.specs.Shard.{value_limit}
use Rattle.mc_parse.specs.declared.need.Need.{Need}
use Rattle.mc_parse.specs.declared.need.Need.TheVariants as Needs
use Rattle.zy_base.specs.declared.outside.NoMemory.{NoMemory}
use Rattle.zy_frame.specs.declared.frame_kind.FrameKind.{FrameKind}
use Rattle.zy_frame.specs.declared.wanted.Wanted.{Wanted}
use Rattle.zy_frame.specs.declared.state.State.{State}
use Rattle.zy_frame.specs.declared.state.State.TheVariants.{Line, Long, Block, Large, Quit, Refused}
use Rattle.mc_parse.specs.declared.parsed.Parsed.{Parsed}
use Rattle.mc_parse.specs.Parsed.{IsParsed}
use Rattle.zy_frame.specs.Line.{first_line, line_feed, chomped}
use Rattle.zy_frame.specs.Progress.{Awaited, Progress, in_line, in_long_line, in_block, in_large_block, behind_quit}
use Rattle.zy_frame.specs.Progress.{without_memory, Keeps, outcome_of, with_frames, goes_on, IsRefused}

-- ---- states

-- the block that is still to come
abbrev pub awaited : Wanted → Awaited
awaited wanted = record { line = wanted.line; size = wanted.size; left = wanted.left }

-- the unfinished frame of a framer in this state
abbrev pub progress_of : State → Progress
progress_of (Line kept) = in_line kept
progress_of Long = in_long_line
progress_of (Block wanted block) = in_block (awaited wanted) block
progress_of (Large wanted) = in_large_block (awaited wanted)
progress_of Quit = behind_quit
progress_of Refused = without_memory

-- the state at the start of the block of a storage line
abbrev pub waiting : List ℕ → ℕ → State
waiting line size = let wanted : Wanted = record { line = line; size = size; left = size + 2 } in
    if nat_lt value_limit size then Large wanted else Block wanted []

-- the state after a line of which these bytes came, and whether it is too long
abbrev pub grown_to : Bool → List ℕ → State
grown_to true kept = Long
grown_to false kept = Line kept

-- the state after the line feed of a line that needs this; a storage line was kept
abbrev pub after_line : Need → State → State
after_line Needs.Nothing state = state
after_line Needs.Quit state = Quit
after_line (Needs.Block size) (Line kept) = waiting kept size
after_line (Needs.Block size) state = state

-- the state after bytes of a block: at the start of a line if none is still to come
abbrev pub after_block : State → State
after_block (Block wanted block) = if wanted.left == 0 then Line [] else Block wanted block
after_block (Large wanted) = if wanted.left == 0 then Line [] else Large wanted
after_block state = state

-- this was read of the line of a block that is to come and is kept
abbrev pub IsParsedFor : State → Parsed → Type 0
IsParsedFor (Block wanted block) parsed = IsParsed (chomped wanted.line) parsed
IsParsedFor state parsed = ⊤

-- ---- steps

-- the bytes have a line feed at this place, and none before it
pub record LineAt (bytes : List ℕ) (at : ℕ) : Type 0 where
  pub within : at < length bytes
  pub ends : first_line bytes ≡ Some (record { line = take at bytes; after = drop (at + 1) bytes })

-- a step over bytes: some were taken, this frame came, and what follows gives what the next state gives
pub record Goes (state : State) (bytes : List ℕ) (next : State) (taken : ℕ) (frame : Option FrameKind) : Type 0 where
  pub keeps : Keeps (progress_of next)
  pub some : 0 < taken
  pub within : taken ≤ length bytes
  pub on : (more : List ℕ) → goes_on (progress_of state) (bytes ++ more)
      ≡ with_frames (option_to_list frame) (goes_on (progress_of next) (drop taken bytes ++ more))

-- a step from a state over bytes, whose frame was appended
pub record Moves (old new : State) (before after : List FrameKind) (bytes : List ℕ) (taken : ℕ) : Type 0 where
  pub frame : Option FrameKind
  pub goes : Goes old bytes new taken frame
  pub appended : after ≡ before ++ option_to_list frame

-- the line feed of a line has come: what follows gives this frame and then what this state gives
pub record Closes (line : List ℕ) (state : State) (frame : Option FrameKind) : Type 0 where
  pub keeps : Keeps (progress_of state)
  pub on : (more : List ℕ) → outcome_of (line ++ line_feed ∷ more)
      ≡ with_frames (option_to_list frame) (goes_on (progress_of state) more)

-- the same, and the frame was appended
pub record ClosesTo (line : List ℕ) (state : State) (before after : List FrameKind) : Type 0 where
  pub frame : Option FrameKind
  pub closes : Closes line state frame
  pub appended : after ≡ before ++ option_to_list frame

-- some bytes were taken, and these frames given
pub record Gives (old new : Progress) (before after : List FrameKind) (bytes : List ℕ) (taken : ℕ)
    : Type 0 where
  pub keeps : Keeps new
  pub given : List FrameKind
  pub appended : after ≡ before ++ given
  pub on : (more : List ℕ) → goes_on old (bytes ++ more)
      ≡ with_frames given (goes_on new (drop taken bytes ++ more))

-- one step of feeding
abbrev pub Advances : Progress → Progress → List FrameKind → List FrameKind → List ℕ
    → Result ℕ NoMemory → Type 0
Advances old new before after bytes (Ok taken) =
    Gives old new before after bytes taken × (0 < taken) × (taken ≤ length bytes)
Advances old new before after bytes (Err e) = IsRefused new × (after ≡ before)
