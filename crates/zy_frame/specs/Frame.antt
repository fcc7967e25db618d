-- Frames: the bytes of a stream that make a frame, and its meaning (docs/PROFILE.md, "Lines and
-- words" and "Commands").
use Rattle.std.specs.Prelude.{◌≡◌, ℕ, ◌+◌, ◌≤◌, nat_lt, if◌then◌else◌, List}
use Rattle.std.specs.Prelude.{length, take, drop, Option, None, Some, MatchOption, ⊤}
use Rattle.mc_calls.specs.Shard.{value_limit}
use Rattle.mc_parse.specs.declared.need.Need.{Need}
use Rattle.mc_parse.specs.declared.need.Need.TheVariants as Needs
use Rattle.mc_parse.specs.declared.command.Command.{Command}
use Rattle.mc_parse.specs.Need.{need}
use Rattle.mc_parse.specs.Meaning.{line_command, block_command, large_command, long_command}
use Rattle.zy_frame.specs.declared.frame_kind.FrameKind.{FrameKind}
use Rattle.zy_frame.specs.declared.frame_kind.FrameKind.TheVariants.{Line, Block, Large, Long}
use Rattle.zy_frame.specs.declared.form.Form.{Form}
use Rattle.zy_frame.specs.declared.form.Form.TheVariants as Forms
use Rattle.zy_frame.specs.declared.parts.Parts.{Parts}
use Rattle.zy_frame.specs.declared.parts.Parts.TheVariants as Seen
use Rattle.mc_parse.specs.declared.parsed.Parsed.{Parsed}
use Rattle.mc_parse.specs.Parsed.{IsParsed}
use Rattle.mc_parse.specs.Words.{line_limit}
use Rattle.zy_frame.specs.Line.{Ended, first_line, chomped}

-- ---- frame texts

-- how many bytes after its line feed belong to the frame of a line with this need; nothing if it
-- has no frame
abbrev pub tail_by : Need → Option ℕ
tail_by Needs.Nothing = Some 0
tail_by (Needs.Block bytes) = Some (bytes + 2)
tail_by Needs.Quit = None

-- how many bytes after its line feed belong to a line's frame; none if the line is too long; a quit
-- line has no frame
abbrev pub tail_length : List ℕ → Option ℕ
tail_length line = if nat_lt line_limit (length line) then Some 0 else tail_by (need (chomped line))

-- a line, its line feed, and then exactly the bytes that belong to the line's frame
abbrev pub IsFrameText : List ℕ → Type 0
IsFrameText text =
    MatchOption (first_line text) ⊥ (λ ended. tail_length ended.line ≡ Some (length ended.after))

-- ---- the frame of a frame text

-- the frame of a line with this need, its carriage return dropped, and of the bytes after its line
-- feed; a quit line has no frame, so any value does
abbrev pub frame_by : Need → List ℕ → List ℕ → FrameKind
frame_by Needs.Nothing line after = Line line
frame_by (Needs.Block bytes) line after =
    if nat_lt value_limit bytes then Large line else Block line after
frame_by Needs.Quit line after = Long

-- the frame of a line and of the bytes after its line feed
abbrev pub frame_at : List ℕ → List ℕ → FrameKind
frame_at line after = if nat_lt line_limit (length line)
    then Long
    else frame_by (need (chomped line)) (chomped line) after

-- the frame of a line, if it has ended
abbrev pub frame_in : Option Ended → FrameKind
frame_in None = Long
frame_in (Some ended) = frame_at ended.line ended.after

-- the frame of a frame text; of another text it says nothing
abbrev pub frame_of : List ℕ → FrameKind
frame_of text = frame_in (first_line text)

-- the frame of some frame text
pub record IsFrame (kind : FrameKind) : Type 0 where
  pub text : List ℕ
  pub is_text : IsFrameText text
  pub of_text : kind ≡ frame_of text

-- this was read of the line of a frame; nothing is said of a frame without its line or its block
abbrev pub IsParsedIn : FrameKind → Parsed → Type 0
IsParsedIn (Line line) parsed = IsParsed line parsed
IsParsedIn (Block line block) parsed = IsParsed line parsed
IsParsedIn kind parsed = ⊤

-- ---- the bytes of a frame

-- the frame that these bytes are in this form; if it has a block, its line has `line` bytes, and
-- `gap` bytes are between line and block
abbrev pub kind_in : Form → ℕ → ℕ → List ℕ → FrameKind
kind_in Forms.Line line gap bytes = Line bytes
kind_in Forms.Block line gap bytes = Block (take line bytes) (drop (line + gap) bytes)
kind_in Forms.Large line gap bytes = Large bytes
kind_in Forms.Long line gap bytes = Long

-- the bytes have the parts of this form
abbrev pub HasParts : Form → ℕ → ℕ → List ℕ → Type 0
HasParts Forms.Block line gap bytes = line + gap ≤ length bytes
HasParts form line gap bytes = ⊤

-- the frame with these parts
abbrev pub parts_seen : Parts → FrameKind
parts_seen (Seen.Line line) = Line line.now
parts_seen (Seen.Block line block) = Block line.now block.now
parts_seen (Seen.Large line) = Large line.now
parts_seen Seen.Long = Long

-- ---- commands

-- the command of a frame
abbrev pub command_of : FrameKind → Command
command_of (Line line) = line_command line
command_of (Block line block) = block_command line block
command_of (Large line) = large_command line
command_of Long = long_command
