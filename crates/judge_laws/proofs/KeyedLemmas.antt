-- The call of a storage command that a line says has a key.
use Rattle.std.specs.Prelude.{if◌then◌else◌, All}
use Rattle.std.proofs.Common.{ℕ, Bool, true, false, List, [], ◌∷◌, map, refl}
use Rattle.std.proofs.lemmas.List.Elements.{All-nil, All-cons}
use Rattle.mc_parse.specs.declared.command.Command.TheVariants.{Fault}
use Rattle.mc_parse.specs.declared.error_line.ErrorLine.TheVariants.{BadChunk}
use Rattle.mc_parse.specs.Form.{Ask, metas, Form, faulty, asks, line_form, alone_meta, value_meta, alone_command, value_command}
use Rattle.mc_parse.specs.MetaAsk.{MetaAsk, noops, meta_gets, meta_stores, meta_exchanges, meta_deletes}
use Rattle.mc_parse.specs.Meaning.{value_of, is_ended, command_for, block_command_for, large_command_for, line_command, block_command, large_command}
use Rattle.mc_parse.proofs.DeedLemmas.{stored_key}
use Rattle.zy_frame.specs.declared.frame_kind.FrameKind.{FrameKind}
use Rattle.zy_frame.specs.declared.frame_kind.FrameKind.TheVariants.{Line, Block, Large, Long}
use Rattle.zy_frame.specs.Frame.{command_of}
use Rattle.zy_frame.specs.Cut.{commands_of, frames_of}
use Rattle.judge_laws.proofs.SaidLemmas.{IsKeyed}

alone_meta_keyed : (ask : MetaAsk) → IsKeyed (alone_meta ask)
alone_meta_keyed noops = tt
alone_meta_keyed (meta_gets key flags) = tt
alone_meta_keyed (meta_stores verb key flags bytes marks) = tt
alone_meta_keyed (meta_exchanges key flags bytes unique marks) = tt
alone_meta_keyed (meta_deletes key flags) = tt

value_meta_keyed : (ask : MetaAsk) (value : List ℕ) → IsKeyed (value_meta ask value)
value_meta_keyed noops value = tt
value_meta_keyed (meta_gets key flags) value = tt
value_meta_keyed (meta_stores verb key flags bytes marks) value = (key, stored_key verb key flags value)
value_meta_keyed (meta_exchanges key flags bytes unique marks) value = (key, refl)
value_meta_keyed (meta_deletes key flags) value = tt

alone_keyed : (ask : Ask) (quiet : Bool) → IsKeyed (alone_command ask quiet)
alone_keyed (metas ask) quiet = alone_meta_keyed ask
alone_keyed ask quiet = tt

value_keyed : (ask : Ask) (quiet : Bool) (value : List ℕ) → IsKeyed (value_command ask quiet value)
value_keyed (metas ask) quiet value = value_meta_keyed ask value
value_keyed ask quiet value = tt

line_keyed : (form : Form) → IsKeyed (command_for form)
line_keyed (faulty line) = tt
line_keyed (asks ask quiet) = alone_keyed ask quiet

block_keyed : (block : List ℕ) (form : Form) → IsKeyed (block_command_for block form)
block_keyed block (faulty line) = tt
block_keyed block (asks ask quiet) = go (is_ended block)
  where
    go : (ended : Bool) → IsKeyed (if ended then value_command ask quiet (value_of block) else Fault BadChunk quiet)
    go true = value_keyed ask quiet (value_of block)
    go false = tt

large_keyed : (form : Form) → IsKeyed (large_command_for form)
large_keyed (faulty line) = tt
large_keyed (asks ask quiet) = tt

frame_keyed : (frame : FrameKind) → IsKeyed (command_of frame)
unfolding line_command block_command large_command
frame_keyed (Line line) = line_keyed (line_form line)
frame_keyed (Block line block) = block_keyed block (line_form line)
frame_keyed (Large line) = large_keyed (line_form line)
frame_keyed Long = tt

frames_keyed : (frames : List FrameKind) → All IsKeyed (map command_of frames)
frames_keyed [] = All-nil IsKeyed
frames_keyed (frame ∷ frames) = All-cons IsKeyed (command_of frame) (map command_of frames) (frame_keyed frame) (frames_keyed frames)

-- the commands of a stream
pub commands_keyed : (stream : List ℕ) → All IsKeyed (commands_of stream)
commands_keyed stream = frames_keyed (frames_of stream)
