use Rattle.std.proofs.Common.{◌≡◌, ◌+◌, ◌≤◌, length}
use Rattle.mc_meta.specs.Words.{words_at, line_limit}
use Rattle.mc_meta.specs.Flags.{flags_after, flags_of}
use Rattle.mc_meta.specs.Room.{HasRoom}
use Rattle.mc_meta.proofs.flags.read_flags.Given as goal

-- the text that is left gets shorter
abbrev pub decreases-loop-split : goal.decreases-loop-split
decreases-loop-split l = length l.rest

-- the flags so far, and the words that are left, say what all words say
abbrev pub invariant-loop-split : goal.invariant-loop-split
invariant-loop-split l = record {
  within : l.at + length l.rest ≤ line_limit;
  room : HasRoom l.listed l.flags;
  value : flags_after l.listed l.flags (words_at l.at l.rest) ≡ flags_of l.listed (words_at l.fn.at l.text);
}
