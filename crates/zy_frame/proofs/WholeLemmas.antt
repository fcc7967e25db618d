-- The line and the block of a request that came whole.
use Rattle.std.proofs.Common.{◌≡◌, ℕ, ◌+◌, ◌-◌, ◌≤◌, true, false, List, [], length, take, drop, sym, ap, ◌∙◌, arith}
use Rattle.std.specs.Prelude.{nat_lt, if◌then◌else◌, Bool}
use Rattle.std.proofs.lemmas.List.{length-take, length-drop, take_all, take-take, drop-take}
use Rattle.mc_calls.specs.Shard.{value_limit}
use Rattle.mc_parse.specs.declared.need.Need.{Need}
use Rattle.mc_parse.specs.declared.need.Need.TheVariants as Needs
use Rattle.mc_parse.specs.declared.parsed.Parsed.{Parsed}
use Rattle.mc_parse.specs.Parsed.{IsParsed}
use Rattle.mc_parse.specs.Need.{need}
use Rattle.zy_frame.specs.declared.frame_kind.FrameKind.TheVariants as Kinds
use Rattle.zy_frame.specs.declared.state.State.TheVariants.{Line, Block, Large}
use Rattle.zy_frame.specs.Line.{IsShort, chomped}
use Rattle.zy_frame.specs.Frame.{IsFrame}
use Rattle.zy_frame.specs.Steps.{after_line, IsParsedFor}
use Rattle.zy_frame.proofs.LineEnds.{chomped-take, length-chomped, length-chomped_gap}
use Rattle.zy_frame.proofs.GoingOn.{is_block_frame}
use Rattle.zy_frame.proofs.StepLemmas.{wanted}

-- the line is as long as it, without its carriage return
pub line_within : (bytes : List ℕ) (at : ℕ) → length (chomped (take at bytes)) ≤ at
line_within bytes at = omega (arith, length-chomped (take at bytes), length-take at bytes)

-- and at most one byte shorter
pub line_near : (bytes : List ℕ) (at : ℕ) → at ≤ length bytes → at ≤ length (chomped (take at bytes)) + 1
line_near bytes at within = omega (arith, length-chomped_gap (take at bytes), length-take at bytes)

-- the line comes first
pub line_first : (bytes : List ℕ) (at : ℕ) → take (length (chomped (take at bytes))) bytes ≡ chomped (take at bytes)
line_first bytes at = sym (take-take (length (chomped (take at bytes))) at bytes (line_within bytes at)) ∙ chomped-take (take at bytes)

-- also among the first bytes
pub line_in : (bytes : List ℕ) (at count : ℕ) → at ≤ count → take (length (chomped (take at bytes))) (take count bytes) ≡ chomped (take at bytes)
line_in bytes at count within = take-take (length (chomped (take at bytes))) count bytes (omega (arith, line_within bytes at)) ∙ line_first bytes at

-- the block comes after the line feed
pub block_last : (bytes : List ℕ) (line at more : ℕ) → line ≤ at + 1 → drop (line + (at + 1 - line)) (take (at + 1 + more) bytes) ≡ take more (drop (at + 1) bytes)
block_last bytes line at more within =
    let place : line + (at + 1 - line) ≡ at + 1 = omega arith in
    ap (λ (n : ℕ). drop n (take (at + 1 + more) bytes)) place ∙ drop-take (at + 1) more bytes

-- the line of a piece that is one request
pub single_line : (piece seen chomp : List ℕ) (at : ℕ) → seen ≡ piece → chomp ≡ chomped (take at seen) → chomp ≡ chomped (take at piece)
single_line piece seen chomp at same is = is ∙ ap (λ (l : List ℕ). chomped (take at l)) same

-- it comes first
pub single_first : (piece chomp : List ℕ) (at : ℕ) → chomp ≡ chomped (take at piece) → take (length chomp) piece ≡ chomped (take at piece)
single_first piece chomp at line = ap (λ (l : List ℕ). take (length l) piece) line ∙ line_first piece at

-- its block is the rest
pub single_rest : (piece chomp : List ℕ) (at size : ℕ) → chomp ≡ chomped (take at piece) → at + 1 + (size + 2) ≡ length piece → drop (length chomp + (at + 1 - length chomp)) piece ≡ take (size + 2) (drop (at + 1) piece)
single_rest piece chomp at size line all =
    let place : length chomp + (at + 1 - length chomp) ≡ at + 1 = omega (arith, ap length line, line_within piece at) in
    ap (λ (n : ℕ). drop n piece) place ∙ sym (take_all (size + 2) (drop (at + 1) piece) (omega (arith, length-drop (at + 1) piece)))

-- line and block make a frame
pub is_whole_frame : (bytes : List ℕ) (at size : ℕ) → IsShort (take at bytes) → need (chomped (take at bytes)) ≡ Needs.Block size → size ≤ value_limit → size + 2 ≤ length (drop (at + 1) bytes)
    → IsFrame (Kinds.Block (chomped (take at bytes)) (take (size + 2) (drop (at + 1) bytes)))
is_whole_frame bytes at size s sized small whole =
    is_block_frame (take at bytes) (take (size + 2) (drop (at + 1) bytes)) size s sized small (omega (arith, length-take (size + 2) (drop (at + 1) bytes)))

-- what was read of a line that is kept goes with the block that it needs
pub parsed_for : (what : Need) (line : List ℕ) (parsed : Parsed) → IsParsed (chomped line) parsed → IsParsedFor (after_line what (Line line)) parsed
parsed_for Needs.Nothing line parsed is = tt
parsed_for (Needs.Block size) line parsed is = go (nat_lt value_limit size)
  where
    go : (b : Bool) → IsParsedFor (if b then Large (wanted line size (size + 2)) else Block (wanted line size (size + 2)) []) parsed
    go true = tt
    go false = is
parsed_for Needs.Quit line parsed is = tt
