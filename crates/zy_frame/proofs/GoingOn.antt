-- The frames that a framer gives in each state when bytes follow, and what this means for StandsFor.
use Rattle.std.proofs.Common.{◌≡◌, ℕ, zero, suc, ◌+◌, ◌-◌, ◌<◌, ◌≤◌, true, false, List, [], ◌∷◌, ◌++◌, length, take, drop, map, refl, sym, ap, ◌∙◌, arith, append_assoc, length-append}
use Rattle.std.specs.Prelude.{Option, None, Some, nat_lt, if◌then◌else◌, Bool, is_none}
use Rattle.std.proofs.lemmas.Bool.{lt-leb, lt-ltb, le-ltb, ltb-true, ltb-false}
use Rattle.std.proofs.lemmas.List.{take-append-drop, take-append-le, drop-append-le, length-take}
use Rattle.std.proofs.Math.Seq.{take-append-add, drop-append-add}
use Rattle.mc_calls.specs.Shard.{value_limit}
use Rattle.mc_parse.specs.declared.need.Need.{Need}
use Rattle.mc_parse.specs.declared.need.Need.TheVariants as Needs
use Rattle.mc_parse.specs.Need.{need}
use Rattle.zy_frame.specs.declared.frame_kind.FrameKind.{FrameKind}
use Rattle.zy_frame.specs.declared.frame_kind.FrameKind.TheVariants as Kinds
use Rattle.mc_parse.specs.Words.{line_limit}
use Rattle.zy_frame.specs.Line.{IsShort, Ended, first_line, begun_by, chomped, line_feed}
use Rattle.zy_frame.specs.Frame.{tail_length, tail_by, IsFrameText, IsFrame, frame_of, frame_at, frame_in, frame_by}
use Rattle.zy_frame.specs.Cut.{Cut, first_piece, piece_with, piece_in, frames_of, meets_quit, quits_in}
use Rattle.zy_frame.specs.Progress.{Outcome, outcome_of, no_outcome, with_frames, ends_long, ends_frame}
use Rattle.zy_frame.proofs.LineLemmas.{begun_with, spelled, first_line-ended, first_line-append_none}
use Rattle.zy_frame.proofs.CutLemmas.{is_text, cut_of-text, cut_of-none}

-- ---- the outcome of a stream, by how it begins

outcome_in : Cut → Outcome
outcome_in cut = record { frames = map frame_of cut.pieces; quit = quits_in (first_line cut.rest) }

outcome_of-text : (text more : List ℕ) → IsFrameText text → outcome_of (text ++ more) ≡ with_frames (frame_of text ∷ []) (outcome_of more)
unfolding frames_of meets_quit outcome_in
outcome_of-text text more h = ap outcome_in (cut_of-text text more h)

outcome_of-none : (stream : List ℕ) → first_piece stream ≡ None → outcome_of stream ≡ record { frames = []; quit = quits_in (first_line stream) }
unfolding frames_of meets_quit outcome_in
outcome_of-none stream none = ap outcome_in (cut_of-none stream none)

-- a line, its line feed and its tail
outcome_of-line : (line after more : List ℕ) → first_line line ≡ None → tail_length line ≡ Some (length after)
    → outcome_of (line ++ line_feed ∷ (after ++ more)) ≡ with_frames (frame_at line after ∷ []) (outcome_of more)
outcome_of-line line after more none tail =
    let frame : frame_of (line ++ line_feed ∷ after) ≡ frame_at line after = ap frame_in (first_line-ended line after none) in
    ap outcome_of (sym (append_assoc line (line_feed ∷ after) more)) ∙ outcome_of-text (line ++ line_feed ∷ after) more (is_text line after none tail)
    ∙ ap (λ (f : FrameKind). with_frames (f ∷ []) (outcome_of more)) frame

-- a stream without a line feed
pub outcome_of-unended : (stream : List ℕ) → first_line stream ≡ None → outcome_of stream ≡ no_outcome
outcome_of-unended stream none = outcome_of-none stream (ap piece_in none) ∙ ap (λ (f : Option Ended). record { frames = []; quit = quits_in f }) none

-- ---- lines that are too long

pub long_tail : (line : List ℕ) → line_limit < length line → tail_length line ≡ Some 0
long_tail line long = rw (lt-ltb line_limit (length line) long) refl

pub long_frame : (line after : List ℕ) → line_limit < length line → frame_at line after ≡ Kinds.Long
long_frame line after long = rw (lt-ltb line_limit (length line) long) refl

-- a line that is too long has ended
pub long_ends : (line more : List ℕ) → first_line line ≡ None → line_limit < length line
    → outcome_of (line ++ line_feed ∷ more) ≡ with_frames (Kinds.Long ∷ []) (outcome_of more)
long_ends line more none long =
    outcome_of-line line [] more none (long_tail line long) ∙ ap (λ (f : FrameKind). with_frames (f ∷ []) (outcome_of more)) (long_frame line [] long)

in_long_by : (text more : List ℕ) (found : Option Ended) → first_line more ≡ found → first_line text ≡ None → line_limit < length text
    → outcome_of (text ++ more) ≡ ends_long found
in_long_by text more None is none long = outcome_of-unended (text ++ more) (first_line-append_none text more none is)
in_long_by text more (Some e) is none long =
    let s = spelled more e is in
    let longer : line_limit < length (text ++ e.line) = omega (arith, length-append text e.line) in
    ap (λ (x : List ℕ). outcome_of (text ++ x)) s.text_is ∙ ap outcome_of (sym (append_assoc text e.line (line_feed ∷ e.after)))
    ∙ long_ends (text ++ e.line) e.after (first_line-append_none text e.line none s.no_feed) longer

-- a line has grown too long without a line feed
pub in_long : (text more : List ℕ) → first_line text ≡ None → line_limit < length text → outcome_of (text ++ more) ≡ ends_long (first_line more)
in_long text more none long = in_long_by text more (first_line more) refl none long

pub ends_long-begun_with : (text : List ℕ) (found : Option Ended) → ends_long (begun_with text found) ≡ ends_long found
ends_long-begun_with text None = refl
ends_long-begun_with text (Some e) = refl

-- ---- frames that lack bytes

-- whether one part of the missing bytes, together with the other, is all of them
test_by : (test : Bool) (left : ℕ) (bytes more : List ℕ) → nat_lt (length more) left ≡ test → nat_lt (length (bytes ++ more)) (length bytes + left) ≡ test
test_by true left bytes more is =
    let few : length more < left = ltb-true (length more) left is in
    lt-ltb (length (bytes ++ more)) (length bytes + left) (omega (arith, length-append bytes more))
test_by false left bytes more is =
    let enough : left ≤ length more = ltb-false (length more) left is in
    le-ltb (length (bytes ++ more)) (length bytes + left) (omega (arith, length-append bytes more))

ends_frame-add : (left : ℕ) (kind : List ℕ → FrameKind) (bytes more : List ℕ)
    → ends_frame (length bytes + left) kind (bytes ++ more) ≡ ends_frame left (λ rest. kind (bytes ++ rest)) more
ends_frame-add left kind bytes more =
    rw (test_by (nat_lt (length more) left) left bytes more refl, take-append-add bytes more left, drop-append-add bytes more left) refl

-- fewer bytes than it lacks
pub ends_frame-part : (left : ℕ) (kind : List ℕ → FrameKind) (bytes more : List ℕ) → length bytes ≤ left
    → ends_frame left kind (bytes ++ more) ≡ ends_frame (left - length bytes) (λ rest. kind (bytes ++ rest)) more
ends_frame-part left kind bytes more few =
    let sum : left ≡ length bytes + (left - length bytes) = omega arith in
    ap (λ (n : ℕ). ends_frame n kind (bytes ++ more)) sum ∙ ends_frame-add (left - length bytes) kind bytes more

-- all that it lacks
pub ends_frame-all : (left : ℕ) (kind : List ℕ → FrameKind) (bytes more : List ℕ) → left ≤ length bytes
    → ends_frame left kind (bytes ++ more) ≡ with_frames (kind (take left bytes) ∷ []) (outcome_of (drop left bytes ++ more))
ends_frame-all left kind bytes more enough =
    let whole : left ≤ length (bytes ++ more) = omega (arith, length-append bytes more) in
    rw (le-ltb (length (bytes ++ more)) left whole, take-append-le left bytes more enough, drop-append-le left bytes more enough) refl

-- ---- lines that are looked at

looked_at : (line : List ℕ) → length line ≤ line_limit → nat_lt line_limit (length line) ≡ false
looked_at line short = le-ltb line_limit (length line) short

pub tail_is : (line : List ℕ) (what : Need) → length line ≤ line_limit → need (chomped line) ≡ what → tail_length line ≡ tail_by what
tail_is line what short is = rw (looked_at line short) (ap tail_by is)

pub frame_is : (line after : List ℕ) (what : Need) → length line ≤ line_limit → need (chomped line) ≡ what → frame_at line after ≡ frame_by what (chomped line) after
frame_is line after what short is = rw (looked_at line short) (ap (λ (n : Need). frame_by n (chomped line) after) is)

-- a line by itself
pub line_ends : (line more : List ℕ) → IsShort line → need (chomped line) ≡ Needs.Nothing
    → outcome_of (line ++ line_feed ∷ more) ≡ with_frames (Kinds.Line (chomped line) ∷ []) (outcome_of more)
line_ends line more s is =
    outcome_of-line line [] more s.no_feed (tail_is line Needs.Nothing s.short is)
    ∙ ap (λ (f : FrameKind). with_frames (f ∷ []) (outcome_of more)) (frame_is line [] Needs.Nothing s.short is)

first_piece-line : (line after : List ℕ) (tail : Option ℕ) → first_line line ≡ None → tail_length line ≡ tail
    → first_piece (line ++ line_feed ∷ after) ≡ piece_with line tail after
first_piece-line line after tail none is = rw (first_line-ended line after none) (ap (λ (t : Option ℕ). piece_with line t after) is)

quits_in-line : (line after : List ℕ) (tail : Option ℕ) → first_line line ≡ None → tail_length line ≡ tail
    → quits_in (first_line (line ++ line_feed ∷ after)) ≡ is_none tail
quits_in-line line after tail none is = rw (first_line-ended line after none) (ap is_none is)

-- a quit line
pub quit_ends : (line more : List ℕ) → IsShort line → need (chomped line) ≡ Needs.Quit → outcome_of (line ++ line_feed ∷ more) ≡ record { frames = []; quit = true }
quit_ends line more s is =
    let tail = tail_is line Needs.Quit s.short is in
    outcome_of-none (line ++ line_feed ∷ more) (first_piece-line line more None s.no_feed tail)
    ∙ ap (λ (q : Bool). record { frames = []; quit = q }) (quits_in-line line more None s.no_feed tail)

tail_short : (line after : List ℕ) (tail : ℕ) → length after < tail → piece_with line (Some tail) after ≡ None
tail_short line after tail few = rw (lt-leb tail (length after) few) refl

block_by : (test : Bool) (line more : List ℕ) (size : ℕ) → nat_lt (length more) (size + 2) ≡ test → IsShort line → need (chomped line) ≡ Needs.Block size
    → outcome_of (line ++ line_feed ∷ more) ≡ (if test then no_outcome else with_frames (frame_at line (take (size + 2) more) ∷ []) (outcome_of (drop (size + 2) more)))
block_by true line more size few s is =
    let tail = tail_is line (Needs.Block size) s.short is in
    outcome_of-none (line ++ line_feed ∷ more) (first_piece-line line more (Some (size + 2)) s.no_feed tail ∙ tail_short line more (size + 2) (ltb-true (length more) (size + 2) few))
    ∙ ap (λ (q : Bool). record { frames = []; quit = q }) (quits_in-line line more (Some (size + 2)) s.no_feed tail)
block_by false line more size enough s is =
    let has : size + 2 ≤ length more = ltb-false (length more) (size + 2) enough in
    let taken : size + 2 ≡ length (take (size + 2) more) = omega (arith, length-take (size + 2) more) in
    ap (λ (x : List ℕ). outcome_of (line ++ line_feed ∷ x)) (sym (take-append-drop (size + 2) more))
    ∙ outcome_of-line line (take (size + 2) more) (drop (size + 2) more) s.no_feed (tail_is line (Needs.Block size) s.short is ∙ ap (λ (n : ℕ). Some n) taken)

-- a storage line, before its block
pub block_begins : (line more : List ℕ) (size : ℕ) → IsShort line → need (chomped line) ≡ Needs.Block size
    → outcome_of (line ++ line_feed ∷ more) ≡ ends_frame (size + 2) (frame_at line) more
block_begins line more size s is = block_by (nat_lt (length more) (size + 2)) line more size refl s is

-- a block that is kept
pub kept_block : (line after : List ℕ) (size : ℕ) → IsShort line → need (chomped line) ≡ Needs.Block size → size ≤ value_limit → frame_at line after ≡ Kinds.Block (chomped line) after
kept_block line after size s is small = frame_is line after (Needs.Block size) s.short is ∙ rw (le-ltb value_limit size small) refl

-- a block that is not
pub large_block : (line after : List ℕ) (size : ℕ) → IsShort line → need (chomped line) ≡ Needs.Block size → value_limit < size → frame_at line after ≡ Kinds.Large (chomped line)
large_block line after size s is large = frame_is line after (Needs.Block size) s.short is ∙ rw (lt-ltb value_limit size large) refl

pub ends_frame-same : (left : ℕ) (kind other : List ℕ → FrameKind) (more : List ℕ) → ((after : List ℕ) → kind after ≡ other after) → ends_frame left kind more ≡ ends_frame left other more
ends_frame-same left kind other more same = rw (same (take left more)) refl

-- ---- frames

-- a line that takes no block
pub is_line_frame : (line : List ℕ) → IsShort line → need (chomped line) ≡ Needs.Nothing → IsFrame (Kinds.Line (chomped line))
is_line_frame line s is = record {
  text = line ++ line_feed ∷ [];
  is_text = is_text line [] s.no_feed (tail_is line Needs.Nothing s.short is);
  of_text = sym (ap frame_in (first_line-ended line [] s.no_feed) ∙ frame_is line [] Needs.Nothing s.short is);
}

-- `count` bytes, none of which is a line feed
zeros : (count : ℕ) → List ℕ
zeros zero = []
zeros (suc count) = 0 ∷ zeros count

length-zeros : (count : ℕ) → length (zeros count) ≡ count
unfolding zeros
length-zeros zero = refl
length-zeros (suc count) = ap suc (length-zeros count)

first_line-zeros : (count : ℕ) → first_line (zeros count) ≡ None
unfolding zeros
first_line-zeros zero = refl
first_line-zeros (suc count) = ap (begun_by 0) (first_line-zeros count)

long_frame_of : (count : ℕ) → line_limit < count → IsFrame Kinds.Long
long_frame_of count long =
    let line = zeros count in
    let longer : line_limit < length line = omega (arith, length-zeros count) in
    record {
      text = line ++ line_feed ∷ [];
      is_text = is_text line [] (first_line-zeros count) (long_tail line longer);
      of_text = sym (ap frame_in (first_line-ended line [] (first_line-zeros count)) ∙ long_frame line [] longer);
    }

-- a line that is too long
pub is_long_frame : IsFrame Kinds.Long
is_long_frame = long_frame_of (line_limit + 1) (omega arith)

-- a storage line with its block
pub is_block_frame : (line block : List ℕ) (size : ℕ) → IsShort line → need (chomped line) ≡ Needs.Block size → size ≤ value_limit → length block ≡ size + 2
    → IsFrame (Kinds.Block (chomped line) block)
is_block_frame line block size s is small all = record {
  text = line ++ line_feed ∷ block;
  is_text = is_text line block s.no_feed (tail_is line (Needs.Block size) s.short is ∙ ap (λ (n : ℕ). Some n) (sym all));
  of_text = sym (ap frame_in (first_line-ended line block s.no_feed) ∙ kept_block line block size s is small);
}

-- a storage line whose value is too large
pub is_large_frame : (line : List ℕ) (size : ℕ) → IsShort line → need (chomped line) ≡ Needs.Block size → value_limit < size → IsFrame (Kinds.Large (chomped line))
is_large_frame line size s is large =
    let block = zeros (size + 2) in
    record {
      text = line ++ line_feed ∷ block;
      is_text = is_text line block s.no_feed (tail_is line (Needs.Block size) s.short is ∙ ap (λ (n : ℕ). Some n) (sym (length-zeros (size + 2))));
      of_text = sym (ap frame_in (first_line-ended line block s.no_feed) ∙ large_block line block size s is large);
    }
