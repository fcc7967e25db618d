-- What each step of a framer gives, over the values that it leads from and to.
use Rattle.std.proofs.Common.{◌≡◌, ◌≢◌, ℕ, ◌+◌, ◌-◌, ◌<◌, ◌≤◌, true, false, List, [], ◌∷◌, ◌++◌, length, take, drop, refl, sym, ap, ◌∙◌, arith, append_assoc, append-nil, length-append, ne_eqb}
use Rattle.std.specs.Prelude.{Option, None, Some, nat_lt, if◌then◌else◌, Bool}
use Rattle.std.proofs.lemmas.Bool.{ltb-true, ltb-false}
use Rattle.std.proofs.lemmas.List.{length-take, length-drop, drop-drop}
use Rattle.std.proofs.Math.Seq.{drop-length}
use Rattle.mc_calls.specs.Shard.{value_limit}
use Rattle.mc_parse.specs.declared.need.Need.{Need}
use Rattle.mc_parse.specs.declared.need.Need.TheVariants as Needs
use Rattle.mc_parse.specs.Need.{need}
use Rattle.zy_frame.specs.declared.frame_kind.FrameKind.{FrameKind}
use Rattle.zy_frame.specs.declared.frame_kind.FrameKind.TheVariants as Kinds
use Rattle.zy_frame.specs.declared.wanted.Wanted.{Wanted}
use Rattle.zy_frame.specs.declared.state.State.{State}
use Rattle.zy_frame.specs.declared.state.State.TheVariants.{Line, Long, Block, Large, Quit}
use Rattle.mc_parse.specs.Words.{line_limit}
use Rattle.zy_frame.specs.Line.{IsShort, first_line, chomped, line_feed}
use Rattle.zy_frame.specs.Frame.{frame_at}
use Rattle.zy_frame.specs.Progress.{IsAwaited, IsKeptBlock, IsLargeBlock, outcome_of, with_frames, ends_long, ends_frame, goes_on}
use Rattle.zy_frame.specs.Steps.{awaited, after_line, after_block, Goes, Moves, Closes, ClosesTo, LineAt, waiting}
use Rattle.zy_frame.proofs.LineLemmas.{ended, spelled, first_line-append, first_line-append_none, first_line-ended}
use Rattle.zy_frame.proofs.GoingOn.{in_long, long_ends, ends_long-begun_with, ends_frame-part, ends_frame-all, line_ends, quit_ends, block_begins, kept_block, large_block, ends_frame-same}

all_taken : (bytes more : List ℕ) → more ≡ drop (length bytes) bytes ++ more
all_taken bytes more = rw (drop-length bytes) refl

-- the empty line
pub is_short-nil : IsShort []
is_short-nil = record { no_feed = refl; short = omega arith }

-- ---- in a line

-- the line goes on
pub line_grows : (kept bytes : List ℕ) → IsShort kept → 0 < length bytes → first_line bytes ≡ None → length kept + length bytes ≤ line_limit
    → Goes (Line kept) bytes (Line (kept ++ bytes)) (length bytes) None
unfolding goes_on
line_grows kept bytes s some none fits = record {
  keeps = record { no_feed = first_line-append_none kept bytes s.no_feed none; short = omega (arith, length-append kept bytes) };
  some = some;
  within = omega arith;
  on = λ more. ap outcome_of (sym (append_assoc kept bytes more)) ∙ ap (λ (x : List ℕ). outcome_of ((kept ++ bytes) ++ x)) (all_taken bytes more);
}

-- it becomes too long
pub line_too_long : (kept bytes : List ℕ) → IsShort kept → 0 < length bytes → first_line bytes ≡ None → line_limit < length kept + length bytes
    → Goes (Line kept) bytes Long (length bytes) None
unfolding goes_on
line_too_long kept bytes s some none long =
    let longer : line_limit < length (kept ++ bytes) = omega (arith, length-append kept bytes) in
    record {
      keeps = tt;
      some = some;
      within = omega arith;
      on = λ more. ap outcome_of (sym (append_assoc kept bytes more)) ∙ in_long (kept ++ bytes) more (first_line-append_none kept bytes s.no_feed none) longer
          ∙ ap (λ (x : List ℕ). ends_long (first_line x)) (all_taken bytes more);
    }

pub front_no_feed : (bytes : List ℕ) (at : ℕ) → LineAt bytes at → first_line (take at bytes) ≡ None
front_no_feed bytes at h = (spelled bytes (ended (take at bytes) (drop (at + 1) bytes)) h.ends).no_feed

split_at : (kept bytes more : List ℕ) (at : ℕ) → LineAt bytes at → kept ++ (bytes ++ more) ≡ (kept ++ take at bytes) ++ line_feed ∷ (drop (at + 1) bytes ++ more)
split_at kept bytes more at h =
    let front = take at bytes in
    let back = drop (at + 1) bytes in
    let text = (spelled bytes (ended front back) h.ends).text_is in
    ap (λ (x : List ℕ). kept ++ (x ++ more)) text ∙ ap (λ (x : List ℕ). kept ++ x) (append_assoc front (line_feed ∷ back) more)
    ∙ sym (append_assoc kept front (line_feed ∷ (back ++ more)))

-- it ends, and its line feed comes
line_closes : (kept bytes : List ℕ) (at : ℕ) (state : State) (frame : Option FrameKind) → LineAt bytes at → Closes (kept ++ take at bytes) state frame
    → Goes (Line kept) bytes state (at + 1) frame
unfolding goes_on
line_closes kept bytes at state frame h closes =
    let within = h.within in
    record {
      keeps = closes.keeps;
      some = omega arith;
      within = omega arith;
      on = λ more. ap outcome_of (split_at kept bytes more at h) ∙ closes.on (drop (at + 1) bytes ++ more);
    }

pub line_moves : (kept bytes : List ℕ) (at : ℕ) (state : State) (before after : List FrameKind) → LineAt bytes at → ClosesTo (kept ++ take at bytes) state before after
    → Moves (Line kept) state before after bytes (at + 1)
line_moves kept bytes at state before after h closes = record {
  frame = closes.frame;
  goes = line_closes kept bytes at state closes.frame h closes.closes;
  appended = closes.appended;
}

-- all bytes of a line that is not too long
pub line_whole : (kept bytes : List ℕ) → IsShort kept → first_line bytes ≡ None → length kept + length bytes ≤ line_limit → IsShort (kept ++ bytes)
line_whole kept bytes s none fits = record {
  no_feed = first_line-append_none kept bytes s.no_feed none;
  short = omega (arith, length-append kept bytes);
}

-- ---- at the end of a line

-- a line that is too long
closes_long : (kept bytes : List ℕ) → IsShort kept → first_line bytes ≡ None → line_limit < length kept + length bytes → Closes (kept ++ bytes) (Line []) (Some Kinds.Long)
unfolding goes_on
closes_long kept bytes s none long =
    let longer : line_limit < length (kept ++ bytes) = omega (arith, length-append kept bytes) in
    record { keeps = is_short-nil; on = λ more. long_ends (kept ++ bytes) more (first_line-append_none kept bytes s.no_feed none) longer }

-- a line by itself
closes_alone : (line : List ℕ) → IsShort line → need (chomped line) ≡ Needs.Nothing → Closes line (Line []) (Some (Kinds.Line (chomped line)))
unfolding goes_on
closes_alone line s is = record { keeps = is_short-nil; on = λ more. line_ends line more s is }

-- the same, and its frame was appended
pub line_frame : (line given rest : List ℕ) (before after : List FrameKind) → IsShort line → need (chomped line) ≡ Needs.Nothing → given ≡ chomped line → rest ≡ [] → after ≡ before ++ Kinds.Line given ∷ []
    → ClosesTo line (Line rest) before after
line_frame line given rest before after s is chomps none appended = rw none (record {
  frame = Some (Kinds.Line (chomped line));
  closes = closes_alone line s is;
  appended = appended ∙ ap (λ (l : List ℕ). before ++ Kinds.Line l ∷ []) chomps;
})

pub long_frame : (kept bytes rest : List ℕ) (before after : List FrameKind) → IsShort kept → first_line bytes ≡ None → line_limit < length kept + length bytes → rest ≡ [] → after ≡ before ++ Kinds.Long ∷ []
    → ClosesTo (kept ++ bytes) (Line rest) before after
long_frame kept bytes rest before after s none long empty appended = rw empty (record {
  frame = Some Kinds.Long;
  closes = closes_long kept bytes s none long;
  appended = appended;
})

-- a quit line
closes_quit : (line : List ℕ) → IsShort line → need (chomped line) ≡ Needs.Quit → Closes line Quit None
unfolding goes_on
closes_quit line s is = record { keeps = tt; on = λ more. quit_ends line more s is }

waiting_by : (test : Bool) (line : List ℕ) (size : ℕ) → nat_lt value_limit size ≡ test → IsShort line → need (chomped line) ≡ Needs.Block size
    → let wanted : Wanted = record { line = line; size = size; left = size + 2 } in Closes line (if test then Large wanted else Block wanted []) None
unfolding goes_on
waiting_by true line size test s is =
    let large : value_limit < size = ltb-true value_limit size test in
    record {
      keeps = record { awaits = record { short = s; sized = is; some = omega arith }; large = large };
      on = λ more. block_begins line more size s is
          ∙ ends_frame-same (size + 2) (frame_at line) (λ rest. Kinds.Large (chomped line)) more (λ after. large_block line after size s is large);
    }
waiting_by false line size test s is =
    let small : size ≤ value_limit = ltb-false value_limit size test in
    record {
      keeps = record { awaits = record { short = s; sized = is; some = omega arith }; small = small; all = omega arith };
      on = λ more. block_begins line more size s is
          ∙ ends_frame-same (size + 2) (frame_at line) (λ rest. Kinds.Block (chomped line) rest) more (λ after. kept_block line after size s is small);
    }

-- a storage line
closes_storage : (line : List ℕ) (size : ℕ) → IsShort line → need (chomped line) ≡ Needs.Block size → Closes line (waiting line size) None
closes_storage line size s is = waiting_by (nat_lt value_limit size) line size refl s is

-- a line that is no frame by itself
pub closes_other : (line : List ℕ) (what : Need) (frames : List FrameKind) → IsShort line → need (chomped line) ≡ what → what ≢ Needs.Nothing → ClosesTo line (after_line what (Line line)) frames frames
closes_other line Needs.Nothing frames s is other = absurd (other refl)
closes_other line Needs.Quit frames s is other = record { frame = None; closes = closes_quit line s is; appended = sym (append-nil frames) }
closes_other line (Needs.Block size) frames s is other = record { frame = None; closes = closes_storage line size s is; appended = sym (append-nil frames) }

-- ---- in a line that is too long

long_grows : (bytes : List ℕ) → 0 < length bytes → first_line bytes ≡ None → Goes Long bytes Long (length bytes) None
unfolding goes_on
long_grows bytes some none = record {
  keeps = tt;
  some = some;
  within = omega arith;
  on = λ more. ap ends_long (first_line-append bytes more none) ∙ ends_long-begun_with bytes (first_line more) ∙ ap (λ (x : List ℕ). ends_long (first_line x)) (all_taken bytes more);
}

long_over : (bytes : List ℕ) (at : ℕ) → LineAt bytes at → Goes Long bytes (Line []) (at + 1) (Some Kinds.Long)
unfolding goes_on
long_over bytes at h =
    let within = h.within in
    record {
      keeps = is_short-nil;
      some = omega arith;
      within = omega arith;
      on = λ more. ap (λ (x : List ℕ). ends_long (first_line x)) (split_at [] bytes more at h)
          ∙ ap ends_long (first_line-ended (take at bytes) (drop (at + 1) bytes ++ more) (front_no_feed bytes at h));
    }

pub long_goes_on : (bytes : List ℕ) (frames : List FrameKind) → 0 < length bytes → first_line bytes ≡ None → Moves Long Long frames frames bytes (length bytes)
long_goes_on bytes frames some none = record { frame = None; goes = long_grows bytes some none; appended = sym (append-nil frames) }

pub long_ends_at : (bytes : List ℕ) (at : ℕ) (before after : List FrameKind) → LineAt bytes at → after ≡ before ++ Kinds.Long ∷ [] → Moves Long (Line []) before after bytes (at + 1)
long_ends_at bytes at before after h appended = record { frame = Some Kinds.Long; goes = long_over bytes at h; appended = appended }

-- ---- in a block

abbrev pub wanted : List ℕ → ℕ → ℕ → Wanted
wanted line size left = record { line = line; size = size; left = left }

fewer : (line : List ℕ) (size left came : ℕ) → came < left → IsAwaited (awaited (wanted line size left)) → IsAwaited (awaited (wanted line size (left - came)))
fewer line size left came few w = record { short = w.short; sized = w.sized; some = omega arith }

block_grows : (line block bytes : List ℕ) (size left : ℕ) → IsKeptBlock (awaited (wanted line size left)) block → 0 < length bytes → length bytes < left
    → Goes (Block (wanted line size left) block) bytes (Block (wanted line size (left - length bytes)) (block ++ bytes)) (length bytes) None
unfolding goes_on
block_grows line block bytes size left keeps some few = record {
  keeps = record { awaits = fewer line size left (length bytes) few keeps.awaits; small = keeps.small; all = omega (arith, length-append block bytes, keeps.all) };
  some = some;
  within = omega arith;
  on = λ more. ends_frame-part left (λ rest. Kinds.Block (chomped line) (block ++ rest)) bytes more (omega arith)
      ∙ ends_frame-same (left - length bytes) (λ rest. Kinds.Block (chomped line) (block ++ (bytes ++ rest))) (λ rest. Kinds.Block (chomped line) ((block ++ bytes) ++ rest)) more
      (λ after. ap (Kinds.Block (chomped line)) (sym (append_assoc block bytes after)))
      ∙ ap (ends_frame (left - length bytes) (λ rest. Kinds.Block (chomped line) ((block ++ bytes) ++ rest))) (all_taken bytes more);
}

-- the block goes on
pub block_moves : (line block bytes : List ℕ) (size left : ℕ) (frames : List FrameKind) → IsKeptBlock (awaited (wanted line size left)) block → 0 < length bytes → length bytes < left
    → Moves (Block (wanted line size left) block) (after_block (Block (wanted line size (left - length bytes)) (block ++ bytes))) frames frames bytes (length bytes)
block_moves line block bytes size left frames keeps some few = record {
  frame = None;
  goes = rw (ne_eqb (left - length bytes) 0 (λ none. absurd (omega arith))) (block_grows line block bytes size left keeps some few);
  appended = sym (append-nil frames);
}

block_over : (line block bytes : List ℕ) (size left : ℕ) → IsKeptBlock (awaited (wanted line size left)) block → left ≤ length bytes
    → Goes (Block (wanted line size left) block) bytes (Line []) left (Some (Kinds.Block (chomped line) (block ++ take left bytes)))
unfolding goes_on
block_over line block bytes size left keeps all = record {
  keeps = is_short-nil;
  some = keeps.awaits.some;
  within = all;
  on = λ more. ends_frame-all left (λ rest. Kinds.Block (chomped line) (block ++ rest)) bytes more all;
}

-- its frame was appended
pub block_ends : (line block bytes given whole : List ℕ) (size left : ℕ) (before after : List FrameKind) → IsKeptBlock (awaited (wanted line size left)) block → left ≤ length bytes → given ≡ chomped line → whole ≡ block ++ take left bytes
    → after ≡ before ++ Kinds.Block given whole ∷ [] → Moves (Block (wanted line size left) block) (Line []) before after bytes left
block_ends line block bytes given whole size left before after keeps all chomps is appended = record {
  frame = Some (Kinds.Block (chomped line) (block ++ take left bytes));
  goes = block_over line block bytes size left keeps all;
  appended = appended ∙ ap (λ (l : List ℕ). before ++ Kinds.Block l whole ∷ []) chomps ∙ ap (λ (l : List ℕ). before ++ Kinds.Block (chomped line) l ∷ []) is;
}

pub block_length : (line block bytes : List ℕ) (size left : ℕ) → IsKeptBlock (awaited (wanted line size left)) block → left ≤ length bytes → length (block ++ take left bytes) ≡ size + 2
block_length line block bytes size left keeps all = omega (arith, length-append block (take left bytes), length-take left bytes, keeps.all)

-- ---- whole requests

-- the bytes of the line are not too long
pub line_short : (bytes : List ℕ) (at : ℕ) → LineAt bytes at → at ≤ line_limit → IsShort (take at bytes)
line_short bytes at h short = record { no_feed = front_no_feed bytes at h; short = omega (arith, length-take at bytes) }

whole_goes : (bytes : List ℕ) (at size : ℕ) → LineAt bytes at → IsShort (take at bytes) → need (chomped (take at bytes)) ≡ Needs.Block size → size ≤ value_limit → size + 2 ≤ length (drop (at + 1) bytes)
    → Goes (Line []) bytes (Line []) (at + 1 + (size + 2)) (Some (Kinds.Block (chomped (take at bytes)) (take (size + 2) (drop (at + 1) bytes))))
unfolding goes_on
whole_goes bytes at size h s sized small whole =
    let line = take at bytes in
    let rest = drop (at + 1) bytes in
    let within = h.within in
    record {
      keeps = is_short-nil;
      some = omega arith;
      within = omega (arith, length-drop (at + 1) bytes);
      on = λ more. ap outcome_of (split_at [] bytes more at h) ∙ block_begins line (rest ++ more) size s sized ∙ ends_frame-all (size + 2) (frame_at line) rest more whole
          ∙ ap (λ (f : FrameKind). with_frames (f ∷ []) (outcome_of (drop (size + 2) rest ++ more))) (kept_block line (take (size + 2) rest) size s sized small)
          ∙ ap (λ (x : List ℕ). with_frames (Kinds.Block (chomped line) (take (size + 2) rest) ∷ []) (outcome_of (x ++ more))) (drop-drop (size + 2) (at + 1) bytes);
    }

-- a storage line and its block, whose frame was appended
pub whole_moves : (bytes given block : List ℕ) (at size : ℕ) (before after : List FrameKind) → LineAt bytes at → IsShort (take at bytes) → need (chomped (take at bytes)) ≡ Needs.Block size → size ≤ value_limit
    → size + 2 ≤ length (drop (at + 1) bytes) → given ≡ chomped (take at bytes) → block ≡ take (size + 2) (drop (at + 1) bytes) → after ≡ before ++ Kinds.Block given block ∷ []
    → Moves (Line []) (Line []) before after bytes (at + 1 + (size + 2))
whole_moves bytes given block at size before after h s sized small whole line is appended = record {
  frame = Some (Kinds.Block (chomped (take at bytes)) (take (size + 2) (drop (at + 1) bytes)));
  goes = whole_goes bytes at size h s sized small whole;
  appended = appended ∙ ap (λ (l : List ℕ). before ++ Kinds.Block l block ∷ []) line ∙ ap (λ (l : List ℕ). before ++ Kinds.Block (chomped (take at bytes)) l ∷ []) is;
}

-- ---- in a block that is too large

large_grows : (line bytes : List ℕ) (size left : ℕ) → IsLargeBlock (awaited (wanted line size left)) → 0 < length bytes → length bytes < left
    → Goes (Large (wanted line size left)) bytes (Large (wanted line size (left - length bytes))) (length bytes) None
unfolding goes_on
large_grows line bytes size left keeps some few = record {
  keeps = record { awaits = fewer line size left (length bytes) few keeps.awaits; large = keeps.large };
  some = some;
  within = omega arith;
  on = λ more. ends_frame-part left (λ rest. Kinds.Large (chomped line)) bytes more (omega arith)
      ∙ ap (ends_frame (left - length bytes) (λ rest. Kinds.Large (chomped line))) (all_taken bytes more);
}

-- the block goes on
pub large_moves : (line bytes : List ℕ) (size left : ℕ) (frames : List FrameKind) → IsLargeBlock (awaited (wanted line size left)) → 0 < length bytes → length bytes < left
    → Moves (Large (wanted line size left)) (after_block (Large (wanted line size (left - length bytes)))) frames frames bytes (length bytes)
large_moves line bytes size left frames keeps some few = record {
  frame = None;
  goes = rw (ne_eqb (left - length bytes) 0 (λ none. absurd (omega arith))) (large_grows line bytes size left keeps some few);
  appended = sym (append-nil frames);
}

large_over : (line bytes : List ℕ) (size left : ℕ) → IsLargeBlock (awaited (wanted line size left)) → left ≤ length bytes
    → Goes (Large (wanted line size left)) bytes (Line []) left (Some (Kinds.Large (chomped line)))
unfolding goes_on
large_over line bytes size left keeps all = record {
  keeps = is_short-nil;
  some = keeps.awaits.some;
  within = all;
  on = λ more. ends_frame-all left (λ rest. Kinds.Large (chomped line)) bytes more all;
}

-- its frame was appended
pub large_ends : (line bytes given : List ℕ) (size left : ℕ) (before after : List FrameKind) → IsLargeBlock (awaited (wanted line size left)) → left ≤ length bytes → given ≡ chomped line
    → after ≡ before ++ Kinds.Large given ∷ [] → Moves (Large (wanted line size left)) (Line []) before after bytes left
large_ends line bytes given size left before after keeps all chomps appended = record {
  frame = Some (Kinds.Large (chomped line));
  goes = large_over line bytes size left keeps all;
  appended = appended ∙ ap (λ (l : List ℕ). before ++ Kinds.Large l ∷ []) chomps;
}

-- ---- after a quit line

quit_stays : (bytes : List ℕ) → 0 < length bytes → Goes Quit bytes Quit (length bytes) None
unfolding goes_on
quit_stays bytes some = record { keeps = tt; some = some; within = omega arith; on = λ more. refl }

pub quit_goes_on : (bytes : List ℕ) (frames : List FrameKind) → 0 < length bytes → Moves Quit Quit frames frames bytes (length bytes)
quit_goes_on bytes frames some = record { frame = None; goes = quit_stays bytes some; appended = sym (append-nil frames) }
