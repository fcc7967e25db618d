-- A stream has one cut, and quit is met if its rest begins with a quit line.
use Rattle.zy_frame.proofs.CutLaws.{cut_of-front, frames_of_splits, frames_of_nil}
use Rattle.std.proofs.Common.{◌≡◌, ℕ, ◌≤◌, true, false, List, [], ◌∷◌, ◌++◌, length, refl, sym, ap, ◌∙◌, append_assoc}
use Rattle.std.specs.Prelude.{Option, None, Some, nat_lt, if◌then◌else◌, Bool, is_none, ◌↔◌}
use Rattle.std.specs.List.{AllByRecursion}
use Rattle.std.proofs.lemmas.Bool.{le-ltb, ltb-false}
use Rattle.std.proofs.lemmas.List.{append-nil}
use Rattle.mc_parse.specs.declared.need.Need.{Need}
use Rattle.mc_parse.specs.declared.need.Need.TheVariants as Needs
use Rattle.mc_parse.specs.Need.{need}
use Rattle.zy_frame.specs.declared.frame_kind.FrameKind.{FrameKind}
use Rattle.mc_parse.specs.Words.{line_limit}
use Rattle.zy_frame.specs.Line.{Ended, first_line, chomped, line_feed}
use Rattle.zy_frame.specs.Frame.{tail_length, tail_by, IsFrameText}
use Rattle.run_laws.specs.TextKinds.{IsQuitLine, BeginsWithQuit}
use Rattle.zy_frame.specs.Cut.{Cut, Splits, first_piece, piece_with, cut_of, frames_of, meets_quit, quits_in, joined}
use Rattle.zy_frame.specs.Cut.{Piece}
use Rattle.run_laws.specs.Pieces.{Fed, GivesEach, fed_bytes, fed_frames}
use Rattle.zy_frame.proofs.LineLemmas.{spelled, first_line-ended}
use Rattle.zy_frame.proofs.CutLemmas.{splits_only, splits_cut, begins_with_none, piece, first_piece-text}

-- ---- one cut

pub one_cut : (stream : List ℕ) (pieces others : List (List ℕ)) (rest left : List ℕ) → Splits stream pieces rest → Splits stream others left → (pieces ≡ others) × (rest ≡ left)
one_cut stream pieces others rest left one two =
    let same = sym (splits_only stream pieces rest one) ∙ splits_only stream others left two in
    (ap (λ (c : Cut). c.pieces) same, ap (λ (c : Cut). c.rest) same)

pub pieces_first : (stream more : List ℕ) (pieces others : List (List ℕ)) (rest left : List ℕ) → Splits stream pieces rest → Splits (stream ++ more) others left
    → (later : List (List ℕ)) × (others ≡ pieces ++ later)
pieces_first stream more pieces others rest left one two = (
  (cut_of (rest ++ more)).pieces,
  ap (λ (c : Cut). c.pieces) (sym (splits_only (stream ++ more) others left two)) ∙ cut_of-front stream more rest pieces one,
)

-- ---- pieces that were fed

given_from : (stream : List ℕ) (pieces : List Fed) → GivesEach stream pieces → frames_of (stream ++ fed_bytes pieces) ≡ frames_of stream ++ fed_frames pieces
given_from stream [] each = ap frames_of (append-nil stream) ∙ sym (append-nil (frames_of stream))
given_from stream (fed ∷ more) each =
    ap frames_of (sym (append_assoc stream fed.piece (fed_bytes more)))
    ∙ given_from (stream ++ fed.piece) more each.1
    ∙ ap (λ (frames : List FrameKind). frames ++ fed_frames more) each.0
    ∙ append_assoc (frames_of stream) fed.given (fed_frames more)

-- ---- quit lines

quit_tail : (line : List ℕ) → IsQuitLine line → tail_length line ≡ None
quit_tail line q = rw (le-ltb line_limit (length line) q.short.short) (ap tail_by q.quits)

quit_first_piece : (line after : List ℕ) → IsQuitLine line → first_piece (line ++ line_feed ∷ after) ≡ None
quit_first_piece line after q = rw (first_line-ended line after q.short.no_feed) (ap (λ (t : Option ℕ). piece_with line t after) (quit_tail line q))

pub quit_rest : (pieces : List (List ℕ)) (line after : List ℕ) → AllByRecursion IsFrameText pieces → IsQuitLine line
    → Splits (joined pieces ++ (line ++ line_feed ∷ after)) pieces (line ++ line_feed ∷ after)
quit_rest pieces line after each q = record { whole = refl; each = each; partial = begins_with_none (line ++ line_feed ∷ after) (quit_first_piece line after q) }

no_tail_by : (what : Need) (line : List ℕ) → need (chomped line) ≡ what → is_none (tail_by what) ≡ true → need (chomped line) ≡ Needs.Quit
no_tail_by Needs.Nothing line is none = cc
no_tail_by (Needs.Block size) line is none = cc
no_tail_by Needs.Quit line is none = is

no_tail : (test : Bool) (line : List ℕ) → nat_lt line_limit (length line) ≡ test → is_none (if test then Some 0 else tail_by (need (chomped line))) ≡ true
    → (length line ≤ line_limit) × (need (chomped line) ≡ Needs.Quit)
no_tail true line is none = cc
no_tail false line is none = (ltb-false line_limit (length line) is, no_tail_by (need (chomped line)) line refl none)

quits_by : (rest : List ℕ) (found : Option Ended) → first_line rest ≡ found → quits_in found ≡ true → BeginsWithQuit rest
quits_by rest None is quits = cc
quits_by rest (Some e) is quits =
    let s = spelled rest e is in
    let h = no_tail (nat_lt line_limit (length e.line)) e.line refl quits in
    record { line = e.line; after = e.after; split = s.text_is; quits = record { short = record { no_feed = s.no_feed; short = h.0 }; quits = h.1 } }

quit_begins : (rest : List ℕ) → BeginsWithQuit rest → quits_in (first_line rest) ≡ true
quit_begins rest b =
    ap (λ (x : List ℕ). quits_in (first_line x)) b.split ∙ ap quits_in (first_line-ended b.line b.after b.quits.short.no_feed) ∙ ap is_none (quit_tail b.line b.quits)

pub quit_exactly : (stream : List ℕ) (pieces : List (List ℕ)) (rest : List ℕ) → Splits stream pieces rest → (meets_quit stream ≡ true) ↔ BeginsWithQuit rest
unfolding meets_quit
quit_exactly stream pieces rest s =
    let same = ap (λ (c : Cut). quits_in (first_line c.rest)) (splits_only stream pieces rest s) in
    (λ yes. quits_by rest (first_line rest) refl (sym same ∙ yes), λ begins. same ∙ quit_begins rest begins)

-- ---- the empty stream, and what comes after quit

pub meets_quit_nil : meets_quit [] ≡ false
unfolding meets_quit cut_of
meets_quit_nil = refl

-- what all pieces of a stream give are its frames
pub given_by_all : (pieces : List Fed) → GivesEach [] pieces → fed_frames pieces ≡ frames_of (fed_bytes pieces)
given_by_all pieces each = sym (given_from [] pieces each ∙ ap (λ (frames : List FrameKind). frames ++ fed_frames pieces) frames_of_nil)

begins_longer : (rest more : List ℕ) → BeginsWithQuit rest → BeginsWithQuit (rest ++ more)
begins_longer rest more b = record {
  line = b.line;
  after = b.after ++ more;
  split = ap (λ (x : List ℕ). x ++ more) b.split ∙ append_assoc b.line (line_feed ∷ b.after) more;
  quits = b.quits;
}

splits_longer : (stream more rest : List ℕ) (pieces : List (List ℕ)) → Splits stream pieces rest → BeginsWithQuit (rest ++ more) → Splits (stream ++ more) pieces (rest ++ more)
splits_longer stream more rest pieces s b = record {
  whole = ap (λ (x : List ℕ). x ++ more) s.whole ∙ append_assoc (joined pieces) rest more;
  each = s.each;
  partial = begins_with_none (rest ++ more) (ap first_piece b.split ∙ quit_first_piece b.line b.after b.quits);
}

after_quit_by : (stream more rest : List ℕ) (pieces : List (List ℕ)) → Splits stream pieces rest → BeginsWithQuit rest
    → (frames_of (stream ++ more) ≡ frames_of stream) × (meets_quit (stream ++ more) ≡ true)
after_quit_by stream more rest pieces s b =
    let longer = begins_longer rest more b in
    let t = splits_longer stream more rest pieces s longer in (
      frames_of_splits (stream ++ more) pieces (rest ++ more) t ∙ sym (frames_of_splits stream pieces rest s),
      (quit_exactly (stream ++ more) pieces (rest ++ more) t).1 longer,
    )

pub after_quit : (stream more : List ℕ) → meets_quit stream ≡ true → (frames_of (stream ++ more) ≡ frames_of stream) × (meets_quit (stream ++ more) ≡ true)
after_quit stream more is =
    let s = splits_cut stream in
    after_quit_by stream more (cut_of stream).rest (cut_of stream).pieces s ((quit_exactly stream (cut_of stream).pieces (cut_of stream).rest s).0 is)

-- ---- the first piece

-- no frame text is a proper prefix of another
pub no_proper_prefix : (text more : List ℕ) → IsFrameText text → IsFrameText (text ++ more) → more ≡ []
no_proper_prefix text more one other =
    let a : first_piece (text ++ more) ≡ Some (piece text more) = first_piece-text text more one in
    let b : first_piece ((text ++ more) ++ []) ≡ Some (piece (text ++ more) []) = first_piece-text (text ++ more) [] other in
    let c = rw (append-nil (text ++ more)) at b in
    let same : piece text more ≡ piece (text ++ more) [] = cc in
    ap (λ (p : Piece). p.rest) same
