-- A stream has exactly one cut, which `cut_of` computes.
use Rattle.std.proofs.Common.{◌≡◌, ℕ, zero, suc, ◌<◌, ◌≤◌, true, false, List, [], ◌∷◌, ◌++◌, length, take, drop, refl}
use Rattle.std.proofs.Common.{sym, ap, ◌∙◌, subst, arith, append_assoc, length-append}
use Rattle.std.specs.Prelude.{Option, None, Some, MatchOption, nat_le, if◌then◌else◌, Bool}
use Rattle.std.specs.List.{AllByRecursion}
use Rattle.std.proofs.lemmas.Bool.{le-leb, leb-true}
use Rattle.std.proofs.lemmas.List.{append-nil, length-take, length-drop, take-append-drop}
use Rattle.std.proofs.Math.Seq.{take-append_seam, drop-append_seam}
use Rattle.zy_frame.specs.Line.{Ended, first_line, line_feed}
use Rattle.zy_frame.specs.Frame.{tail_length, IsFrameText}
use Rattle.zy_frame.specs.Cut.{Piece, Cut, Splits, first_piece, piece_in, piece_with, cut_of, cut_within, cut_after}
use Rattle.zy_frame.specs.Cut.{joined}
use Rattle.zy_frame.proofs.LineLemmas.{spelled, first_line-ended}

abbrev pub piece : List ℕ → List ℕ → Piece
piece text rest = record { text = text; rest = rest }

-- ---- frame texts

-- a frame text: a line without a line feed, its line feed, and the bytes of its tail
pub record TextOf (text line after : List ℕ) : Type 0 where
  pub text_is : text ≡ line ++ line_feed ∷ after
  pub no_feed : first_line line ≡ None
  pub tail : tail_length line ≡ Some (length after)

-- what a text that is one is made of
pub record Text (text : List ℕ) : Type 0 where
  pub line : List ℕ
  pub after : List ℕ
  pub parts : TextOf text line after

text_by : (text : List ℕ) (found : Option Ended) → first_line text ≡ found → MatchOption found ⊥ (λ e. tail_length e.line ≡ Some (length e.after)) → Text text
text_by text None is h = absurd h
text_by text (Some e) is h =
    let s = spelled text e is in
    record { line = e.line; after = e.after; parts = record { text_is = s.text_is; no_feed = s.no_feed; tail = h } }

pub text_of : (text : List ℕ) → IsFrameText text → Text text
text_of text h = text_by text (first_line text) refl h

pub is_text : (line after : List ℕ) → first_line line ≡ None → tail_length line ≡ Some (length after) → IsFrameText (line ++ line_feed ∷ after)
is_text line after none tail = rw (first_line-ended line after none) tail

-- ---- the first piece

-- what has come is enough
whole_tail : (line after more : List ℕ) → piece_with line (Some (length after)) (after ++ more) ≡ Some (piece (line ++ line_feed ∷ after) more)
whole_tail line after more =
    let enough : length after ≤ length (after ++ more) = omega (arith, length-append after more) in
    rw (le-leb (length after) (length (after ++ more)) enough, take-append_seam after more, drop-append_seam after more) refl

first_with : (line after more : List ℕ) → first_line line ≡ None → tail_length line ≡ Some (length after)
    → first_piece ((line ++ line_feed ∷ after) ++ more) ≡ Some (piece (line ++ line_feed ∷ after) more)
first_with line after more none tail =
    rw (append_assoc line (line_feed ∷ after) more, first_line-ended line (after ++ more) none)
    (ap (λ (t : Option ℕ). piece_with line t (after ++ more)) tail ∙ whole_tail line after more)

-- a stream that begins with a frame text
pub first_piece-text : (text more : List ℕ) → IsFrameText text → first_piece (text ++ more) ≡ Some (piece text more)
first_piece-text text more h =
    let t = text_of text h in
    subst (λ (x : List ℕ). first_piece (x ++ more) ≡ Some (piece x more)) (sym t.parts.text_is) (first_with t.line t.after more t.parts.no_feed t.parts.tail)

-- what a first piece shows of its stream
pub record Begun (stream : List ℕ) (p : Piece) : Type 0 where
  pub split : stream ≡ p.text ++ p.rest
  pub is_text : IsFrameText p.text
  pub shorter : length p.rest < length stream

enough_by : (test : Bool) (line after : List ℕ) (tail : ℕ) (p : Piece) → nat_le tail (length after) ≡ test
    → (if test then Some (piece (line ++ line_feed ∷ take tail after) (drop tail after)) else None) ≡ Some p
    → (tail ≤ length after) × (piece (line ++ line_feed ∷ take tail after) (drop tail after) ≡ p)
enough_by true line after tail p test is = (leb-true tail (length after) test, cc)
enough_by false line after tail p test is = cc

taken : (count : ℕ) (bytes : List ℕ) → count ≤ length bytes → count ≡ length (take count bytes)
taken count bytes enough = omega (arith, length-take count bytes)

begun_with_tail : (line after : List ℕ) (tail : ℕ) → first_line line ≡ None → tail_length line ≡ Some tail → tail ≤ length after
    → Begun (line ++ line_feed ∷ after) (piece (line ++ line_feed ∷ take tail after) (drop tail after))
begun_with_tail line after tail none is enough = record {
  split = ap (λ (x : List ℕ). line ++ line_feed ∷ x) (sym (take-append-drop tail after)) ∙ sym (append_assoc line (line_feed ∷ take tail after) (drop tail after));
  is_text = is_text line (take tail after) none (is ∙ ap (λ (n : ℕ). Some n) (taken tail after enough));
  shorter = omega (arith, length-append line (line_feed ∷ after), length-drop tail after);
}

begun_tail : (line after : List ℕ) (tail : Option ℕ) → tail_length line ≡ tail → first_line line ≡ None → (p : Piece) → piece_with line tail after ≡ Some p
    → Begun (line ++ line_feed ∷ after) p
begun_tail line after None is none p found = cc
begun_tail line after (Some tail) is none p found =
    let enough = enough_by (nat_le tail (length after)) line after tail p refl found in
    subst (Begun (line ++ line_feed ∷ after)) enough.1 (begun_with_tail line after tail none is enough.0)

begun_in : (stream : List ℕ) (found : Option Ended) → first_line stream ≡ found → (p : Piece) → piece_in found ≡ Some p → Begun stream p
begun_in stream None is p h = cc
begun_in stream (Some e) is p h =
    let s = spelled stream e is in
    subst (λ (x : List ℕ). Begun x p) (sym s.text_is) (begun_tail e.line e.after (tail_length e.line) refl s.no_feed p h)

pub begun : (stream : List ℕ) (p : Piece) → first_piece stream ≡ Some p → Begun stream p
begun stream p h = begun_in stream (first_line stream) refl p h

-- ---- the cut

-- a piece cut off before what cutting the rest gives
abbrev pub cut_off : List ℕ → Cut → Cut
cut_off text cut = record { pieces = text ∷ cut.pieces; rest = cut.rest }

steps_by : (count other : ℕ) (stream : List ℕ) (found : Option Piece) → first_piece stream ≡ found → length stream ≤ suc count → length stream ≤ suc other
    → ((rest : List ℕ) → length rest ≤ count → length rest ≤ other → cut_within count rest ≡ cut_within other rest)
    → cut_after (cut_within count) stream found ≡ cut_after (cut_within other) stream found
steps_by count other stream None is one two same = refl
steps_by count other stream (Some p) is one two same =
    let shorter : length p.rest < length stream = (begun stream p is).shorter in
    ap (cut_off p.text) (same p.rest (omega arith) (omega arith))

-- more steps than enough change nothing
enough_steps : (count other : ℕ) (stream : List ℕ) → length stream ≤ count → length stream ≤ other → cut_within count stream ≡ cut_within other stream
enough_steps zero zero stream one two = refl
enough_steps zero (suc other) [] one two = refl
enough_steps zero (suc other) (byte ∷ bytes) one two = absurd (omega arith)
enough_steps (suc count) zero [] one two = refl
enough_steps (suc count) zero (byte ∷ bytes) one two = absurd (omega arith)
enough_steps (suc count) (suc other) stream one two = steps_by count other stream (first_piece stream) refl one two (enough_steps count other)

step_by : (count : ℕ) (stream : List ℕ) (found : Option Piece) → first_piece stream ≡ found → length stream ≤ suc count
    → cut_after (cut_within count) stream found ≡ cut_after cut_of stream found
unfolding cut_of
step_by count stream None is bound = refl
step_by count stream (Some p) is bound =
    let shorter : length p.rest < length stream = (begun stream p is).shorter in
    ap (cut_off p.text) (enough_steps count (length p.rest) p.rest (omega arith) (omega arith))

-- the cut of a stream, by its first piece
pub cut_of-step : (stream : List ℕ) → cut_of stream ≡ cut_after cut_of stream (first_piece stream)
unfolding cut_of
cut_of-step [] = refl
cut_of-step (byte ∷ bytes) = step_by (length bytes) (byte ∷ bytes) (first_piece (byte ∷ bytes)) refl (omega arith)

-- a stream that begins with a frame text
pub cut_of-text : (text more : List ℕ) → IsFrameText text → cut_of (text ++ more) ≡ cut_off text (cut_of more)
cut_of-text text more h = cut_of-step (text ++ more) ∙ ap (cut_after cut_of (text ++ more)) (first_piece-text text more h)

-- a stream that begins with none
pub cut_of-none : (stream : List ℕ) → first_piece stream ≡ None → cut_of stream ≡ record { pieces = []; rest = stream }
cut_of-none stream none = cut_of-step stream ∙ ap (cut_after cut_of stream) none

-- frame texts before a stream
pub cut_of-joined : (pieces : List (List ℕ)) (more : List ℕ) → AllByRecursion IsFrameText pieces
    → cut_of (joined pieces ++ more) ≡ record { pieces = pieces ++ (cut_of more).pieces; rest = (cut_of more).rest }
cut_of-joined [] more each = refl
cut_of-joined (text ∷ texts) more each =
    ap cut_of (append_assoc text (joined texts) more) ∙ cut_of-text text (joined texts ++ more) each.0 ∙ ap (cut_off text) (cut_of-joined texts more each.1)

-- ---- splitting

-- what has no first piece begins with no frame text
pub begins_with_none : (stream : List ℕ) → first_piece stream ≡ None → (text more : List ℕ) → stream ≡ text ++ more → IsFrameText text → ⊥
begins_with_none stream none text more is h = let found = first_piece-text text more h in cc

none_by : (rest : List ℕ) (found : Option Piece) → first_piece rest ≡ found → ((text more : List ℕ) → rest ≡ text ++ more → IsFrameText text → ⊥) → found ≡ None
none_by rest None is bar = refl
none_by rest (Some p) is bar = let b = begun rest p is in absurd (bar p.text p.rest b.split b.is_text)

-- a rest has no first piece
pub none_begins : (rest : List ℕ) → ((text more : List ℕ) → rest ≡ text ++ more → IsFrameText text → ⊥) → first_piece rest ≡ None
none_begins rest bar = none_by rest (first_piece rest) refl bar

splits_cons : (text stream rest : List ℕ) (pieces : List (List ℕ)) → IsFrameText text → Splits stream pieces rest → Splits (text ++ stream) (text ∷ pieces) rest
splits_cons text stream rest pieces h s = record {
  whole = ap (λ (x : List ℕ). text ++ x) s.whole ∙ sym (append_assoc text (joined pieces) rest);
  each = (h, s.each);
  partial = s.partial;
}

splits_by : (count : ℕ) (stream : List ℕ) (found : Option Piece) → first_piece stream ≡ found → length stream ≤ suc count
    → ((rest : List ℕ) → length rest ≤ count → Splits rest (cut_within count rest).pieces (cut_within count rest).rest)
    → Splits stream (cut_after (cut_within count) stream found).pieces (cut_after (cut_within count) stream found).rest
splits_by count stream None is bound go = record { whole = refl; each = tt; partial = begins_with_none stream is }
splits_by count stream (Some p) is bound go =
    let b = begun stream p is in
    let shorter : length p.rest < length stream = b.shorter in
    let cut = cut_within count p.rest in
    subst (λ (x : List ℕ). Splits x (p.text ∷ cut.pieces) cut.rest) (sym b.split) (splits_cons p.text p.rest cut.rest cut.pieces b.is_text (go p.rest (omega arith)))

splits_within : (count : ℕ) (stream : List ℕ) → length stream ≤ count → Splits stream (cut_within count stream).pieces (cut_within count stream).rest
splits_within zero [] bound = record { whole = refl; each = tt; partial = begins_with_none [] refl }
splits_within zero (byte ∷ bytes) bound = absurd (omega arith)
splits_within (suc count) stream bound = splits_by count stream (first_piece stream) refl bound (splits_within count)

-- the computed cut is one
pub splits_cut : (stream : List ℕ) → Splits stream (cut_of stream).pieces (cut_of stream).rest
unfolding cut_of
splits_cut stream = splits_within (length stream) stream (omega arith)

-- and there is no other
pub splits_only : (stream : List ℕ) (pieces : List (List ℕ)) (rest : List ℕ) → Splits stream pieces rest → cut_of stream ≡ record { pieces = pieces; rest = rest }
splits_only stream pieces rest s =
    let none : first_piece rest ≡ None = none_begins rest s.partial in
    ap cut_of s.whole ∙ cut_of-joined pieces rest s.each
    ∙ ap (λ (c : Cut). record { pieces = pieces ++ c.pieces; rest = c.rest }) (cut_of-none rest none)
    ∙ ap (λ (x : List (List ℕ)). record { pieces = x; rest = rest }) (append-nil pieces)
