-- The three kinds of frame texts, and the frame of each.
use Rattle.std.proofs.Common.{◌≡◌, inl, inr, ℕ, ◌+◌, ◌<◌, ◌≤◌, true, false, List, [], ◌∷◌, ◌++◌, length, refl, sym}
use Rattle.std.proofs.Common.{ap, ◌∙◌, subst, arith}
use Rattle.std.specs.Prelude.{None, Some, nat_lt, if◌then◌else◌, Bool, ◌↔◌, ◌⊎◌}
use Rattle.std.proofs.lemmas.Bool.{ltb-true, ltb-false}
use Rattle.mc_calls.specs.Shard.{value_limit}
use Rattle.mc_parse.specs.declared.need.Need.{Need}
use Rattle.mc_parse.specs.declared.need.Need.TheVariants as Needs
use Rattle.mc_parse.specs.Need.{need}
use Rattle.zy_frame.specs.declared.frame_kind.FrameKind.TheVariants.{Line, Block, Large, Long}
use Rattle.mc_parse.specs.Words.{line_limit}
use Rattle.zy_frame.specs.Line.{IsShort, first_line, chomped, line_feed}
use Rattle.zy_frame.specs.Frame.{tail_by, IsFrameText, frame_of, frame_at, frame_in}
use Rattle.run_laws.specs.TextKinds.{IsLongText, IsLineText, IsBlockText}
use Rattle.zy_frame.proofs.LineLemmas.{first_line-ended}
use Rattle.zy_frame.proofs.CutLemmas.{Text, text_of, is_text}
use Rattle.zy_frame.proofs.GoingOn.{tail_is, frame_is, long_tail, long_frame, kept_block, large_block}

abbrev Kinds : List ℕ → Type 0
Kinds text = IsLongText text ⊎ IsLineText text ⊎ IsBlockText text

no_after : (after : List ℕ) → Some 0 ≡ Some (length after) → after ≡ []
no_after [] is = refl
no_after (byte ∷ bytes) is = let none : 0 ≡ length (byte ∷ bytes) = cc in absurd (omega arith)

kind_by_need : (what : Need) (text line after : List ℕ) → need (chomped line) ≡ what → text ≡ line ++ line_feed ∷ after → IsShort line
    → tail_by what ≡ Some (length after) → Kinds text
kind_by_need Needs.Nothing text line after is split short tail =
    inr (inl (record { line = line; split = split ∙ ap (λ (x : List ℕ). line ++ line_feed ∷ x) (no_after after tail); short = short; alone = is }))
kind_by_need (Needs.Block size) text line after is split short tail =
    let whole : length after ≡ size + 2 = cc in
    inr (inr (record { line = line; block = after; size = size; split = split; short = short; sized = is; whole = whole }))
kind_by_need Needs.Quit text line after is split short tail = cc

kind_by : (test : Bool) (text line after : List ℕ) → nat_lt line_limit (length line) ≡ test → text ≡ line ++ line_feed ∷ after → first_line line ≡ None
    → (if test then Some 0 else tail_by (need (chomped line))) ≡ Some (length after) → Kinds text
kind_by true text line after is split none tail =
    inl (record {
      line = line;
      split = split ∙ ap (λ (x : List ℕ). line ++ line_feed ∷ x) (no_after after tail);
      no_feed = none;
      long = ltb-true line_limit (length line) is;
    })
kind_by false text line after is split none tail =
    kind_by_need (need (chomped line)) text line after refl split (record { no_feed = none; short = ltb-false line_limit (length line) is }) tail

kind_of_text : (text : List ℕ) → Text text → Kinds text
kind_of_text text t = kind_by (nat_lt line_limit (length t.line)) text t.line t.after refl t.parts.text_is t.parts.no_feed t.parts.tail

from_kind : (text : List ℕ) → Kinds text → IsFrameText text
from_kind text (inl t) = subst IsFrameText (sym t.split) (is_text t.line [] t.no_feed (long_tail t.line t.long))
from_kind text (inr (inl t)) = subst IsFrameText (sym t.split) (is_text t.line [] t.short.no_feed (tail_is t.line Needs.Nothing t.short.short t.alone))
from_kind text (inr (inr t)) =
    subst IsFrameText (sym t.split) (is_text t.line t.block t.short.no_feed
    (tail_is t.line (Needs.Block t.size) t.short.short t.sized ∙ ap (λ (n : ℕ). Some n) (sym t.whole)))

pub three_kinds : (text : List ℕ) → IsFrameText text ↔ (IsLongText text ⊎ IsLineText text ⊎ IsBlockText text)
three_kinds text = (λ h. kind_of_text text (text_of text h), from_kind text)

frame_at_line : (text line after : List ℕ) → text ≡ line ++ line_feed ∷ after → first_line line ≡ None → frame_of text ≡ frame_at line after
frame_at_line text line after split none = ap frame_of split ∙ ap frame_in (first_line-ended line after none)

pub frame_of_long : (text : List ℕ) (t : IsLongText text) → frame_of text ≡ Long
frame_of_long text t = frame_at_line text t.line [] t.split t.no_feed ∙ long_frame t.line [] t.long

pub frame_of_line : (text : List ℕ) (t : IsLineText text) → frame_of text ≡ Line (chomped t.line)
frame_of_line text t = frame_at_line text t.line [] t.split t.short.no_feed ∙ frame_is t.line [] Needs.Nothing t.short.short t.alone

pub frame_of_block : (text : List ℕ) (t : IsBlockText text) → t.size ≤ value_limit → frame_of text ≡ Block (chomped t.line) t.block
frame_of_block text t small = frame_at_line text t.line t.block t.split t.short.no_feed ∙ kept_block t.line t.block t.size t.short t.sized small

pub frame_of_large : (text : List ℕ) (t : IsBlockText text) → value_limit < t.size → frame_of text ≡ Large (chomped t.line)
frame_of_large text t large = frame_at_line text t.line t.block t.split t.short.no_feed ∙ large_block t.line t.block t.size t.short t.sized large
