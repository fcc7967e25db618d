-- What a frame's text shows of its line and block.
use Rattle.std.proofs.Common.{◌≡◌, ℕ, ◌+◌, ◌≤◌, true, false, List, length, refl, sym, ap, ◌∙◌, subst, arith}
use Rattle.std.specs.Prelude.{Some, nat_lt, if◌then◌else◌, Bool, ⊤}
use Rattle.std.proofs.lemmas.Bool.{ltb-true, ltb-false}
use Rattle.mc_calls.specs.Shard.{value_limit}
use Rattle.mc_parse.specs.declared.need.Need.{Need}
use Rattle.mc_parse.specs.declared.need.Need.TheVariants as Needs
use Rattle.mc_parse.specs.Need.{need}
use Rattle.mc_parse.specs.Meaning.{IsBlockFor, IsTooLarge}
use Rattle.zy_frame.specs.declared.frame_kind.FrameKind.{FrameKind}
use Rattle.zy_frame.specs.declared.frame_kind.FrameKind.TheVariants.{Line, Block, Large, Long}
use Rattle.mc_parse.specs.Words.{line_limit}
use Rattle.zy_frame.specs.Line.{first_line, chomped}
use Rattle.zy_frame.specs.declared.form.Form.{Form}
use Rattle.zy_frame.specs.Frame.{tail_by, frame_of, frame_in, frame_by, kind_in, IsFrame}
use Rattle.zy_frame.proofs.LineLemmas.{first_line-ended}
use Rattle.zy_frame.proofs.LineEnds.{length-chomped}
use Rattle.zy_frame.proofs.CutLemmas.{Text, text_of}

-- the line of a frame is not too long, and its block is the one that it needs
abbrev pub Fits : FrameKind → Type 0
Fits (Line line) = (length line ≤ line_limit) × (need line ≡ Needs.Nothing)
Fits (Block line block) = (length line ≤ line_limit) × IsBlockFor (need line) block
Fits (Large line) = (length line ≤ line_limit) × IsTooLarge (need line)
Fits Long = ⊤

fits_block : (test : Bool) (line after : List ℕ) (size : ℕ) → nat_lt value_limit size ≡ test → length line ≤ line_limit → need line ≡ Needs.Block size → length after ≡ size + 2
    → Fits (if test then Large line else Block line after)
fits_block true line after size large short is all = (short, rw is (ltb-true value_limit size large))
fits_block false line after size small short is all = (short, rw is (ltb-false value_limit size small, all))

fits_need : (what : Need) (line after : List ℕ) → need line ≡ what → length line ≤ line_limit → tail_by what ≡ Some (length after) → Fits (frame_by what line after)
fits_need Needs.Nothing line after is short tail = (short, is)
fits_need (Needs.Block size) line after is short tail =
    let all : size + 2 ≡ length after = cc in
    fits_block (nat_lt value_limit size) line after size refl short is (sym all)
fits_need Needs.Quit line after is short tail = cc

fits_by : (test : Bool) (line after : List ℕ) → nat_lt line_limit (length line) ≡ test
    → (if test then Some 0 else tail_by (need (chomped line))) ≡ Some (length after) → Fits (if test then Long else frame_by (need (chomped line)) (chomped line) after)
fits_by true line after long tail = tt
fits_by false line after looked tail =
    let bound = ltb-false line_limit (length line) looked in
    fits_need (need (chomped line)) (chomped line) after refl (omega (arith, length-chomped line)) tail

fits_text : (text : List ℕ) → Text text → Fits (frame_of text)
fits_text text t =
    let found = ap first_line t.parts.text_is ∙ first_line-ended t.line t.after t.parts.no_feed in
    subst Fits (sym (ap frame_in found)) (fits_by (nat_lt line_limit (length t.line)) t.line t.after refl t.parts.tail)

pub fits : (kind : FrameKind) → IsFrame kind → Fits kind
fits kind f = subst Fits (sym f.of_text) (fits_text f.text (text_of f.text f.is_text))

-- ---- by form

-- the same of the bytes of a frame in this form
pub fits_form : (form is : Form) (line gap : ℕ) (bytes : List ℕ) → form ≡ is → IsFrame (kind_in form line gap bytes) → Fits (kind_in is line gap bytes)
fits_form form is line gap bytes same f = subst (λ (x : Form). Fits (kind_in x line gap bytes)) same (fits (kind_in form line gap bytes) f)
