-- The answers to `mg` and `md` have their shapes.
use Rattle.std.proofs.Common.{◌≡◌, ◌⊎◌, inl, inr, ℕ, Bool, true, false, List, [], ◌∷◌, ◌++◌, length, refl, sym, subst}
use Rattle.std.specs.Prelude.{codes, decimal, if◌then◌else◌, Some}
use Rattle.mc_calls.specs.declared.call.Call.TheVariants as Calls
use Rattle.mc_calls.specs.declared.call_reply.CallReply.{CallReply}
use Rattle.mc_calls.specs.declared.call_reply.CallReply.TheVariants.{Miss, Hit, NotFound, Deleted}
use Rattle.mc_calls.specs.Bounds.{IsReply, FitsReply}
use Rattle.mc_calls.specs.Kind.{MayAnswer}
use Rattle.mc_meta.specs.Flags.{is_among}
use Rattle.mc_parse.specs.Saying.{a_found, a_removed}
use Rattle.mc_reply.specs.Line.{line}
use Rattle.mc_reply.specs.MetaText.{has_quiet_letter, value_letter, marked, found_of, delete_text}
use Rattle.mc_allows.specs.declared.said.Said.{Said}
use Rattle.mc_allows.specs.declared.said.Said.TheVariants.{Replied, Failed}
use Rattle.mc_answers.specs.Answer.{IsUnless, IsMarked}
use Rattle.mc_answers.specs.Cut.{AreCut, AreApart, IsLine, IsOfLine}
use Rattle.mc_answers.specs.Kinds.{IsValueText, IsMissLine}
use Rattle.mc_answers.specs.Said.{IsOne, MaySay}
use Rattle.mc_answers.specs.Shape.{IsFoundText}
use Rattle.mc_answers.proofs.CutLemmas.{lines_cut}
use Rattle.mc_answers.proofs.MarkLemmas.{marked_is_line, found_is_line, value_cut, value_is_no_miss, miss_is_line}
use Rattle.mc_answers.proofs.ReplyLemmas.{chosen_second}

-- ---- kinds

either_cut : (IsOne IsOther : List ℕ → Type 0) → AreCut IsOne → AreCut IsOther → AreApart IsOne IsOther → AreCut (λ text. IsOne text ⊎ IsOther text)
either_cut IsOne IsOther first second apart a b more other (inl x) (inl y) same = first a b more other x y same
either_cut IsOne IsOther first second apart a b more other (inl x) (inr y) same = absurd (apart a b more other x y same)
either_cut IsOne IsOther first second apart a b more other (inr x) (inl y) same = absurd (apart b a other more y x (sym same))
either_cut IsOne IsOther first second apart a b more other (inr x) (inr y) same = second a b more other x y same

miss_cut : (key : List ℕ) → IsOfLine key → AreCut (IsMissLine key)
miss_cut key named a b more other one two same = lines_cut a b more other (miss_is_line key named a one) (miss_is_line key named b two) same

-- what shows an item, or none, is cut in one way
pub found_cut : (shown : Bool) (key letters : List ℕ) → IsOfLine key → AreCut (IsFoundText shown key letters)
found_cut true key letters named a b more other one two same =
    either_cut (IsValueText key letters) (IsMissLine key) (value_cut key letters named) (miss_cut key named) (value_is_no_miss key letters) a b more other one two same
found_cut false key letters named a b more other one two same = lines_cut a b more other one two same

-- ---- `mg`

hit_shaped : (shown : Bool) (key letters : List ℕ) (flags unique : ℕ) (value text : List ℕ) → IsOfLine key → IsReply (Hit flags unique value) → FitsReply (Hit flags unique value)
    → text
    ≡ (if shown then marked (codes "VA " ++ decimal (length value)) key (Some (found_of flags unique value)) letters ++ line value
    else marked (codes "HD") key (Some (found_of flags unique value)) letters)
    → IsFoundText shown key letters text
hit_shaped true key letters flags unique value text named sized fits is = inl (record { flags = flags; unique = unique; value = value; few = fits.0.0; small = fits.0.1; fits = sized; is = is })
hit_shaped false key letters flags unique value text named sized fits is = subst IsLine (sym is) (found_is_line (codes "HD") key flags unique value letters refl named)

miss_shaped : (shown : Bool) (key letters text : List ℕ) → IsOfLine key → IsMissLine key text → IsFoundText shown key letters text
miss_shaped true key letters text named one = inr one
miss_shaped false key letters text named one = miss_is_line key named text one

loud_is : (quiet : Bool) (IsText : List ℕ → Type 0) (text : List ℕ) → quiet ≡ false → IsUnless quiet IsText text → IsText text
loud_is true IsText text loud one = absurd (cc)
loud_is false IsText text loud one = one

get_shaped : (key letters : List ℕ) (said : Said) (text : List ℕ) → IsOfLine key → has_quiet_letter letters ≡ false → MaySay (Calls.Get key) said → IsMarked a_found key letters text said
    → IsFoundText (is_among letters value_letter) key letters text
get_shaped key letters (Replied (Hit flags unique value)) text named loud may one = hit_shaped (is_among letters value_letter) key letters flags unique value text named may.1 may.2 one
get_shaped key letters (Replied Miss) text named loud may one =
    miss_shaped (is_among letters value_letter) key letters text named (loud_is (has_quiet_letter letters) (IsMissLine key) text loud one)
get_shaped key letters (Replied reply) text named loud may one = absurd may.0
get_shaped key letters Failed text named loud may one = absurd (cc)

pub found_shaped : (key letters : List ℕ) (saids : List Said) (text : List ℕ) → IsOfLine key → has_quiet_letter letters ≡ false → IsOne (MaySay (Calls.Get key)) saids
    → IsOne (IsMarked a_found key letters text) saids → IsFoundText (is_among letters value_letter) key letters text
found_shaped key letters [] text named loud may one = absurd may
found_shaped key letters (said ∷ []) text named loud may one = get_shaped key letters said text named loud may one
found_shaped key letters (said ∷ next ∷ saids) text named loud may one = absurd may

-- ---- `md`

delete_line : (key letters : List ℕ) (reply : CallReply) → IsOfLine key → has_quiet_letter letters ≡ false → MayAnswer (Calls.Delete key) reply → IsLine (delete_text key letters reply)
delete_line key letters Deleted named loud may = chosen_second IsLine (has_quiet_letter letters) [] _ loud (marked_is_line (codes "HD") key letters refl named)
delete_line key letters NotFound named loud may = chosen_second IsLine (has_quiet_letter letters) [] _ loud (marked_is_line (codes "NF") key letters refl named)
delete_line key letters reply named loud may = absurd may

pub removed_shaped : (key letters : List ℕ) (saids : List Said) (text : List ℕ) → IsOfLine key → has_quiet_letter letters ≡ false → IsOne (MaySay (Calls.Delete key)) saids
    → IsOne (IsMarked a_removed key letters text) saids → IsLine text
removed_shaped key letters [] text named loud may one = absurd may
removed_shaped key letters (Replied reply ∷ []) text named loud may one = subst IsLine (sym one) (delete_line key letters reply named loud may.0)
removed_shaped key letters (Failed ∷ []) text named loud may one = absurd (cc)
removed_shaped key letters (said ∷ next ∷ saids) text named loud may one = absurd may
