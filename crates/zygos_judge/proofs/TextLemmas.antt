-- What is written of what was judged: the line, and what follows it.
use Rattle.std.proofs.Common.{◌≡◌, refl, sym, subst, Bool, true, false, List, [], ◌++◌, ℕ}
use Rattle.std.proofs.lemmas.List.{append-nil}
use Rattle.zy_explain.specs.declared.window.Window.{Window as Led}
use Rattle.zy_items.specs.Items.{items_bytes}
use Rattle.zy_items.specs.Standing.{standing_of}
use Rattle.zygos_judge.specs.declared.judged.Judged.{Judged}
use Rattle.zygos_judge.specs.declared.judged.Judged.TheVariants.{Window, Plain}
use Rattle.zygos_judge.specs.Finding.{text_with}
use Rattle.zygos_judge.specs.Input.{finding_in, judged_text}
use Rattle.zygos_judge.specs.Lines.{finding_line}

-- what follows the line
abbrev pub text_rest : Judged → Bool → List ℕ
text_rest (Window led) true = items_bytes (standing_of led.to)
text_rest (Window led) false = []
text_rest (Plain finding) asked = []

pub text_is : (judged : Judged) (asked : Bool) → finding_line (finding_in judged) ++ text_rest judged asked ≡ judged_text asked judged
text_is (Window led) true = refl
text_is (Window led) false = append-nil (finding_line (finding_in (Window led)))
text_is (Plain finding) asked = append-nil (finding_line finding)

-- what the server has at last follows the line of a window if that is asked for
pub text_led : (judged : Judged) (asked : Bool) (led : Led) → judged ≡ Window led → asked ≡ true → finding_line (finding_in judged) ++ items_bytes (standing_of led.to) ≡ judged_text asked judged
text_led judged asked led is true_is =
    subst (λ (j : Judged). finding_line (finding_in j) ++ items_bytes (standing_of led.to) ≡ judged_text asked j) (sym is)
    (subst (λ (t : Bool). finding_line (finding_in (Window led)) ++ items_bytes (standing_of led.to) ≡ text_with t (finding_line (finding_in (Window led))) (standing_of led.to)) (sym true_is) refl)
