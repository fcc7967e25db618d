-- What is taken out of what an answer shows.
use Rattle.std.proofs.Common.{◌≡◌, ℕ, Bool, true, false, List, set, Some, refl, sym, ◌∙◌, subst, arith}
use Rattle.std.specs.List.{slice_get}
use mathlib.Core.Logic.{dite}
use native.Mathlib.Decide.{dec_lt}
use Rattle.zy_base.proofs.SetLemmas.{slice_get-set_is, slice_get-set_other}
use Rattle.mc_calls.specs.declared.call.Call.{Call}
use Rattle.mc_allows.specs.Allows.{may_fail_quietly}
use Rattle.mc_allows.specs.Needs.{Suits}
use Rattle.mc_allows.specs.declared.said.Said.{Said}
use Rattle.mc_allows.specs.declared.said.Said.TheVariants.{Replied, Failed}
use Rattle.mc_allows.specs.declared.shown.Shown.{Shown}
use Rattle.mc_allows.specs.declared.shown.Shown.TheVariants.{Nothing, NoFailure}
use Rattle.mc_shown.specs.declared.part.Part.{Part}
use Rattle.mc_shown.specs.Parts.{AreSuited}
use Rattle.zy_outputs.specs.Showing.{MaySuit}

-- everything suits nothing
pub suits_nothing : (said : Said) → Suits Nothing said
suits_nothing (Replied reply) = tt
suits_nothing Failed = refl

-- what was said to a call that cannot have failed
pub suits_no_failure : (forget : Bool) (call : Call) (said : Said) → may_fail_quietly forget call ≡ false → (said ≡ Failed → may_fail_quietly forget call ≡ true) → Suits NoFailure said
suits_no_failure forget call (Replied reply) never may = tt
suits_no_failure forget call Failed never may = absurd (let e = sym never ∙ may refl in cc)

-- a part that shows nothing stands in for another
pub suited_without : (parts : List Part) (at : ℕ) (part : Part) (saids : List Said) → part.shown ≡ Nothing → AreSuited parts saids → AreSuited (set parts at part) saids
suited_without parts at part saids none suited i own said is said_is = dite (dec_lt i at)
    (λ before. suited i own said (sym (slice_get-set_other parts at i part (λ same. omega (arith, same, before))) ∙ is) said_is)
    (λ from. dite (dec_lt at i)
    (λ after. suited i own said (sym (slice_get-set_other parts at i part (λ same. omega (arith, same, after))) ∙ is) said_is)
    (λ to.
    let same : i ≡ at = omega (arith, from, to) in
    let there : slice_get (set parts at part) at ≡ Some own = subst (λ (j : ℕ). slice_get (set parts at part) j ≡ Some own) same is in
    let here : part ≡ own = slice_get-set_is parts at part own there in
    subst (λ (p : Part). Suits p.shown said) here (subst (λ (s : Shown). Suits s said) (sym none) (suits_nothing said))))

-- a part that is there
pub part_suits : (parts : List Part) (at : ℕ) (quiet forget : Bool) (call : Call) (part : Part) → slice_get parts at ≡ Some part → MaySuit parts at quiet forget call part.shown
part_suits parts at quiet forget call part is saids said suited there fails = suited at part said is there
