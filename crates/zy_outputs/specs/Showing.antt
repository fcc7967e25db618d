-- What is shown of a call. No public clause cites this module.
use Rattle.std.specs.Prelude.{◌≡◌, ℕ, Bool, true, List, slice_get, Some}
use Rattle.mc_calls.specs.declared.call.Call.{Call}
use Rattle.mc_allows.specs.Allows.{may_fail_quietly}
use Rattle.mc_allows.specs.Needs.{Suits}
use Rattle.mc_allows.specs.declared.said.Said.{Said}
use Rattle.mc_allows.specs.declared.said.Said.TheVariants.{Failed}
use Rattle.mc_allows.specs.declared.shown.Shown.{Shown}
use Rattle.mc_shown.specs.declared.part.Part.{Part}
use Rattle.mc_shown.specs.Parts.{AreSuited}

-- a call of a command that asks for no answer fails only if it may
abbrev pub FailsIfItMay : Bool → Bool → Call → Said → Type 0
FailsIfItMay quiet forget call said = said ≡ Failed → quiet ≡ true → may_fail_quietly forget call ≡ true

-- what was said to the call with this number suits what is shown, if all that was said suits these parts
abbrev pub MaySuit : List Part → ℕ → Bool → Bool → Call → Shown → Type 0
MaySuit parts at quiet forget call shown = (saids : List Said) (said : Said) → AreSuited parts saids
    → slice_get saids at ≡ Some said → FailsIfItMay quiet forget call said → Suits shown said
