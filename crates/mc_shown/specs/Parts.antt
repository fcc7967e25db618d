-- What an answer shows of what was said to the calls of its command.
use Rattle.std.specs.Prelude.{◌≡◌, ℕ, List, slice_get, Some}
use Rattle.mc_allows.specs.declared.said.Said.{Said}
use Rattle.mc_allows.specs.Needs.{Suits}
use Rattle.mc_shown.specs.declared.part.Part.{Part}

-- what was said to each call suits what is shown of it, if something is
abbrev pub AreSuited : List Part → List Said → Type 0
AreSuited parts saids =
    (i : ℕ) (part : Part) (said : Said) → slice_get parts i ≡ Some part → slice_get saids i ≡ Some said
    → Suits part.shown said
