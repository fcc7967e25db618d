-- A group of one core, and its pass at the bells.
use Rattle.std.proofs.Common.{◌≡◌, ℕ, ◌+◌, ◌<◌, List, [], ◌∷◌, length, get_or, refl, sym, ap, ◌∙◌, arith}
use Rattle.zy_park.specs.Pass.{Passed}
use Rattle.zy_core.specs.declared.nap.Nap.{Nap}
use Rattle.zy_core.specs.declared.nap.Nap.TheVariants.{Awake, Ending, Rested}
use Rattle.zy_core.specs.Core.{Cored}
use Rattle.zy_control.specs.Pass.{Held}
use Rattle.zy_core.specs.Nap.{bell_after}
use Rattle.zy_core.specs.Cores.{identities}
use Rattle.zy_rounds.specs.Naps.{IsAlone}

-- the one core is there
pub alone_some : (n : ℕ) (cs : List Cored) → IsAlone n (identities cs) → 0 < length cs
alone_some n [] alone = absurd (cc)
alone_some n (x ∷ xs) alone = omega arith

-- and has this number
pub alone_first : (n : ℕ) (cs : List Cored) (c : Cored) → IsAlone n (identities cs) → c ≡ get_or cs 0 c → n ≡ c.home.core
alone_first n [] c alone is = absurd (cc)
alone_first n (x ∷ xs) c alone is = let here : x.home.core ≡ n = cc in sym here ∙ ap (λ (y : Cored). y.home.core) (sym is)

-- a nap leaves the pass at its bells, and of its core
pub bell_same : (h : Held) (n : Nap) (p : Passed) → ((bell_after h n p).bells ≡ p.bells) × ((bell_after h n p).core ≡ p.core)
bell_same h (Awake turn) p = (refl, refl)
bell_same h (Ending done stop) p = (refl, refl)
bell_same h Rested p = (refl, refl)
