-- Pieces of a text that are fed one after another.
use Rattle.zy_read.specs.Standing.{Feeds}
use Rattle.std.specs.Prelude.{◌≡◌, ℕ, List, [], ◌∷◌, ◌++◌}
use Rattle.zy_read.specs.Format.{Format}

-- pieces of a text were fed, one after another, and gave these records
abbrev pub FeedsPieces : {P G F V : Type 0} → Format P G F V → P → P → List (List ℕ) → List G → Type 0
FeedsPieces format old new [] gave = (new ≡ old) × (gave ≡ [])
FeedsPieces {P} {G} format old new (piece ∷ pieces) gave =
    (between : P) × ((first : List G) × ((others : List G)
    × (Feeds format old between piece first × FeedsPieces format between new pieces others
    × (gave ≡ first ++ others))))
