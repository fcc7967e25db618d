-- Readers to which the same bytes were fed are at one place, and pieces of a text do what the text does.
use Rattle.zy_read.proofs.Feeding.{fed_none, fed_on, given_here, fed}
use Rattle.std.proofs.Common.{◌≡◌, ℕ, List, [], ◌∷◌, sym, ◌∙◌, ap}
use Rattle.std.specs.List.{concat}
use Rattle.zy_read.specs.Format.{Format, Reading}
use Rattle.zy_read.specs.Standing.{StandsAs, Feeds}
use Rattle.format_laws.specs.Pieces.{FeedsPieces}

-- the records and the place are those of the bytes
pub same_given : {P G F V : Type 0} (format : Format P G F V) (p q : P) (given others : List G) (b : List ℕ) → StandsAs format p given b → StandsAs format q others b → given ≡ others
same_given format p q given others b one two = sym (given_here format p given b one) ∙ given_here format q others b two

pub same_state : {P G F V : Type 0} (format : Format P G F V) (p q : P) (given others : List G) (b : List ℕ) → StandsAs format p given b → StandsAs format q others b → p ≡ q
unfolding StandsAs
same_state {P} {G} format p q given others b one two = ap (λ (r : Reading P G). r.last) (sym one ∙ two)

-- pieces of a text do what the text does
pub pieces_fed : {P G F V : Type 0} (format : Format P G F V) (old new : P) (pieces : List (List ℕ)) (gave : List G) → FeedsPieces format old new pieces gave → Feeds format old new (concat pieces) gave
pieces_fed format old new [] gave fed = rw (fed.0, fed.1) (fed_none format old)
pieces_fed {P} {G} format old new (piece ∷ pieces) gave fed =
    let between : P = fed.0 in
    let rest = fed.1.1.1 in
    rw (rest.2) (fed_on format old between new piece (concat pieces) fed.1.0 fed.1.1.0 rest.0 (pieces_fed format between new pieces fed.1.1.0 rest.1))
