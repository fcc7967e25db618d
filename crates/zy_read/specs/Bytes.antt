-- Texts whose numbers are those of bytes, and sources that gave them.
use Rattle.std.specs.Prelude.{ℕ, ◌<◌, List, Option}
use Rattle.std.specs.List.{AllByRecursion}
use Rattle.std.specs.Io.KnownBytes.{Consumes, IsAtEnd}

-- every number of the text is that of a byte
abbrev pub AreBytes : List ℕ → Type 0
AreBytes text = AllByRecursion (λ byte. byte < 256) text

-- the source held these bytes, if that is known, and is at its end; and each number is that of a byte
abbrev pub ReadsAll : Option (List ℕ) → Option (List ℕ) → List ℕ → Type 0
ReadsAll before after bytes = Consumes before after bytes × IsAtEnd after × AreBytes bytes
