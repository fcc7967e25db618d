-- The line that reports an answer.
use Rattle.std.specs.Prelude.{◌⊎◌, ℕ, List, Option}
use Rattle.zy_base.specs.Outside.{Rose, Grew, GrewByPrefix}

-- the line was written, or a prefix of it if writing failed
abbrev pub Said : Option (List ℕ) → Option (List ℕ) → ℕ → ℕ → List ℕ → Type 0
Said before after was now line = Grew before after line ⊎ (GrewByPrefix before after line × Rose was now)
