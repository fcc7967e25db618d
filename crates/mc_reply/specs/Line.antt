-- Texts as lines, and the line that several commands answer with.
use Rattle.std.specs.Prelude.{ℕ, Bool, if◌then◌else◌, List, [], ◌++◌, codes}

-- the bytes that end a line
abbrev pub line_end : List ℕ
line_end = codes "\r\n"

-- a text as a line
abbrev pub line : List ℕ → List ℕ
line text = text ++ line_end

-- the answer to a value that is too large, given or joined
abbrev pub too_large : List ℕ
too_large = codes "SERVER_ERROR object too large for cache"

-- nothing, if no answer is requested
abbrev pub unless : Bool → List ℕ → List ℕ
unless quiet text = if quiet then [] else text
