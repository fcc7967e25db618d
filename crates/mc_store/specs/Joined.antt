-- The passes of connections that a root gave and took back.
use Rattle.std.specs.Prelude.{ℕ, List, [], ◌∷◌, Bool, false, ◌||◌, ◌&&◌, not, ◌==◌, cond}
use Rattle.mc_calls.specs.declared.entry.Entry.{Entry}
use Rattle.zy_table.specs.Member.{is_in}

-- connections whose passes were joined, each with its calls, the last one first
abbrev pub Joined : Type 0
Joined = List (ℕ × List Entry)

-- the pass of this connection was joined
abbrev pub is_joined : ℕ → Joined → Bool
is_joined conn [] = false
is_joined conn (x ∷ xs) = (conn == x.0) || is_joined conn xs

-- the calls of a connection whose pass was joined; the empty list for any other
abbrev pub calls_of : ℕ → Joined → List Entry
calls_of conn [] = []
calls_of conn (x ∷ xs) = cond (conn == x.0) x.1 (calls_of conn xs)

-- the pass of this connection was given, and was not joined
abbrev pub is_out : ℕ → List ℕ → Joined → Bool
is_out conn given joined = is_in conn given && not (is_joined conn joined)
