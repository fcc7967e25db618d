-- The holds of a run: the number of its commands that each core finished, connection by connection.
use Rattle.std.specs.Prelude.{◌≡◌, ℕ, ◌+◌, ◌<◌, ◌==◌, if◌then◌else◌, List, [], ◌∷◌, length, ⊤}
use Rattle.mc_calls.specs.declared.hold.Hold.{Hold}
use Rattle.mc_parse.specs.declared.command.Command.{Command}
use Rattle.zy_journal.specs.Journal.{AreByConnection}

-- the sum of the counts of a connection's holds
abbrev pub held_of : ℕ → List Hold → ℕ
held_of conn [] = 0
held_of conn (h ∷ hs) = if h.conn == conn then h.count + held_of conn hs else held_of conn hs

-- each hold belongs to one of `count` connections
abbrev pub AreHoldsOf : ℕ → List Hold → Type 0
AreHoldsOf count [] = ⊤
AreHoldsOf count (h ∷ hs) = (h.conn < count) × AreHoldsOf count hs

-- the holds span the commands of the first `count` connections
pub record Spans (holds : List Hold) (count : ℕ) (commands : ℕ → List Command) : Type 0 where
  -- they are in the order of connections
  pub rising : AreByConnection 0 holds
  -- each belongs to one of the connections
  pub connections : AreHoldsOf count holds
  -- the counts of a connection's holds add up to the number of its commands
  pub counts : (conn : ℕ) → conn < count → held_of conn holds ≡ length (commands conn)
