-- Why a journal and outputs are not those of a run of some streams: the first cause, in this order.
use Rattle.std.specs.Prelude.{◌≡◌, ◌⊎◌, ℕ, suc, ◌<◌, ◌==◌, if◌then◌else◌, List, [], ◌∷◌, length, Option, None, Some}
use Rattle.std.specs.List.{slice_get}
use Rattle.mc_calls.specs.Order.{of_connection}
use Rattle.mc_parse.specs.Calls.{Due}
use Rattle.zy_check.specs.declared.verdict.Verdict.{Verdict}
use Rattle.zy_check.specs.declared.verdict.Verdict.TheVariants.{Yes, No}
use Rattle.zy_check.specs.declared.verdict.Cause.TheVariants.{NotNext, WrongReply, Missing, WrongOutput, WrongHolds}
use Rattle.zy_check.specs.Given.{Given, IsNextAt, IsAnsweredAt, AreRightBelow, AreRight, due_in, HasEveryEntry, found_output, due_output, IsOutput, IsHeld}

-- ---- entries

-- this is the first wrong entry: it is not the next call of its connection
pub record IsNotNext (g : Given) (at : ℕ) : Type 0 where
  pub within : at < length g.entries
  pub first : AreRightBelow g at
  pub wrong : IsNextAt g at → ⊥

-- this is the first wrong entry: it is the next call of its connection, and its reply is wrong
pub record IsWrongReply (g : Given) (at : ℕ) : Type 0 where
  pub within : at < length g.entries
  pub first : AreRightBelow g at
  pub next : IsNextAt g at
  pub wrong : IsAnsweredAt g at → ⊥

-- ---- calls

-- this is the first connection with an expected call that has no entry, and the first of these
-- calls is of this command
pub record IsMissing (g : Given) (conn index : ℕ) : Type 0 where
  pub right : AreRight g
  pub first : (c : ℕ) → c < conn → HasEveryEntry g c
  pub call : Due
  pub is_due : slice_get (due_in g conn) (length (of_connection conn g.entries)) ≡ Some call
  pub is_of : call.tag.index ≡ index

-- each entry is right, and each expected call has one
pub record IsComplete (g : Given) : Type 0 where
  pub right : AreRight g
  pub whole : (conn : ℕ) → HasEveryEntry g conn

-- ---- outputs

-- the number of first bytes of two texts that agree
abbrev pub agreeing : List ℕ → List ℕ → ℕ
agreeing [] ys = 0
agreeing (x ∷ xs) [] = 0
agreeing (x ∷ xs) (y ∷ ys) = if x == y then suc (agreeing xs ys) else 0

-- the number of first bytes of two outputs that agree, if both exist
abbrev pub agreeing_in : Option (List ℕ) → Option (List ℕ) → ℕ
agreeing_in None due = 0
agreeing_in (Some found) None = 0
agreeing_in (Some found) (Some due) = agreeing found due

-- a session comes before another: its connection is lower, or it is an earlier session of the same
abbrev pub ComesBefore : ℕ → ℕ → ℕ → ℕ → Type 0
ComesBefore c s conn session = (c < conn) ⊎ ((c ≡ conn) × (s < session))

-- this is the first session whose output is not the expected one, and the first `at` bytes agree
pub record IsWrongOutput (g : Given) (conn session at : ℕ) : Type 0 where
  pub complete : IsComplete g
  pub first : (c s : ℕ) → ComesBefore c s conn session → IsOutput g c s
  pub wrong : IsOutput g conn session → ⊥
  pub agrees : agreeing_in (found_output g conn session) (due_output g conn session) ≡ at

-- ---- holds

-- this is the first connection whose holds do not add up
pub record IsWrongHolds (g : Given) (conn : ℕ) : Type 0 where
  pub complete : IsComplete g
  pub outputs : (c s : ℕ) → IsOutput g c s
  pub first : (c : ℕ) → c < conn → IsHeld g c
  pub wrong : IsHeld g conn → ⊥

-- ---- the verdict

-- all is as it should be
pub record IsRight (g : Given) : Type 0 where
  pub complete : IsComplete g
  pub outputs : (conn session : ℕ) → IsOutput g conn session
  pub holds : (conn : ℕ) → IsHeld g conn

-- the definition of each verdict
abbrev pub HasVerdict : Given → Verdict → Type 0
HasVerdict g Yes = IsRight g
HasVerdict g (No (NotNext entry)) = IsNotNext g entry
HasVerdict g (No (WrongReply entry)) = IsWrongReply g entry
HasVerdict g (No (Missing conn index)) = IsMissing g conn index
HasVerdict g (No (WrongOutput conn session at)) = IsWrongOutput g conn session at
HasVerdict g (No (WrongHolds conn)) = IsWrongHolds g conn
