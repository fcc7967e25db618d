-- Where the first answer in some bytes ends, whatever was said to the calls of its command.
use Rattle.std.specs.Prelude.{◌≡◌, ◌⊎◌, ℕ, ◌≤◌, Bool, true, false, not, List, ◌++◌, length, codes, ⊤}
use Rattle.mc_parse.specs.declared.command.Command.{Command}
use Rattle.mc_parse.specs.declared.command.Command.TheVariants.{Get, Stats, Version, Verbosity, Flush, Fault, Meta}
use Rattle.mc_parse.specs.declared.meta.Meta.TheVariants as Metas
use Rattle.mc_parse.specs.Deed.{says_of, is_unsaid}
use Rattle.mc_answers.specs.Answer.{IsSomeAnswer}
use Rattle.mc_reply.specs.Text.{line}
use Rattle.mc_answers.specs.Kinds.{IsLineWith, IsErrorLine}
use Rattle.mc_kind.specs.declared.first.First.{First}
use Rattle.mc_kind.specs.declared.first.First.TheVariants.{Whole, Refused, Other, Unread}

-- each text of this kind that begins the bytes, or begins with them, has this length
abbrev pub HaveLength : (List ℕ → Type 0) → List ℕ → ℕ → Type 0
HaveLength IsText bytes n = (text rest more : List ℕ) → IsText text → text ++ rest ≡ bytes ++ more → length text ≡ n

-- no text of this kind begins the bytes, or begins with them
abbrev pub NoneFits : (List ℕ → Type 0) → List ℕ → Type 0
NoneFits IsText bytes = (text rest more : List ℕ) → IsText text → text ++ rest ≡ bytes ++ more → ⊥

-- the first answer has this length; if the bytes are an error line, that is the answer, or the command asks for none
pub record IsWhole (command : Command) (bytes : List ℕ) (n : ℕ) : Type 0 where
  pub low : n ≤ length bytes
  pub long : HaveLength (IsSomeAnswer command) bytes n
  pub error : IsErrorLine bytes → (n ≡ 0) ⊎ IsSomeAnswer command bytes

-- no answer fits, and the bytes are no error line
pub record IsRefused (command : Command) (bytes : List ℕ) : Type 0 where
  pub none : NoneFits (IsSomeAnswer command) bytes
  pub error : IsErrorLine bytes → ⊥

-- what is found of the first answer
abbrev pub IsFirst : Command → List ℕ → First → Type 0
IsFirst command bytes (Whole n) = IsWhole command bytes n
IsFirst command bytes Refused = IsRefused command bytes
IsFirst command bytes Other = ⊤
IsFirst command bytes Unread = ⊤

-- ---- commands

-- the command is answered by one line
abbrev pub is_loud_line : Command → Bool
is_loud_line (Get keys unique) = false
is_loud_line Stats = false
is_loud_line (Meta Metas.Noop) = true
is_loud_line (Meta meta) = false
is_loud_line command = not (is_unsaid (says_of command))

-- the line answers the command, whatever is said to its calls
abbrev pub IsFixedAnswer : Command → List ℕ → Type 0
IsFixedAnswer Version text = IsLineWith (codes "VERSION ") text
IsFixedAnswer (Verbosity quiet) text = text ≡ line (codes "OK")
IsFixedAnswer (Flush quiet) text = text ≡ line (codes "OK")
IsFixedAnswer (Fault fault quiet) text = IsErrorLine text
IsFixedAnswer (Meta Metas.Noop) text = text ≡ line (codes "MN")
IsFixedAnswer command text = ⊥
