-- Commands that are not followed, behind the answers of a session. No public clause cites this module.
use Rattle.std.specs.Prelude.{◌≡◌, ℕ, ◌+◌, ◌<◌, ◌≤◌, nat_le, Bool, true, false, not, ◌&&◌, ◌||◌}
use Rattle.std.specs.Prelude.{List, length, Option, None, Some}
use Rattle.std.specs.List.{slice_get}
use Rattle.mc_parse.specs.declared.command.Command.{Command}
use Rattle.mc_parse.specs.declared.command.Command.TheVariants.{Fault, Meta}
use Rattle.mc_parse.specs.declared.meta.Meta.TheVariants as Metas
use Rattle.mc_reply.specs.MetaText.{has_quiet_letter}
use Rattle.mc_kind.specs.declared.cutting.Cutting.{Cutting}
use Rattle.mc_kind.specs.declared.cutting.Cutting.TheVariants.{Kind, Surplus, Other, All, Front}
use Rattle.mc_kind.specs.Cutting.{IsCutting}

-- ---- one command

-- the answer to the command may be hidden
abbrev pub may_be_hidden : Command → Bool
may_be_hidden (Meta (Metas.Get key flags)) = has_quiet_letter flags
may_be_hidden (Meta (Metas.Set key call marks)) = has_quiet_letter marks
may_be_hidden (Meta (Metas.Delete key flags)) = has_quiet_letter flags
may_be_hidden command = false

-- the command has a fault and asks for an answer
abbrev pub is_loud_fault : Command → Bool
is_loud_fault (Fault line quiet) = not quiet
is_loud_fault command = false

-- the command with this index is not followed, if those from `silent` on have no answer
abbrev pub is_unfollowed : ℕ → ℕ → Command → Bool
is_unfollowed silent index command = may_be_hidden command || nat_le silent index && is_loud_fault command

-- ---- the first of them

-- the commands from one index up to another are followed
abbrev pub AreFollowed : List Command → ℕ → ℕ → ℕ → Type 0
AreFollowed commands silent from end = (index : ℕ) (command : Command) → from ≤ index → index < end
    → slice_get commands index ≡ Some command → is_unfollowed silent index command ≡ false

-- the command with this index is the first one from another index on that is not followed
pub record IsFirstOtherAt (commands : List Command) (silent from index : ℕ) : Type 0 where
  pub command : Command
  pub is : slice_get commands index ≡ Some command
  pub late : from ≤ index
  pub unfollowed : is_unfollowed silent index command ≡ true
  pub before : AreFollowed commands silent from index

-- the first command from an index on that is not followed is found, if there is one
abbrev pub IsFirstOther : List Command → ℕ → ℕ → Option ℕ → Type 0
IsFirstOther commands silent from None = AreFollowed commands silent from (length commands)
IsFirstOther commands silent from (Some index) = IsFirstOtherAt commands silent from index

-- ---- behind answers

-- the first command behind the answers that is not followed is found: what follows a refuted answer is not known to be
-- none, and the first command without an answer may have the beginning of one
abbrev pub IsOtherBehind : List Command → Cutting → Option ℕ → Type 0
IsOtherBehind commands (Kind index) found = IsFirstOther commands (length commands) index found
IsOtherBehind commands (All texts) found = IsFirstOther commands (length texts) (length texts) found
IsOtherBehind commands (Front texts) found = IsFirstOther commands (length texts + 1) (length texts) found
IsOtherBehind commands cutting found = found ≡ None

-- a command that is not followed comes before all that is found else
abbrev pub other_or : Option ℕ → Cutting → Cutting
other_or None cutting = cutting
other_or (Some index) cutting = Other index

-- what is found of the output, unless a command behind its answers is not followed
pub record IsFollowedCutting (commands : List Command) (output : List ℕ) (result : Cutting) : Type 0 where
  pub cutting : Cutting
  pub is : IsCutting commands output cutting
  pub found : Option ℕ
  pub behind : IsOtherBehind commands cutting found
  pub result_is : result ≡ other_or found cutting
