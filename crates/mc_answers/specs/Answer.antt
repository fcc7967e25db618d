-- The bytes with which a memcached may answer a command: the text of docs/PROFILE.md, "Answers", for what was said to
-- the command's calls, but that items stand in any order, and that a server has its own texts for the version, for
-- faults and for counts.
use Rattle.std.specs.Prelude.{◌≡◌, ℕ, Bool, true, false, List, [], ◌∷◌, ◌++◌, codes, IsPermutation, ⊤}
use Rattle.std.specs.List.{concat, AllByRecursion}
use Rattle.mc_calls.specs.declared.call_kind.CallKind.{CallKind}
use Rattle.mc_calls.specs.declared.call_kind.CallKind.TheVariants.{Set as SetKind, Add, Replace, Append, Prepend, Cas}
use Rattle.mc_calls.specs.declared.call_kind.CallKind.TheVariants.{Get as GetKind, Flush as FlushKind}
use Rattle.mc_calls.specs.declared.call_kind.CallKind.TheVariants.{Tally as TallyKind}
use Rattle.mc_calls.specs.declared.call_reply.CallReply.TheVariants.{Hit, Miss}
use Rattle.mc_calls.specs.Code.{call_kind}
use Rattle.mc_parse.specs.declared.command.Command.{Command}
use Rattle.mc_parse.specs.declared.command.Command.TheVariants.{Get, Fault, Meta}
use Rattle.mc_parse.specs.declared.error_line.ErrorLine.TheVariants.{TooLarge}
use Rattle.mc_parse.specs.declared.meta.Meta.TheVariants as Metas
use Rattle.mc_parse.specs.Deed.{says_of}
use Rattle.mc_parse.specs.Saying.{Fixed, the_version, has_fault}
use Rattle.mc_parse.specs.Saying.{About, a_found}
use Rattle.mc_parse.specs.Saying.{Saying, says_reply, says_items, says_counts, says_line, says_marks}
use Rattle.mc_reply.specs.Text.{line, reply_line, fixed_line, item_text}
use Rattle.mc_reply.specs.MetaText.{has_quiet_letter, about_text}
use Rattle.mc_allows.specs.declared.said.Said.{Said}
use Rattle.mc_allows.specs.declared.said.Said.TheVariants.{Replied, Failed}
use Rattle.mc_answers.specs.Cut.{IsSeries, IsWord, IsOfLine}
use Rattle.mc_answers.specs.Kinds.{IsLineWith, IsErrorLine, IsServerError, IsEndText, IsMissLine}
use Rattle.mc_answers.specs.Said.{IsOne, FitsCommand}

-- ---- parts

-- a text of this kind, or nothing if no answer is requested
abbrev pub IsUnless : Bool → (List ℕ → Type 0) → List ℕ → Type 0
IsUnless true IsText bytes = bytes ≡ []
IsUnless false IsText bytes = IsText bytes

-- the line of what was said to the one call
abbrev pub IsReplyLine : List ℕ → Said → Type 0
IsReplyLine bytes (Replied reply) = bytes ≡ reply_line reply
IsReplyLine bytes Failed = IsServerError bytes

-- the texts of the items that were found, in the order of the keys
abbrev pub found_items : Bool → List (List ℕ) → List Said → List (List ℕ)
found_items asked (key ∷ keys) (Replied (Hit flags unique value) ∷ saids) =
    item_text asked key (Hit flags unique value) ∷ found_items asked keys saids
found_items asked (key ∷ keys) (said ∷ saids) = found_items asked keys saids
found_items asked keys saids = []

-- the texts of these items in any order, and the end
pub record IsListing (found : List (List ℕ)) (bytes : List ℕ) : Type 0 where
  pub items : List (List ℕ)
  pub order : IsPermutation found items
  pub is : bytes ≡ concat items ++ line (codes "END")

-- any counts, and the end
abbrev pub IsCounts : List ℕ → Type 0
IsCounts bytes = IsSeries (IsLineWith (codes "STAT ")) IsEndText bytes

-- a line that does not depend on a reply; the version and a fault are in the server's own words
abbrev pub IsFixedLine : Fixed → List ℕ → Type 0
IsFixedLine the_version bytes = IsLineWith (codes "VERSION ") bytes
IsFixedLine (has_fault fault) bytes = IsErrorLine bytes
IsFixedLine fixed bytes = bytes ≡ fixed_line fixed

-- the text of what was said to the call of a meta command
abbrev pub IsMarked : About → List ℕ → List ℕ → List ℕ → Said → Type 0
IsMarked a_found key letters bytes (Replied Miss) = IsUnless (has_quiet_letter letters) (IsMissLine key) bytes
IsMarked about key letters bytes (Replied reply) = bytes ≡ about_text about key letters reply
IsMarked about key letters bytes Failed = IsServerError bytes

-- ---- answers

-- the text of an answer, with what was said to the command's calls
abbrev pub IsTextOf : Saying → List Said → List ℕ → Type 0
IsTextOf (says_reply true) saids bytes = bytes ≡ []
IsTextOf (says_reply false) saids bytes = IsOne (IsReplyLine bytes) saids
IsTextOf (says_items keys asked) saids bytes = IsListing (found_items asked keys saids) bytes
IsTextOf says_counts saids bytes = IsCounts bytes
IsTextOf (says_line fixed quiet) saids bytes = IsUnless quiet (IsFixedLine fixed) bytes
IsTextOf (says_marks about key letters) saids bytes = IsOne (IsMarked about key letters bytes) saids

-- the bytes answer the command, if this was said to its calls
pub record IsAnswer (command : Command) (saids : List Said) (bytes : List ℕ) : Type 0 where
  pub fit : FitsCommand command saids
  pub text : IsTextOf (says_of command) saids bytes

-- the bytes answer the command, whatever was said to its calls
pub record IsSomeAnswer (command : Command) (bytes : List ℕ) : Type 0 where
  pub saids : List Said
  pub answer : IsAnswer command saids bytes

-- some answer to each command
abbrev pub AreSomeAnswers : List Command → List (List ℕ) → Type 0
AreSomeAnswers [] [] = ⊤
AreSomeAnswers (command ∷ commands) (text ∷ texts) = IsSomeAnswer command text × AreSomeAnswers commands texts
AreSomeAnswers commands texts = ⊥

-- ---- commands whose answers are cut in one way

-- a meta command with the flag `q`, whose answer may be hidden, or a value that is too large: memcached may treat it
-- in ways that are not followed here
abbrev pub is_other : Command → Bool
is_other (Meta (Metas.Get key flags)) = has_quiet_letter flags
is_other (Meta (Metas.Set key call marks)) = has_quiet_letter marks
is_other (Meta (Metas.Delete key flags)) = has_quiet_letter flags
is_other (Fault TooLarge quiet) = true
is_other command = false

-- a call of this kind is made by a command that is answered by the line of its one reply
abbrev pub lined : CallKind → Bool
lined GetKind = false
lined FlushKind = false
lined TallyKind = false
lined kind = true

-- a call of this kind stores a value
abbrev pub stores : CallKind → Bool
stores SetKind = true
stores Add = true
stores Replace = true
stores Append = true
stores Prepend = true
stores Cas = true
stores kind = false

-- as a line says it: the keys of a `get` are words, the key of a meta command has no line feed, and the call of `ms`
-- stores
abbrev pub IsFromLine : Command → Type 0
IsFromLine (Get keys unique) = AllByRecursion IsWord keys
IsFromLine (Meta (Metas.Get key flags)) = IsOfLine key
IsFromLine (Meta (Metas.Set key call marks)) = IsOfLine key × (stores (call_kind call) ≡ true)
IsFromLine (Meta (Metas.Delete key flags)) = IsOfLine key
IsFromLine command = ⊤

-- a line gave the command, and it is not one that is not followed here
pub record IsCuttable (command : Command) : Type 0 where
  pub said : IsFromLine command
  pub plain : is_other command ≡ false
