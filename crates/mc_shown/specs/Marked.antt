-- What the answers to meta commands show. No public clause cites this module.
use Rattle.std.specs.Prelude.{◌≡◌, ℕ, Bool, ◌||◌, nat_eq, if◌then◌else◌, List, take, drop, codes}
use Rattle.std.specs.List.{starts_with}
use Rattle.mc_calls.specs.declared.call_reply.CallReply.TheVariants as Replies
use Rattle.mc_parse.specs.declared.meta.Meta.{Meta}
use Rattle.mc_parse.specs.declared.meta.Meta.TheVariants as Metas
use Rattle.mc_parse.specs.Saying.{a_found, a_stored, a_removed}
use Rattle.mc_allows.specs.declared.said.Said.{Said}
use Rattle.mc_allows.specs.declared.shown.Shown.{Shown}
use Rattle.mc_allows.specs.declared.shown.Shown.TheVariants.{Nothing, Reply, SomeHit, Failure}
use Rattle.mc_reply.specs.Line.{line}
use Rattle.mc_answers.specs.Answer.{IsMarked}
use Rattle.mc_answers.specs.Cut.{IsLine}

-- the text of what was said to the call of a meta command
abbrev pub IsMetaText : Meta → List ℕ → Said → Type 0
IsMetaText Metas.Noop text said = ⊥
IsMetaText (Metas.Get key flags) text said = IsMarked a_found key flags text said
IsMetaText (Metas.Set key call marks) text said = IsMarked a_stored key marks text said
IsMetaText (Metas.Delete key flags) text said = IsMarked a_removed key flags text said

-- a text begins with these bytes
abbrev pub begins : List ℕ → List ℕ → Bool
begins front text = starts_with nat_eq text front

-- what the answer to `mg` shows
abbrev pub found_shown : List ℕ → Shown
found_shown text =
    if begins (codes "HD") text || begins (codes "VA ") text then SomeHit else
    if begins (codes "EN") text then Reply Replies.Miss else
    Nothing

-- what the answer to `ms` shows
abbrev pub stored_shown : List ℕ → Shown
stored_shown text =
    if begins (codes "HD") text then Reply Replies.Stored else
    if begins (codes "NS") text then Reply Replies.NotStored else
    if begins (codes "EX") text then Reply Replies.Exists else
    if begins (codes "NF") text then Reply Replies.NotFound else
    if begins (codes "SERVER_ERROR") text then Failure else
    Nothing

-- what the answer to `md` shows
abbrev pub removed_shown : List ℕ → Shown
removed_shown text =
    if begins (codes "HD") text then Reply Replies.Deleted else
    if begins (codes "NF") text then Reply Replies.NotFound else
    Nothing

-- what the answer to a meta command shows
abbrev pub meta_shown : Meta → List ℕ → Shown
meta_shown Metas.Noop text = Nothing
meta_shown (Metas.Get key flags) text = found_shown text
meta_shown (Metas.Set key call marks) text = stored_shown text
meta_shown (Metas.Delete key flags) text = removed_shown text

-- the text is a line, and then this value and the end of its line
pub record EndsWithValue (text value : List ℕ) : Type 0 where
  pub length : ℕ
  pub first : IsLine (take length text)
  pub rest : drop length text ≡ line value
