-- What was said to the call of a meta command suits what its answer shows.
use Rattle.std.proofs.Common.{◌≡◌, inl, inr, ℕ, Bool, true, false, List, [], ◌∷◌, ◌++◌, length, refl, sym, subst}
use Rattle.std.specs.Prelude.{if◌then◌else◌, codes, decimal, None, Some}
use Rattle.mc_calls.specs.declared.call_reply.CallReply.TheVariants.{Miss, Hit, Stored, NotStored, Exists, NotFound, Deleted, TooLarge}
use Rattle.mc_meta.specs.Flags.{is_among}
use Rattle.mc_parse.specs.declared.command.Command.TheVariants as Commands
use Rattle.mc_parse.specs.declared.meta.Meta.{Meta}
use Rattle.mc_parse.specs.declared.meta.Meta.TheVariants as Metas
use Rattle.mc_parse.specs.Saying.{a_found, a_stored, a_removed}
use Rattle.mc_reply.specs.Line.{line}
use Rattle.mc_reply.specs.MetaText.{has_quiet_letter, value_letter, marked, found_of}
use Rattle.mc_allows.specs.declared.said.Said.{Said}
use Rattle.mc_allows.specs.declared.said.Said.TheVariants.{Replied, Failed}
use Rattle.mc_allows.specs.declared.shown.Shown.{Shown}
use Rattle.mc_allows.specs.Needs.{Suits}
use Rattle.mc_answers.specs.Answer.{IsUnless, IsMarked, IsAnswer}
use Rattle.mc_answers.specs.Kinds.{IsMissLine}
use Rattle.mc_shown.specs.declared.part.Part.{Part}
use Rattle.mc_shown.specs.Parts.{AreSuited}
use Rattle.mc_shown.specs.Marked.{IsMetaText, found_shown, stored_shown, removed_shown, meta_shown}
use Rattle.mc_shown.proofs.ToldLemmas.{one_suited}

-- what holds of a text holds of the one that is the same
as_text : (shown : List ℕ → Shown) (said : Said) (text own : List ℕ) → text ≡ own → Suits (shown own) said → Suits (shown text) said
as_text shown said text own is suits = subst (λ (t : List ℕ). Suits (shown t) said) (sym is) suits

-- of two texts, one of which is chosen
as_chosen : (shown : List ℕ → Shown) (said : Said) (text one other : List ℕ) (test : Bool) → text ≡ (if test then one else other) → Suits (shown one) said → Suits (shown other) said → Suits (shown text) said
as_chosen shown said text one other true is first second = as_text shown said text one is first
as_chosen shown said text one other false is first second = as_text shown said text other is second

-- ---- `mg`

miss_suits : (key text : List ℕ) (quiet : Bool) → IsUnless quiet (IsMissLine key) text → Suits (found_shown text) (Replied Miss)
miss_suits key text true is = as_text found_shown (Replied Miss) text [] is tt
miss_suits key text false (inl is) = as_text found_shown (Replied Miss) text (line (codes "EN")) is refl
miss_suits key text false (inr is) = as_text found_shown (Replied Miss) text (line (codes "EN k" ++ key)) is refl

found_suits : (key flags text : List ℕ) (said : Said) → IsMarked a_found key flags text said → Suits (found_shown text) said
found_suits key flags text (Replied (Hit f u v)) is =
    as_chosen found_shown (Replied (Hit f u v)) text (marked (codes "VA " ++ decimal (length v)) key (Some (found_of f u v)) flags ++ line v) (marked (codes "HD") key (Some (found_of f u v)) flags)
    (is_among flags value_letter) is tt tt
found_suits key flags text (Replied Miss) is = miss_suits key text (has_quiet_letter flags) is
found_suits key flags text (Replied reply) is = as_text found_shown (Replied reply) text [] is tt
found_suits key flags text Failed is = as_text found_shown Failed text _ is.is refl

-- ---- `ms`

stored_suits : (key marks text : List ℕ) (said : Said) → IsMarked a_stored key marks text said → Suits (stored_shown text) said
stored_suits key marks text (Replied Stored) is = as_chosen stored_shown (Replied Stored) text [] (marked (codes "HD") key None marks) (has_quiet_letter marks) is tt refl
stored_suits key marks text (Replied NotStored) is = as_text stored_shown (Replied NotStored) text _ is refl
stored_suits key marks text (Replied Exists) is = as_text stored_shown (Replied Exists) text _ is refl
stored_suits key marks text (Replied NotFound) is = as_text stored_shown (Replied NotFound) text _ is refl
stored_suits key marks text (Replied TooLarge) is = as_text stored_shown (Replied TooLarge) text _ is refl
stored_suits key marks text (Replied reply) is = as_text stored_shown (Replied reply) text [] is tt
stored_suits key marks text Failed is = as_text stored_shown Failed text _ is.is refl

-- ---- `md`

removed_suits : (key flags text : List ℕ) (said : Said) → IsMarked a_removed key flags text said → Suits (removed_shown text) said
removed_suits key flags text (Replied Deleted) is = as_chosen removed_shown (Replied Deleted) text [] (marked (codes "HD") key None flags) (has_quiet_letter flags) is tt refl
removed_suits key flags text (Replied NotFound) is = as_chosen removed_shown (Replied NotFound) text [] (marked (codes "NF") key None flags) (has_quiet_letter flags) is tt refl
removed_suits key flags text (Replied reply) is = as_text removed_shown (Replied reply) text [] is tt
removed_suits key flags text Failed is = as_text removed_shown Failed text _ is.is refl

-- ---- all of them

pub meta_suits : (meta : Meta) (text : List ℕ) (said : Said) → IsMetaText meta text said → Suits (meta_shown meta text) said
meta_suits Metas.Noop text said is = absurd is
meta_suits (Metas.Get key flags) text said is = found_suits key flags text said is
meta_suits (Metas.Set key call marks) text said is = stored_suits key marks text said is
meta_suits (Metas.Delete key flags) text said is = removed_suits key flags text said is

pub meta_suited : (meta : Meta) (text : List ℕ) (saids : List Said) (part : Part) → IsAnswer (Commands.Meta meta) saids text → ((said : Said) → IsMetaText meta text said → Suits part.shown said) → AreSuited (part ∷ []) saids
meta_suited Metas.Noop text saids part answer suits = subst (AreSuited (part ∷ [])) (sym answer.fit) (λ i found said part_is said_is. absurd (cc))
meta_suited (Metas.Get key flags) text saids part answer suits = one_suited (IsMetaText (Metas.Get key flags) text) saids part answer.text suits
meta_suited (Metas.Set key call marks) text saids part answer suits = one_suited (IsMetaText (Metas.Set key call marks) text) saids part answer.text suits
meta_suited (Metas.Delete key flags) text saids part answer suits = one_suited (IsMetaText (Metas.Delete key flags) text) saids part answer.text suits
