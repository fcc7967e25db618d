-- The answers to meta commands that are written are answers.
use Rattle.std.proofs.Common.{◌≡◌, inl, ℕ, Bool, true, false, List, [], ◌∷◌, take, refl, ap, sym, ◌∙◌, subst}
use Rattle.std.specs.Prelude.{codes, Option, None, Some}
use Rattle.mc_calls.specs.declared.call_reply.CallReply.{CallReply}
use Rattle.mc_calls.specs.declared.call_reply.CallReply.TheVariants.{Miss}
use Rattle.mc_parse.specs.declared.command.Command.{Command}
use Rattle.mc_parse.specs.declared.command.Command.TheVariants as Commands
use Rattle.mc_parse.specs.declared.meta.Meta.{Meta}
use Rattle.mc_parse.specs.declared.meta.Meta.TheVariants as Metas
use Rattle.mc_parse.specs.Deed.{says_of}
use Rattle.mc_reply.specs.Line.{line, unless}
use Rattle.mc_reply.specs.MetaText.{has_quiet_letter}
use Rattle.mc_reply.specs.Text.{text}
use Rattle.mc_allows.specs.declared.said.Said.{Said}
use Rattle.mc_allows.specs.declared.said.Said.TheVariants.{Replied}
use Rattle.mc_answers.specs.Answer.{IsUnless, IsTextOf, IsAnswer}
use Rattle.mc_answers.specs.Kinds.{IsMissLine}
use Rattle.mc_answers.specs.Said.{FitsCommand}
use Rattle.mc_answered.specs.Marked.{IsLoud}
use Rattle.mc_answered.specs.With.{IsFound}

-- ---- what is written

missed : (quiet : Bool) (key : List ℕ) → quiet ≡ false → IsUnless quiet (IsMissLine key) (unless quiet (line (codes "EN")))
missed true key is = absurd (cc)
missed false key is = inl refl

-- what is written is the text of what was said
pub written_is : (meta : Meta) (reply : CallReply) → IsLoud meta → IsTextOf (says_of (Commands.Meta meta)) (Replied reply ∷ []) (text (Commands.Meta meta) (reply ∷ []))
unfolding text
written_is Metas.Noop reply loud = absurd loud
written_is (Metas.Get key flags) Miss loud = missed (has_quiet_letter flags) key loud
written_is (Metas.Get key flags) reply loud = refl
written_is (Metas.Set key call marks) reply loud = refl
written_is (Metas.Delete key flags) reply loud = refl

said_answer : (meta : Meta) (reply : CallReply) (bytes : List ℕ) → IsLoud meta → FitsCommand (Commands.Meta meta) (Replied reply ∷ []) → bytes ≡ text (Commands.Meta meta) (reply ∷ []) → IsAnswer (Commands.Meta meta) (Replied reply ∷ []) bytes
said_answer meta reply bytes loud may is = record {
  fit = may;
  text = subst (IsTextOf (says_of (Commands.Meta meta)) (Replied reply ∷ [])) (sym is) (written_is meta reply loud);
}

-- a length that is found of what is written is that of an answer
pub written_found : (command : Command) (meta : Meta) (said : Said) (reply : CallReply) (bytes : List ℕ) (found : Option ℕ) → command ≡ Commands.Meta meta → IsLoud meta → FitsCommand (Commands.Meta meta) (said ∷ []) → said ≡ Replied reply
    → IsFound (λ (t : List ℕ). t ≡ text command (reply ∷ [])) bytes found → IsFound (IsAnswer command (said ∷ [])) bytes found
written_found command meta said reply bytes None same loud may is one = tt
written_found command meta said reply bytes (Some n) same loud may is one =
    let answer = said_answer meta reply (take n bytes) loud (subst (λ (s : Said). FitsCommand (Commands.Meta meta) (s ∷ [])) is may) (one.1 ∙ ap (λ (c : Command). text c (reply ∷ [])) same) in
    (one.0, subst (λ (c : Command). IsAnswer c (said ∷ []) (take n bytes)) (sym same) (subst (λ (s : Said). IsAnswer (Commands.Meta meta) (s ∷ []) (take n bytes)) (sym is) answer))
