-- What the words of a retrieval mean.
use Rattle.std.proofs.Common.{◌≡◌, ℕ, Bool, true, false, not, ◌&&◌, if◌then◌else◌, List, [], ◌∷◌, length, ◌<◌, refl, ap, subst, ◌∙◌, arith}
use Rattle.std.specs.List.{list_all}
use Rattle.std.specs.Prelude.{None, Some, nat_le}
use Rattle.std.proofs.lemmas.Bool.{le-leb}
use Rattle.mc_parse.specs.declared.command.Command.TheVariants.{Get as GetCommand}
use Rattle.mc_parse.specs.declared.error_line.ErrorLine.TheVariants.{Unknown, BadLine}
use Rattle.mc_parse.specs.declared.name.Name.{Name}
use Rattle.mc_parse.specs.declared.name.Name.TheVariants.{Get}
use Rattle.mc_parse.specs.declared.need.Need.TheVariants.{Nothing}
use Rattle.mc_parse.specs.Form.{gets, asks, is_key, check, find, form_with, form_after, line_form}
use Rattle.mc_parse.specs.Arity.{following}
use Rattle.mc_parse.specs.Need.{need, need_for}
use Rattle.mc_parse.specs.Meaning.{command_for, fault, IsTooLarge}
use Rattle.mc_parse.specs.Line.{IsLimited, retrieval}

found_by : (b unique : Bool) (ws : List (List ℕ)) → b ≡ true
    → find (if (b && true) && not false then Some (following ws false) else None) Unknown (λ following. form_with (Get unique) following) ≡ check (list_all is_key ws) BadLine (asks (gets ws unique) false)
found_by true unique ws is = refl
found_by false unique ws is = absurd (cc)

-- words are got, unless one is too long for a key
some_words : (unique : Bool) (word : List ℕ) (ws : List (List ℕ)) → form_after (Get unique) (word ∷ ws) ≡ check (list_all is_key (word ∷ ws)) BadLine (asks (gets (word ∷ ws) unique) false)
some_words unique word ws = found_by (nat_le 1 (length (word ∷ ws))) unique (word ∷ ws) (le-leb 1 (length (word ∷ ws)) (omega arith))

-- words that are keys are got, if there is one
pub gets_keys : (unique : Bool) (ws : List (List ℕ)) → list_all is_key ws ≡ true → command_for (form_after (Get unique) ws) ≡ retrieval ws unique
gets_keys unique [] short = refl
gets_keys unique (word ∷ ws) short =
    ap command_for (some_words unique word ws) ∙ ap (λ (b : Bool). command_for (check b BadLine (asks (gets (word ∷ ws) unique) false))) short

-- a word that is too long is a fault
pub gets_long : (unique : Bool) (ws : List (List ℕ)) → list_all is_key ws ≡ false → command_for (form_after (Get unique) ws) ≡ fault BadLine
gets_long unique [] long = absurd (cc)
gets_long unique (word ∷ ws) long =
    ap command_for (some_words unique word ws) ∙ ap (λ (b : Bool). command_for (check b BadLine (asks (gets (word ∷ ws) unique) false))) long

checked : (b : Bool) (keys : List (List ℕ)) (unique : Bool) → need_for (check b BadLine (asks (gets keys unique) false)) ≡ Nothing
checked true keys unique = refl
checked false keys unique = refl

got_nothing : (unique : Bool) (ws : List (List ℕ)) → need_for (form_after (Get unique) ws) ≡ Nothing
got_nothing unique [] = refl
got_nothing unique (word ∷ ws) = ap need_for (some_words unique word ws) ∙ checked (list_all is_key (word ∷ ws)) (word ∷ ws) unique

-- any other name than that of a retrieval
pub few_by : (name : Name) → ((unique : Bool) → name ≡ Get unique → ⊥) → IsLimited name
few_by (Get unique) other = other unique refl
few_by name other = tt

-- a line whose value is too large is no retrieval
pub large_few : (line : List ℕ) (name : Name) (ws : List (List ℕ)) → line_form line ≡ form_after name ws → IsTooLarge (need line) → IsLimited name
unfolding need
large_few line name ws is large =
    few_by name (λ unique get. subst IsTooLarge (ap need_for is ∙ ap (λ n. need_for (form_after n ws)) get ∙ got_nothing unique ws) large)

-- ---- keys, if there are any

pub retrieval_none : (keys : List (List ℕ)) (unique : Bool) → length keys ≡ 0 → retrieval keys unique ≡ fault Unknown
retrieval_none [] unique none = refl
retrieval_none (key ∷ keys) unique none = absurd (omega arith)

pub retrieval_some : (keys : List (List ℕ)) (unique : Bool) → 0 < length keys → retrieval keys unique ≡ GetCommand keys unique
retrieval_some [] unique some = absurd (omega arith)
retrieval_some (key ∷ keys) unique some = refl
