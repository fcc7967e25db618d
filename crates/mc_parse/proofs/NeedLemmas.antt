-- A line with a name that takes no block, and does not end the connection, needs nothing.
use Rattle.std.proofs.Common.{◌≡◌, ℕ, Bool, true, false, List, refl}
use Rattle.std.specs.Prelude.{Option, None, Some, IfSome}
use Rattle.mc_parse.specs.declared.error_line.ErrorLine.{ErrorLine}
use Rattle.mc_parse.specs.declared.error_line.ErrorLine.TheVariants.{Unknown}
use Rattle.mc_parse.specs.declared.name.Name.{Name}
use Rattle.mc_parse.specs.declared.name.Name.TheVariants.{Store, Cas, Quit}
use Rattle.mc_parse.specs.declared.verb.Verb.{Verb}
use Rattle.mc_parse.specs.declared.need.Need.TheVariants.{Nothing}
use Rattle.mc_parse.specs.Arity.{following_of}
use Rattle.mc_parse.specs.Name.{arity_of}
use Rattle.mc_parse.specs.Form.{Ask, asks, Form, check, find, ask_of, number_fault, form_with, form_after}
use Rattle.mc_parse.specs.Need.{need_for, takes_more}
use Rattle.mc_parse.proofs.AskLemmas.{Reads, reads}

-- what is found, or its fault, needs nothing
found : {A : Type 0} (o : Option A) (fault : ErrorLine) (form : A → Form) → ((x : A) → need_for (form x) ≡ Nothing) → need_for (find o fault form) ≡ Nothing
found None fault form each = refl
found (Some x) fault form each = each x

-- what is checked, or its fault, needs nothing
checked : (b : Bool) (fault : ErrorLine) (form : Form) → need_for form ≡ Nothing → need_for (check b fault form) ≡ Nothing
checked true fault form is = is
checked false fault form is = refl

asked : (name : Name) (words : List (List ℕ)) (ask : Option Ask) (fault : ErrorLine) (quiet : Bool) → takes_more name ≡ false → IfSome ask (Reads name words) → need_for (find ask fault (λ a. asks a quiet)) ≡ Nothing
asked name words None fault quiet plain reads = refl
asked name words (Some ask) fault quiet plain reads = reads.needs plain

pub needs_nothing : (name : Name) (words : List (List ℕ)) → takes_more name ≡ false → need_for (form_after name words) ≡ Nothing
needs_nothing name words plain =
    found (following_of (arity_of name) words) Unknown (form_with name) (λ following. checked _ _ _ (asked name following.words (ask_of name following.words) (number_fault name) following.quiet plain (reads name following.words)))

-- the same, where the name is none of those that may need something
pub others_need : (name : Name) (words : List (List ℕ)) → ((verb : Verb) → name ≡ Store verb → ⊥) → (name ≡ Cas → ⊥) → (name ≡ Quit → ⊥)
    → need_for (form_after name words) ≡ Nothing
others_need (Store verb) words store cas quit = absurd (store verb refl)
others_need Cas words store cas quit = absurd (cas refl)
others_need Quit words store cas quit = absurd (quit refl)
others_need name words store cas quit = needs_nothing name words refl
