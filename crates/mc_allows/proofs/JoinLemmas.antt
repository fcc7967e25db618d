-- What a call that joined a piece joined it to.
use Rattle.std.specs.Prelude.{Option, None, Some, nat_eq}
use Rattle.std.proofs.Common.{◌≡◌, ◌⊎◌, inl, inr, ℕ, true, false, List, ◌++◌, refl, sym, ◌∙◌, subst}
use Rattle.std.proofs.lemmas.Bool.{and_parts, and_from, eqb-true, eq-eqb}
use Rattle.mc_calls.specs.declared.item.Item.{Item}
use Rattle.mc_allows.specs.declared.said.Said.TheVariants.{Replied, Failed}
use Rattle.mc_allows.specs.declared.fact.Fact.{Fact}
use Rattle.mc_allows.specs.declared.fact.Fact.TheVariants as Facts
use Rattle.mc_allows.specs.Allows.{HasItem}
use Rattle.mc_allows.specs.Facts.{is_same_value, holds_without, holds}
use Rattle.mc_allows.specs.Turns.{with_value, SaysValue, AppendsToRest, PrependsToRest}
use Rattle.mc_allows.proofs.BesideLemmas.{same_value, equal_value}
use Rattle.mc_allows.proofs.MakeLemmas.{both_so}

unchanged : {A : Type 0} (fact : Fact) (before after : Option Item) → after ≡ before → holds fact before ≡ false → holds fact after ≡ true → A
unchanged fact before after is fails held = both_so (holds fact before) fails (subst (λ f. holds fact f ≡ true) is held)

without : {A : Type 0} (fact : Fact) (value : List ℕ) → SaysValue fact value → holds_without fact ≡ true → A
without (Facts.Item flags own) value says held = absurd (cc)
without (Facts.Value own) value says held = absurd (cc)
without fact value says held = absurd says

failed_to : {A : Type 0} (fact : Fact) (value : List ℕ) → SaysValue fact value → (before after : Option Item) → (after ≡ before) ⊎ (after ≡ None) → holds fact before ≡ false → holds fact after ≡ true → A
failed_to fact value says before after (inl same) fails held = unchanged fact before after same fails held
failed_to fact value says before after (inr none) fails held = without fact value says (subst (λ f. holds fact f ≡ true) none held)

-- a value that was stored is the one that is said, and the item that it was joined to had the same flags
joined_to : (fact : Fact) (value : List ℕ) → SaysValue fact value → (i : Item) (whole : List ℕ) (after : Option Item) → HasItem i.flags whole after → holds fact after ≡ true
    → (value ≡ whole) × (holds (with_value fact i.value) (Some i) ≡ true)
joined_to fact value says i whole None has held = absurd has
joined_to (Facts.Item flags own) value says i whole (Some j) has held =
    let parts = and_parts (nat_eq flags j.flags) (is_same_value own j.value) held in
    (sym says ∙ same_value own j.value parts.1 ∙ has.1, and_from (nat_eq flags i.flags) _ (eq-eqb flags i.flags (eqb-true flags j.flags parts.0 ∙ has.0)) (equal_value i.value i.value refl))
joined_to (Facts.Value own) value says i whole (Some j) has held = (sym says ∙ same_value own j.value held ∙ has.1, equal_value i.value i.value refl)
joined_to fact value says i whole (Some j) has held = absurd says

pub appends_to_rest : AppendsToRest
appends_to_rest fact value says before key piece Failed after done fails held = failed_to fact value says before after done.1 fails held
appends_to_rest fact value says None key piece (Replied reply) after done fails held = unchanged fact None after done.1 fails held
appends_to_rest fact value says (Some i) key piece (Replied reply) after (inl done) fails held =
    let parts = joined_to fact value says i (i.value ++ piece) after done.1 held in (i.value, parts.0, parts.1)
appends_to_rest fact value says (Some i) key piece (Replied reply) after (inr done) fails held = unchanged fact (Some i) after done.1 fails held

pub prepends_to_rest : PrependsToRest
prepends_to_rest fact value says before key piece Failed after done fails held = failed_to fact value says before after done.1 fails held
prepends_to_rest fact value says None key piece (Replied reply) after done fails held = unchanged fact None after done.1 fails held
prepends_to_rest fact value says (Some i) key piece (Replied reply) after (inl done) fails held =
    let parts = joined_to fact value says i (piece ++ i.value) after done.1 held in (i.value, parts.0, parts.1)
prepends_to_rest fact value says (Some i) key piece (Replied reply) after (inr done) fails held = unchanged fact (Some i) after done.1 fails held
