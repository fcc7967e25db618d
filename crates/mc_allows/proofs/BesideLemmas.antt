-- Two facts that hold of the same item may hold beside each other.
use Rattle.std.specs.Prelude.{Option, None, Some, nat_eq}
use Rattle.std.proofs.Common.{◌≡◌, ℕ, true, List, refl, sym, ap, ◌∙◌, subst}
use Rattle.std.specs.List.{starts_with, ends_with}
use Rattle.std.specs.Cmp.Lexicographic.{bytes_decides}
use Rattle.std.proofs.lemmas.Bool.{and_parts, eqb-true, eq-eqb}
use Rattle.mc_calls.specs.declared.item.Item.{Item}
use Rattle.mc_allows.specs.declared.fact.Fact.{Fact}
use Rattle.mc_allows.specs.declared.fact.Fact.TheVariants as Facts
use Rattle.mc_allows.specs.Values.{padded_number}
use Rattle.mc_allows.specs.Facts.{is_same_value, is_this_number, is_of, holds_without, holds, may_hold, may_hold_of_value, may_hold_of_number, may_hold_of_ending, may_hold_of_beginning, may_hold_beside}
use Rattle.mc_allows.proofs.NumberTextLemmas.{only_number}

-- ---- values and numbers

pub same_value : (value other : List ℕ) → is_same_value value other ≡ true → value ≡ other
same_value value other is = (bytes_decides value other).0 is

pub equal_value : (value other : List ℕ) → value ≡ other → is_same_value value other ≡ true
equal_value value other is = (bytes_decides value other).1 is

pub this_number : (own : Option ℕ) (n : ℕ) → is_this_number own n ≡ true → own ≡ Some n
this_number None n is = absurd (cc)
this_number (Some own) n is = ap Some (eqb-true own n is)

pub equal_number : (own : Option ℕ) (n : ℕ) → own ≡ Some n → is_this_number own n ≡ true
equal_number own n is = subst (λ o. is_this_number o n ≡ true) (sym is) (eq-eqb n n refl)

-- ---- a fact of an item

some_item : (fact : Fact) (flags : ℕ) (value : List ℕ) → is_of fact flags value ≡ true → may_hold fact ≡ true
some_item Facts.Never flags value is = is
some_item Facts.Absent flags value is = is
some_item fact flags value is = refl

of_value : (fact : Fact) (flags : ℕ) (value : List ℕ) → is_of fact flags value ≡ true → may_hold_of_value fact value ≡ true
of_value (Facts.Item own bytes) flags value is = (and_parts (nat_eq own flags) (is_same_value bytes value) is).1
of_value Facts.Unknown flags value is = is
of_value Facts.Never flags value is = is
of_value Facts.Absent flags value is = is
of_value Facts.Present flags value is = is
of_value (Facts.Value bytes) flags value is = is
of_value (Facts.Number number) flags value is = is
of_value (Facts.Counted number) flags value is = is
of_value (Facts.Ending piece) flags value is = is
of_value (Facts.Beginning piece) flags value is = is

of_number : (fact : Fact) (flags : ℕ) (value : List ℕ) (n : ℕ) → padded_number value ≡ Some n → is_of fact flags value ≡ true → may_hold_of_number fact n ≡ true
of_number (Facts.Item own bytes) flags value n number is =
    equal_number (padded_number bytes) n (ap padded_number (same_value bytes value (and_parts (nat_eq own flags) (is_same_value bytes value) is).1) ∙ number)
of_number (Facts.Value bytes) flags value n number is = equal_number (padded_number bytes) n (ap padded_number (same_value bytes value is) ∙ number)
of_number (Facts.Number own) flags value n number is = eq-eqb own n (sym (only_number value own n number is))
of_number (Facts.Counted own) flags value n number is = eq-eqb own n (sym (only own n (sym number ∙ this_number (padded_number value) own is)))
  where
    only : (own n : ℕ) → Some n ≡ Some own → n ≡ own
    only own n same = cc
of_number Facts.Unknown flags value n number is = is
of_number Facts.Never flags value n number is = is
of_number Facts.Absent flags value n number is = is
of_number Facts.Present flags value n number is = is
of_number (Facts.Ending piece) flags value n number is = refl
of_number (Facts.Beginning piece) flags value n number is = refl

of_ending : (fact : Fact) (flags : ℕ) (value piece : List ℕ) → ends_with nat_eq value piece ≡ true → is_of fact flags value ≡ true → may_hold_of_ending fact piece ≡ true
of_ending (Facts.Item own bytes) flags value piece ends is =
    subst (λ v. ends_with nat_eq v piece ≡ true) (sym (same_value bytes value (and_parts (nat_eq own flags) (is_same_value bytes value) is).1)) ends
of_ending (Facts.Value bytes) flags value piece ends is = subst (λ v. ends_with nat_eq v piece ≡ true) (sym (same_value bytes value is)) ends
of_ending Facts.Never flags value piece ends is = is
of_ending Facts.Absent flags value piece ends is = is
of_ending fact flags value piece ends is = refl

of_beginning : (fact : Fact) (flags : ℕ) (value piece : List ℕ) → starts_with nat_eq value piece ≡ true → is_of fact flags value ≡ true → may_hold_of_beginning fact piece ≡ true
of_beginning (Facts.Item own bytes) flags value piece starts is =
    subst (λ v. starts_with nat_eq v piece ≡ true) (sym (same_value bytes value (and_parts (nat_eq own flags) (is_same_value bytes value) is).1)) starts
of_beginning (Facts.Value bytes) flags value piece starts is = subst (λ v. starts_with nat_eq v piece ≡ true) (sym (same_value bytes value is)) starts
of_beginning Facts.Never flags value piece starts is = is
of_beginning Facts.Absent flags value piece starts is = is
of_beginning fact flags value piece starts is = refl

-- ---- two facts

beside_item : (left fact : Fact) (flags : ℕ) (value : List ℕ) → is_of left flags value ≡ true → is_of fact flags value ≡ true → may_hold_beside left fact ≡ true
beside_item Facts.Unknown fact flags value left is = refl
beside_item Facts.Never fact flags value left is = refl
beside_item Facts.Absent fact flags value left is = absurd (cc)
beside_item Facts.Present fact flags value left is = some_item fact flags value is
beside_item (Facts.Item own bytes) fact flags value left is =
    let parts = and_parts (nat_eq own flags) (is_same_value bytes value) left in
    subst (λ f. is_of fact f bytes ≡ true) (sym (eqb-true own flags parts.0)) (subst (λ v. is_of fact flags v ≡ true) (sym (same_value bytes value parts.1)) is)
beside_item (Facts.Value bytes) fact flags value left is = subst (λ v. may_hold_of_value fact v ≡ true) (sym (same_value bytes value left)) (of_value fact flags value is)
beside_item (Facts.Number number) fact flags value left is = some_item fact flags value is
beside_item (Facts.Counted number) fact flags value left is = of_number fact flags value number (this_number (padded_number value) number left) is
beside_item (Facts.Ending piece) fact flags value left is = of_ending fact flags value piece left is
beside_item (Facts.Beginning piece) fact flags value left is = of_beginning fact flags value piece left is

beside_none : (left fact : Fact) → holds_without left ≡ true → holds_without fact ≡ true → may_hold_beside left fact ≡ true
beside_none Facts.Unknown fact left is = refl
beside_none Facts.Absent fact left is = is
beside_none Facts.Never fact left is = absurd (cc)
beside_none Facts.Present fact left is = absurd (cc)
beside_none (Facts.Item own bytes) fact left is = absurd (cc)
beside_none (Facts.Value bytes) fact left is = absurd (cc)
beside_none (Facts.Number number) fact left is = absurd (cc)
beside_none (Facts.Counted number) fact left is = absurd (cc)
beside_none (Facts.Ending piece) fact left is = absurd (cc)
beside_none (Facts.Beginning piece) fact left is = absurd (cc)

-- facts that hold of the same may hold beside each other
pub beside : (left fact : Fact) (found : Option Item) → holds left found ≡ true → holds fact found ≡ true → may_hold_beside left fact ≡ true
beside left fact None held is = beside_none left fact held is
beside left fact (Some i) held is = beside_item left fact i.flags i.value held is
