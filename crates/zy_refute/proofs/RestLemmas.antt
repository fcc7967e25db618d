-- What is left of a value without a piece at its end or at its beginning.
use Rattle.std.specs.Prelude.{Option, None, Some, IfSome, nat_eq, MatchOption}
use Rattle.std.proofs.Common.{◌≡◌, ℕ, ◌-◌, ◌+◌, true, false, List, [], ◌∷◌, ◌++◌, length, take, drop, subst, Bor}
use Rattle.std.specs.Cmp.Lexicographic.{pointwise}
use Rattle.std.proofs.lemmas.List.Elements.{All-push}
use Rattle.zy_refute.specs.declared.observed.Observed.{Observed}
use Rattle.zy_refute.specs.declared.store.Store.{Store}
use Rattle.zy_refute.specs.declared.need.Need.{Need}
use Rattle.zy_refute.specs.Courses.{IsNeverMet}
use Rattle.zy_refute.specs.Unmet.{AreNeverMet}
use Rattle.std.proofs.lemmas.Slice.Eq.{strip_prefix_is, strip_suffix_is}
use Rattle.std.proofs.lemmas.Bool.{eqb-true, eq-eqb}

byte_decides : (a b : ℕ) → (nat_eq a b ≡ true → a ≡ b) × (a ≡ b → nat_eq a b ≡ true)
byte_decides a b = (eqb-true a b, eq-eqb a b)

pub front_left : (value piece s p : List ℕ) (r : Option (Bor (List ℕ))) → s ≡ value → p ≡ piece
    → MatchOption r (pointwise nat_eq (drop (length s - length p) s) p ≡ false) (λ x. (pointwise nat_eq (drop (length s - length p) s) p ≡ true) × (x.now ≡ take (length s - length p) s) × (length x.now + length p ≡ length s))
    → IfSome r (λ x. value ≡ x.now ++ piece)
front_left value piece s p None whole end cases = tt
front_left value piece s p (Some x) whole end cases =
    subst (λ l. value ≡ x.now ++ l) end (subst (λ l. l ≡ x.now ++ p) whole (strip_suffix_is byte_decides s p (Some x) cases))

pub back_left : (value piece s p : List ℕ) (r : Option (Bor (List ℕ))) → s ≡ value → p ≡ piece
    → MatchOption r (pointwise nat_eq (take (length p) s) p ≡ false) (λ x. (pointwise nat_eq (take (length p) s) p ≡ true) × (x.now ≡ drop (length p) s) × (length x.now + length p ≡ length s))
    → IfSome r (λ x. value ≡ piece ++ x.now)
back_left value piece s p None whole start cases = tt
back_left value piece s p (Some x) whole start cases =
    subst (λ l. value ≡ l ++ x.now) start (subst (λ l. l ≡ p ++ x.now) whole (strip_prefix_is byte_decides s p (Some x) cases))

-- one more need that is never met
pub one_more : (store : Store) (calls : List Observed) (needs : List Need) (need : Need) → AreNeverMet store calls needs → IsNeverMet store calls need.fact need.reader → AreNeverMet store calls (needs ++ need ∷ [])
one_more store calls needs need known never = All-push (λ (n : Need). IsNeverMet store calls n.fact n.reader) needs need known never
