-- What is counted over records, from moment to moment.
use Rattle.std.proofs.Common.{◌≡◌, ℕ, ◌+◌, ◌≤◌, List, [], ◌∷◌, ◌++◌, length, take, replicate, sym, ap, ◌∙◌, subst, arith}
use Rattle.std.proofs.lemmas.List.{length-append, take_all, take-append-le}
use mathlib.Core.Logic.{dite}
use native.Mathlib.Decide.{dec_lt}
use Rattle.zy_capture.specs.declared.record.Record.{Record}
use Rattle.zy_check.proofs.ListLemmas.{there, take_one}
use Rattle.zy_times.specs.First.{AreRises, Grows}
use Rattle.zy_times.proofs.FirstLemmas.{rises_more, rises_same}

module _ (count : List Record → ℕ) (rises : (records : List Record) (r : Record) → count records ≤ count (records ++ r ∷ [])) where
  -- the count never falls
  pub count_grows : (records : List Record) → Grows (λ m. count (take m records))
  count_grows records m = dite (dec_lt m (length records))
      (λ low.
      let at = there records m low in
      subst (λ (l : List Record). count (take m records) ≤ count l) (sym (take_one records m at.0 at.1)) (rises (take m records) at.0))
      (λ high.
      let now = ap count (take_all m records (omega arith)) in
      let next = ap count (take_all (m + 1) records (omega arith)) in
      omega (arith, now, next))

  -- and it stays behind the last record
  pub count_stays : (records : List Record) (moment : ℕ) → length records ≤ moment → count (take moment records) ≡ count (take (length records) records)
  count_stays records moment past = ap count (take_all moment records past) ∙ sym (ap count (take_all (length records) records (omega arith)))

  module _ (records : List Record) (r : Record) where
    same : (moment : ℕ) → moment ≤ length records → count (take moment records) ≡ count (take moment (records ++ r ∷ []))
    same moment within = ap count (sym (take-append-le moment records (r ∷ []) within))

    size : length (records ++ r ∷ []) ≡ length records + 1
    size = length-append records (r ∷ [])

    whole : count (take (length records) records) ≡ count records
    whole = ap count (take_all (length records) records (omega arith))

    next : count (take (length records + 1) (records ++ r ∷ [])) ≡ count (records ++ r ∷ [])
    next = let long = size in ap count (take_all (length records + 1) (records ++ r ∷ []) (omega (arith, long)))

    -- the next record brought some
    pub counts_more : (k : ℕ) (moments : List ℕ) → count (records ++ r ∷ []) ≡ count records + k → AreRises (λ m. count (take m records)) (length records) moments
        → AreRises (λ m. count (take m (records ++ r ∷ []))) (length (records ++ r ∷ [])) (moments ++ replicate k (length records + 1))
    counts_more k moments is are =
        let one = whole in
        let two = next in
        subst (λ (n : ℕ). AreRises (λ m. count (take m (records ++ r ∷ []))) n (moments ++ replicate k (length records + 1))) (sym size)
        (rises_more (λ m. count (take m records)) (λ m. count (take m (records ++ r ∷ []))) (length records) same k moments (count_grows (records ++ r ∷ [])) (omega (arith, one, two, is)) are)

    -- the next record brought none
    pub counts_same : (moments : List ℕ) → count (records ++ r ∷ []) ≡ count records → AreRises (λ m. count (take m records)) (length records) moments
        → AreRises (λ m. count (take m (records ++ r ∷ []))) (length (records ++ r ∷ [])) moments
    counts_same moments is are =
        let one = whole in
        let two = next in
        subst (λ (n : ℕ). AreRises (λ m. count (take m (records ++ r ∷ []))) n moments) (sym size)
        (rises_same (λ m. count (take m records)) (λ m. count (take m (records ++ r ∷ []))) (length records) same moments (count_grows (records ++ r ∷ [])) (omega (arith, one, two, is)) are)

-- what is never counted
pub counts_never : (count : List Record → ℕ) (records : List Record) → count (take (length records) records) ≡ 0 → AreRises (λ m. count (take m records)) (length records) []
counts_never count records none = record {
  size = sym none;
  each = λ number moment is. absurd (cc);
}
