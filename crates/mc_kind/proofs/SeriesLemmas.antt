-- Items one after another, and the end: how long they are, and where they are refuted.
use Rattle.std.proofs.Common.{◌≡◌, ◌⊎◌, inl, inr, ℕ, ◌+◌, ◌≤◌, List, [], ◌∷◌, ◌++◌, length, take, drop, refl, ap, sym, ◌∙◌, subst, append_assoc, arith}
use Rattle.std.specs.List.{concat, AllByRecursion}
use Rattle.std.proofs.lemmas.List.{append-nil, take-append-drop, length-take-le}
use Rattle.mc_answers.specs.Cut.{AreCut, AreApart, IsSeries}
use Rattle.mc_answers.proofs.CutLemmas.{same_texts, regroup}
use Rattle.mc_answered.proofs.FoundLemmas.{found_two}
use Rattle.mc_kind.specs.First.{HaveLength, NoneFits}

-- a text of a kind that is cut in one way, at the beginning, has the length of each that fits
pub have_length : (IsText : List ℕ → Type 0) → AreCut IsText → (bytes : List ℕ) (n : ℕ) → n ≤ length bytes → IsText (take n bytes) → HaveLength IsText bytes n
have_length IsText cut bytes n low one text rest more other same =
    let whole : text ++ rest ≡ take n bytes ++ (drop n bytes ++ more) = same ∙ ap (λ (t : List ℕ). t ++ more) (sym (take-append-drop n bytes)) ∙ append_assoc (take n bytes) (drop n bytes) more in
    ap length (same_texts IsText cut text (take n bytes) rest (drop n bytes ++ more) other one whole) ∙ length-take-le n bytes low

-- the bytes so far are items
pub record AreItems (IsItem : List ℕ → Type 0) (bytes : List ℕ) (at : ℕ) : Type 0 where
  pub items : List (List ℕ)
  pub each : AllByRecursion IsItem items
  pub is : take at bytes ≡ concat items
  pub low : at ≤ length bytes

joined_push : (items : List (List ℕ)) (item : List ℕ) → concat (items ++ item ∷ []) ≡ concat items ++ item
joined_push [] item = append-nil item
joined_push (i ∷ items) item = ap (λ (t : List ℕ). i ++ t) (joined_push items item) ∙ sym (append_assoc i (concat items) item)

all_push : (P : List ℕ → Type 0) (items : List (List ℕ)) (item : List ℕ) → AllByRecursion P items → P item → AllByRecursion P (items ++ item ∷ [])
all_push P [] item each one = (one, tt)
all_push P (i ∷ items) item each one = (each.0, all_push P items item each.1 one)

pub one_more : (IsItem : List ℕ → Type 0) (bytes rest : List ℕ) (at n : ℕ) → AreItems IsItem bytes at → rest ≡ drop at bytes → n ≤ length rest → IsItem (take n rest) → AreItems IsItem bytes (at + n)
one_more IsItem bytes rest at n so after low one =
    let both = found_two bytes at n (concat so.items) (take n rest) rest so.low so.is after low refl in
    record {
      items = so.items ++ take n rest ∷ [];
      each = all_push IsItem so.items (take n rest) so.each one;
      is = both.is ∙ sym (joined_push so.items (take n rest));
      low = both.low;
    }

pub record IsWholeSeries (IsItem IsEnd : List ℕ → Type 0) (bytes : List ℕ) (n : ℕ) : Type 0 where
  pub low : n ≤ length bytes
  pub series : IsSeries IsItem IsEnd (take n bytes)

pub whole_series : (IsItem IsEnd : List ℕ → Type 0) (bytes rest : List ℕ) (at n : ℕ) → AreItems IsItem bytes at → rest ≡ drop at bytes → n ≤ length rest → IsEnd (take n rest)
    → IsWholeSeries IsItem IsEnd bytes (at + n)
whole_series IsItem IsEnd bytes rest at n so after low one =
    let both = found_two bytes at n (concat so.items) (take n rest) rest so.low so.is after low refl in
    record { low = both.low; series = record { items = so.items; last = take n rest; each = so.each; «end» = one; is = both.is } }

-- ---- what stands after some items

record After (IsItem : List ℕ → Type 0) (last rest tail : List ℕ) : Type 0 where
  items : List (List ℕ)
  each : AllByRecursion IsItem items
  is : (concat items ++ last) ++ rest ≡ tail

series_after : (IsItem IsEnd : List ℕ → Type 0) → AreCut IsItem → AreApart IsItem IsEnd → (done items : List (List ℕ)) (last rest tail : List ℕ) → AllByRecursion IsItem done → AllByRecursion IsItem items → IsEnd last
    → (concat items ++ last) ++ rest ≡ concat done ++ tail → After IsItem last rest tail
series_after IsItem IsEnd cut apart [] items last rest tail each too end same = record { items = items; each = too; is = same }
series_after IsItem IsEnd cut apart (d ∷ done) [] last rest tail each too end same =
    absurd (apart d last (concat done ++ tail) rest each.0 end (sym (append_assoc d (concat done) tail) ∙ sym same))
series_after IsItem IsEnd cut apart (d ∷ done) (i ∷ items) last rest tail each too end same =
    series_after IsItem IsEnd cut apart done items last rest tail each.1 too.1 end
    (
    cut i d ((concat items ++ last) ++ rest) (concat done ++ tail) too.0 each.0
    (sym (regroup (concat (i ∷ items) ++ last) i (concat items ++ last) rest (append_assoc i (concat items) last)) ∙ same ∙ append_assoc d (concat done) tail)
    )

none_after : (IsItem IsEnd : List ℕ → Type 0) (last rest tail more : List ℕ) → IsEnd last → NoneFits (λ text. IsItem text ⊎ IsEnd text) tail → After IsItem last rest (tail ++ more) → ⊥
none_after IsItem IsEnd last rest tail more end none after = go after.items after.each after.is
  where
    go : (items : List (List ℕ)) → AllByRecursion IsItem items → (concat items ++ last) ++ rest ≡ tail ++ more → ⊥
    go [] each same = none last rest more (inr end) same
    go (i ∷ items) each same = none i ((concat items ++ last) ++ rest) more (inl each.0) (sym (regroup (concat (i ∷ items) ++ last) i (concat items ++ last) rest (append_assoc i (concat items) last)) ∙ same)

-- items and then what fits neither an item nor the end
pub series_none : (IsItem IsEnd : List ℕ → Type 0) → AreCut IsItem → AreApart IsItem IsEnd → (bytes tail : List ℕ) (at : ℕ) → AreItems IsItem bytes at → tail ≡ drop at bytes
    → NoneFits (λ text. IsItem text ⊎ IsEnd text) tail → NoneFits (IsSeries IsItem IsEnd) bytes
series_none IsItem IsEnd cut apart bytes tail at so after none text rest more one same =
    let first : bytes ≡ concat so.items ++ tail = sym (take-append-drop at bytes) ∙ ap (λ (t : List ℕ). t ++ drop at bytes) so.is ∙ ap (λ (t : List ℕ). concat so.items ++ t) (sym after) in
    let whole : (concat one.items ++ one.last) ++ rest ≡ concat so.items ++ (tail ++ more) =
    ap (λ (t : List ℕ). t ++ rest) (sym one.is) ∙ same ∙ ap (λ (t : List ℕ). t ++ more) first ∙ append_assoc (concat so.items) tail more in
    none_after IsItem IsEnd one.last rest tail more one.end none (series_after IsItem IsEnd cut apart so.items one.items one.last rest (tail ++ more) so.each one.each one.end whole)

-- the bytes are no error line, if what comes after the items is none, and no item begins as one
pub items_no_error : (IsItem IsError : List ℕ → Type 0) → ((item rest bytes : List ℕ) → IsItem item → IsError bytes → item ++ rest ≡ bytes → ⊥) → (bytes tail : List ℕ) (at : ℕ) → AreItems IsItem bytes at → tail ≡ drop at bytes
    → (IsError tail → ⊥) → IsError bytes → ⊥
items_no_error IsItem IsError apart bytes tail at so after none error = go so.items so.each so.is
  where
    whole : (items : List (List ℕ)) → take at bytes ≡ concat items → concat items ++ tail ≡ bytes
    whole items is = ap (λ (t : List ℕ). t ++ tail) (sym is) ∙ ap (λ (t : List ℕ). take at bytes ++ t) after ∙ take-append-drop at bytes

    go : (items : List (List ℕ)) → AllByRecursion IsItem items → take at bytes ≡ concat items → ⊥
    go [] each is = none (subst IsError (sym (whole [] is)) error)
    go (i ∷ items) each is = apart i (concat items ++ tail) bytes each.0 error (sym (append_assoc i (concat items) tail) ∙ whole (i ∷ items) is)
