-- What cuts texts: a byte that cannot be within them, a length, an end.
use Rattle.std.proofs.Common.{◌≡◌, ℕ, Bool, true, false, List, [], ◌∷◌, ◌++◌, length, refl, ap, sym, ◌∙◌, arith, append_assoc}
use Rattle.std.specs.Prelude.{not}
use Rattle.std.specs.List.{concat, list_all, AllByRecursion}
use Rattle.std.proofs.lemmas.Bool.{and_parts}
use Rattle.std.proofs.lemmas.List.{append-nil, append_cancel_right}
use Rattle.mc_answers.specs.Cut.{AreCut, AreApart, is_no_feed, IsLine, IsSeries}

-- ---- spans

-- the text begins with a byte that fails the test
abbrev pub stops : (ℕ → Bool) → List ℕ → Bool
stops test [] = false
stops test (byte ∷ bytes) = not (test byte)

clash : (x y : Bool) → not x ≡ true → y ≡ true → x ≡ y → ⊥
clash true y fails passes same = absurd (cc)
clash false y fails passes same = absurd (cc)

-- two spans of bytes that pass, each followed by one that fails, are the same
pub span_ends : (test : ℕ → Bool) (a b more other : List ℕ) → list_all test a ≡ true → list_all test b ≡ true → stops test more ≡ true → stops test other ≡ true
    → a ++ more ≡ b ++ other → (a ≡ b) × (more ≡ other)
span_ends test [] [] more other pass pass_too end end_too same = (refl, same)
span_ends test [] (y ∷ b) [] other pass pass_too end end_too same = absurd (cc)
span_ends test [] (y ∷ b) (m ∷ more) other pass pass_too end end_too same =
    let e : m ≡ y = cc in
    absurd (clash (test m) (test y) end (and_parts (test y) (list_all test b) pass_too).0 (ap test e))
span_ends test (x ∷ a) [] more [] pass pass_too end end_too same = absurd (cc)
span_ends test (x ∷ a) [] more (o ∷ other) pass pass_too end end_too same =
    let e : o ≡ x = cc in
    absurd (clash (test o) (test x) end_too (and_parts (test x) (list_all test a) pass).0 (ap test e))
span_ends test (x ∷ a) (y ∷ b) more other pass pass_too end end_too same =
    let head : x ≡ y = cc in
    let rest : a ++ more ≡ b ++ other = cc in
    let found = span_ends test a b more other (and_parts (test x) (list_all test a) pass).1 (and_parts (test y) (list_all test b) pass_too).1 end end_too rest in
    let tail : a ≡ b = found.0 in
    (cc, found.1)

-- two texts of the same length in front of the same bytes
pub same_length : (a b more other : List ℕ) → length a ≡ length b → a ++ more ≡ b ++ other → more ≡ other
same_length [] [] more other long same = same
same_length [] (y ∷ b) more other long same = absurd (omega arith)
same_length (x ∷ a) [] more other long same = absurd (omega arith)
same_length (x ∷ a) (y ∷ b) more other long same = same_length a b more other (omega arith) (cc)

-- ---- kinds

pub lines_cut : AreCut IsLine
lines_cut a b more other one two same =
    let whole : one.body ++ (10 ∷ more) ≡ two.body ++ (10 ∷ other) =
    sym (append_assoc one.body (10 ∷ []) more) ∙ ap (λ (t : List ℕ). t ++ more) (sym one.is) ∙ same ∙ ap (λ (t : List ℕ). t ++ other) two.is ∙ append_assoc two.body (10 ∷ []) other in
    let found = span_ends is_no_feed one.body two.body (10 ∷ more) (10 ∷ other) one.inner two.inner refl refl whole in
    let rest : 10 ∷ more ≡ 10 ∷ other = found.1 in
    cc

-- the same bytes, after the parts of a text
pub regroup : (text front back more : List ℕ) → text ≡ front ++ back → text ++ more ≡ front ++ (back ++ more)
regroup text front back more is = ap (λ (t : List ℕ). t ++ more) is ∙ append_assoc front back more

series-go : (IsItem IsEnd : List ℕ → Type 0) → AreCut IsItem → AreCut IsEnd → AreApart IsItem IsEnd → (items others : List (List ℕ)) (last final more other : List ℕ)
    → AllByRecursion IsItem items → AllByRecursion IsItem others → IsEnd last → IsEnd final → (concat items ++ last) ++ more ≡ (concat others ++ final) ++ other → more ≡ other
series-go IsItem IsEnd cut ends apart [] [] last final more other each too end end_too same = ends last final more other end end_too same
series-go IsItem IsEnd cut ends apart [] (o ∷ others) last final more other each too end end_too same =
    absurd (apart o last ((concat others ++ final) ++ other) more too.0 end (sym (regroup (concat (o ∷ others) ++ final) o (concat others ++ final) other (append_assoc o (concat others) final)) ∙ sym same))
series-go IsItem IsEnd cut ends apart (i ∷ items) [] last final more other each too end end_too same =
    absurd (apart i final ((concat items ++ last) ++ more) other each.0 end_too (sym (regroup (concat (i ∷ items) ++ last) i (concat items ++ last) more (append_assoc i (concat items) last)) ∙ same))
series-go IsItem IsEnd cut ends apart (i ∷ items) (o ∷ others) last final more other each too end end_too same =
    series-go IsItem IsEnd cut ends apart items others last final more other each.1 too.1 end end_too
    (
    cut i o ((concat items ++ last) ++ more) ((concat others ++ final) ++ other) each.0 too.0
    (
    sym (regroup (concat (i ∷ items) ++ last) i (concat items ++ last) more (append_assoc i (concat items) last)) ∙ same
    ∙ regroup (concat (o ∷ others) ++ final) o (concat others ++ final) other (append_assoc o (concat others) final)
    )
    )

pub series_cut : (IsItem IsEnd : List ℕ → Type 0) → AreCut IsItem → AreCut IsEnd → AreApart IsItem IsEnd → AreCut (IsSeries IsItem IsEnd)
series_cut IsItem IsEnd cut ends apart a b more other one two same =
    series-go IsItem IsEnd cut ends apart one.items two.items one.last two.last more other one.each two.each one.end two.end
    (ap (λ (t : List ℕ). t ++ more) (sym one.is) ∙ same ∙ ap (λ (t : List ℕ). t ++ other) two.is)

-- ---- what it means

-- texts that are cut in one way are the same where they are in front of the same bytes
pub same_texts : (IsText : List ℕ → Type 0) → AreCut IsText → (a b more other : List ℕ) → IsText a → IsText b → a ++ more ≡ b ++ other → a ≡ b
same_texts IsText cut a b more other one two same =
    append_cancel_right a b other (ap (λ (t : List ℕ). a ++ t) (sym (cut a b more other one two same)) ∙ same)

-- and none of them is the beginning of another
pub no_beginning : (IsText : List ℕ → Type 0) → AreCut IsText → (a b more : List ℕ) → IsText a → IsText b → a ++ more ≡ b → more ≡ []
no_beginning IsText cut a b more one two same = cut a b more [] one two (same ∙ sym (append-nil b))
