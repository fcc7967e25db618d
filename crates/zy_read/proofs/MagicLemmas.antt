-- The bytes that lead to each part of a magic, and its version.
use Rattle.std.proofs.Common.{◌≡◌, ◌⊎◌, inl, inr, ℕ, ◌+◌, ◌<◌, Bool, true, false, List, [], ◌∷◌, ◌++◌, length, take, refl, sym, ◌∙◌, ap, arith, append_assoc}
use Rattle.std.specs.Prelude.{◌==◌, if◌then◌else◌, ⊤}
use Rattle.std.specs.List.{slice_index}
use Rattle.std.proofs.lemmas.List.{take_all, take_more}
use Rattle.std.proofs.lemmas.Bool.{eqb-true}
use Rattle.std.proofs.lemmas.Bool.Decides.{nat_tests}
use Rattle.zy_read.specs.declared.magic.MagicPart.{MagicPart}
use Rattle.zy_read.specs.declared.magic.MagicPart.TheVariants.{Letters, Digit, LineFeed}
use Rattle.zy_read.specs.declared.magic.MagicStep.{MagicStep}
use Rattle.zy_read.specs.declared.magic.MagicStep.TheVariants.{Next, Whole, Wrong}
use Rattle.zy_read.specs.Magic.{magic_step, IsInMagic, magic_before}

-- a version is 1 or 2
abbrev pub IsVersion : ℕ → Type 0
IsVersion version = (version ≡ 1) ⊎ (version ≡ 2)

-- what is known where this part is next
abbrev pub IsKnown : MagicPart → Type 0
IsKnown (LineFeed version) = IsVersion version
IsKnown part = ⊤

-- where the byte at this place leads, after this text
abbrev pub LeadsTo : List ℕ → ℕ → List ℕ → MagicStep → Type 0
LeadsTo letters at text (Next part) = IsInMagic part at × IsKnown part × (text ≡ magic_before part letters at)
LeadsTo letters at text (Whole version) = IsVersion version × (text ≡ letters ++ (48 + version) ∷ 10 ∷ [])
LeadsTo letters at text Wrong = ⊤

-- ---- where a byte leads

-- a fact of either way that a test goes
chosen : (P : MagicStep → Type 0) (test : Bool) (x y : MagicStep) → (test ≡ true → P x) → (test ≡ false → P y) → P (if test then x else y)
chosen P true x y first second = first refl
chosen P false x y first second = second refl

next_place : (at : ℕ) → at < 6 → (at == 5) ≡ false → at + 1 < 6
next_place at within more = grind (arith, nat_tests)

-- one letter more
pub letters_on : (letters : List ℕ) (at byte : ℕ) → at < length letters → byte ≡ slice_index letters at → take at letters ++ byte ∷ [] ≡ take (at + 1) letters
letters_on letters at byte within is = ap (λ (b : ℕ). take at letters ++ b ∷ []) is ∙ sym (take_more letters at 0 within)

-- a byte leads on from the bytes before a part
pub leads : (part : MagicPart) (letters : List ℕ) (at byte : ℕ) → length letters ≡ 6 → IsInMagic part at → IsKnown part → LeadsTo letters (at + 1) (magic_before part letters at ++ byte ∷ []) (magic_step part letters at byte)
leads Letters letters at byte six within known =
    let P : MagicStep → Type 0 = LeadsTo letters (at + 1) (take at letters ++ byte ∷ []) in
    chosen P (byte == slice_index letters at) _ Wrong
    (λ same.
    let grown : take at letters ++ byte ∷ [] ≡ take (at + 1) letters = letters_on letters at byte (omega (arith, six, within)) (eqb-true byte (slice_index letters at) same) in
    chosen P (at == 5) (Next Digit) (Next Letters)
    (λ last. (tt, tt, grown ∙ take_all (at + 1) letters (omega (arith, six, eqb-true at 5 last))))
    (λ more. (next_place at within more, tt, grown)))
    (λ differs. tt)
leads Digit letters at byte six within known =
    let P : MagicStep → Type 0 = LeadsTo letters (at + 1) (letters ++ byte ∷ []) in
    chosen P (byte == 49) (Next (LineFeed 1)) _
    (λ one. (tt, inl refl, ap (λ (b : ℕ). letters ++ b ∷ []) (eqb-true byte 49 one)))
    (λ other. chosen P (byte == 50) (Next (LineFeed 2)) Wrong
    (λ two. (tt, inr refl, ap (λ (b : ℕ). letters ++ b ∷ []) (eqb-true byte 50 two)))
    (λ differs. tt))
leads (LineFeed version) letters at byte six within known =
    chosen (LeadsTo letters (at + 1) ((letters ++ (48 + version) ∷ []) ++ byte ∷ [])) (byte == 10) (Whole version) Wrong
    (λ same. (known, append_assoc letters ((48 + version) ∷ []) (byte ∷ []) ∙ ap (λ (b : ℕ). letters ++ (48 + version) ∷ b ∷ []) (eqb-true byte 10 same)))
    (λ differs. tt)
