-- Spaces at the end of a value, one by one.
use Rattle.std.proofs.Common.{◌≡◌, ℕ, zero, suc, ◌+◌, ◌-◌, ◌<◌, ◌≤◌, false, List, [], ◌∷◌, ◌++◌, length, take, slice_index_or, refl, sym, ap, ◌∙◌, arith}
use Rattle.std.specs.Prelude.{◌==◌}
use Rattle.std.proofs.lemmas.List.{take_more}
use Rattle.std.proofs.lemmas.Bool.{ne_eqb}
use Rattle.mc_allows.specs.Values.{byte_before, unpadded}
use Rattle.mc_allows.proofs.NumberTextLemmas.{kept_byte, padding_goes}

-- the last of the first bytes
last_taken : (xs : List ℕ) (end byte : ℕ) → 0 < end → end ≤ length xs → slice_index_or xs (end - 1) 0 ≡ byte → take end xs ≡ take (end - 1) xs ++ byte ∷ []
last_taken xs end byte some within is =
    let same : end ≡ (end - 1) + 1 = omega (arith, some) in
    ap (λ n. take n xs) same ∙ take_more xs (end - 1) 0 (omega (arith, some, within)) ∙ ap (λ b. take (end - 1) xs ++ b ∷ []) is

-- a space at the end goes
pub space_goes : (xs : List ℕ) (end : ℕ) → 0 < end → end ≤ length xs → slice_index_or xs (end - 1) 0 ≡ 32 → unpadded (take (end - 1) xs) ≡ unpadded (take end xs)
space_goes xs end some within is = sym (ap unpadded (last_taken xs end 32 some within is) ∙ padding_goes (take (end - 1) xs) (32 ∷ []) refl)

-- another byte at the end stays, with all before it
stays : (xs : List ℕ) (byte : ℕ) → (byte == 32) ≡ false → unpadded (xs ++ byte ∷ []) ≡ xs ++ byte ∷ []
stays [] byte is = kept_byte byte [] is
stays (x ∷ []) byte is = ap (byte_before x) (stays [] byte is)
stays (x ∷ (y ∷ xs)) byte is = ap (byte_before x) (stays (y ∷ xs) byte is)

pub other_stays : (xs : List ℕ) (end : ℕ) → 0 < end → end ≤ length xs → (slice_index_or xs (end - 1) 0 ≡ 32 → ⊥) → unpadded (take end xs) ≡ take end xs
other_stays xs end some within not =
    let whole = last_taken xs end (slice_index_or xs (end - 1) 0) some within refl in
    ap unpadded whole ∙ stays (take (end - 1) xs) (slice_index_or xs (end - 1) 0) (ne_eqb (slice_index_or xs (end - 1) 0) 32 not) ∙ sym whole

pub none_stay : (xs : List ℕ) (end : ℕ) → end ≤ 0 → unpadded (take end xs) ≡ take end xs
none_stay xs zero none = refl
none_stay xs (suc end) none = absurd (omega (arith, none))
