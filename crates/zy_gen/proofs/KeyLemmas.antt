-- Two connections have no key in common.
use Rattle.std.proofs.Common.{◌≡◌, ℕ, ◌+◌, ◌%◌, ◌^◌, ◌<◌, List, [], ◌∷◌, ◌++◌, get_or, refl, ap, ◌∙◌, arith}
use Rattle.std.specs.Prelude.{decimal}
use Rattle.std.specs.List.{AllByRecursion}
use Rattle.std.proofs.lemmas.Fmt.{decimal_by_steps, decimal_injective}
use Rattle.zy_gen.specs.Traffic.{traffic_key}
use Rattle.zy_gen.proofs.SolidLemmas.{each-append}

digits_low : (n : ℕ) → n < 2 ^ 64 → AllByRecursion (λ byte. byte < 58) (decimal n)
digits_low n small =
    decimal_by_steps (λ m ds. AllByRecursion (λ byte. byte < 58) ds) (λ m few. (omega arith, tt))
    (λ m ds some front. each-append (λ byte. byte < 58) ds ((48 + m % 10) ∷ []) front (omega arith, tt)) n small

rest : List ℕ → List ℕ
rest [] = []
rest (byte ∷ bytes) = bytes

-- a text determines what comes before its first colon
before_colon : (xs ys us vs : List ℕ) → AllByRecursion (λ byte. byte < 58) xs → AllByRecursion (λ byte. byte < 58) ys → xs ++ 58 ∷ us ≡ ys ++ 58 ∷ vs → xs ≡ ys
unfolding rest
before_colon [] [] us vs low lows is = refl
before_colon [] (y ∷ ys) us vs low lows is =
    let first : ◌≡◌ {A = ℕ} 58 y = ap (λ (l : List ℕ). get_or l 0 0) is in let below = lows.0 in absurd (omega arith)
before_colon (x ∷ xs) [] us vs low lows is =
    let first : ◌≡◌ {A = ℕ} x 58 = ap (λ (l : List ℕ). get_or l 0 0) is in let below = low.0 in absurd (omega arith)
before_colon (x ∷ xs) (y ∷ ys) us vs low lows is =
    ap (λ (byte : ℕ). byte ∷ xs) (ap (λ (l : List ℕ). get_or l 0 0) is) ∙ ap (λ (l : List ℕ). y ∷ l) (before_colon xs ys us vs low.1 lows.1 (ap rest is))

-- a key determines its connection
pub key-conn : (conn other item another : ℕ) → conn < 2 ^ 64 → other < 2 ^ 64 → traffic_key conn item ≡ traffic_key other another → conn ≡ other
unfolding traffic_key rest
key-conn conn other item another small low is =
    decimal_injective conn other small low
    (before_colon (decimal conn) (decimal other) (decimal (item % 64)) (decimal (another % 64)) (digits_low conn small) (digits_low other low) (ap rest is))
