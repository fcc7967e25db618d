-- Words without a space, and lines without a line feed; and the keys of connections.
use Rattle.std.proofs.Common.{◌≡◌, ℕ, ◌+◌, ◌%◌, ◌^◌, ◌<◌, ◌≤◌, true, List, [], ◌∷◌, ◌++◌, refl, ap, ◌∙◌, ne_eqb, arith}
use Rattle.std.specs.Prelude.{◌==◌, ◌&&◌, not, Some, None, codes, decimal, if◌then◌else◌}
use Rattle.std.specs.List.{AllByRecursion, list_all}
use Rattle.std.proofs.lemmas.Fmt.{decimal_by_steps, decimal_nonempty}
use Rattle.mc_parse.specs.Words.{words, is_word}
use Rattle.mc_parse.proofs.WordLemmas.{words-parted, words-one}
use Rattle.zy_frame.specs.Line.{first_line, chomped, begun_by}
use Rattle.zy_gen.specs.Traffic.{traffic_key}
use Rattle.zy_gen.specs.Said.{IsSolid, HasNoLineEnd, IsSolidWord, spoken}

-- ---- lists

pub each-append : {X : Type 0} (P : X → Type 0) (xs ys : List X) → AllByRecursion P xs → AllByRecursion P ys → AllByRecursion P (xs ++ ys)
each-append P [] ys front back = back
each-append P (x ∷ xs) ys front back = (front.0, each-append P xs ys front.1 back)

-- ---- solid texts

pub solid-decimal : (n : ℕ) → n < 2 ^ 64 → IsSolid (decimal n)
solid-decimal n small =
    decimal_by_steps (λ m ds. IsSolid ds) (λ m few. (omega arith, tt))
    (λ m ds some front. each-append (λ byte. 33 ≤ byte) ds ((48 + m % 10) ∷ []) front (omega arith, tt)) n small

pub word-decimal : (n : ℕ) → n < 2 ^ 64 → IsSolidWord (decimal n)
word-decimal n small = record { some = decimal_nonempty n small; solid = solid-decimal n small }

pub word-key : (conn item : ℕ) → conn < 2 ^ 64 → IsSolidWord (traffic_key conn item)
unfolding traffic_key
word-key conn item small = record {
  some = omega arith;
  solid = (omega arith, each-append (λ byte. 33 ≤ byte) (decimal conn) (codes ":" ++ decimal (item % 64)) (solid-decimal conn small) (omega arith, solid-decimal (item % 64) (omega arith)));
}

-- ---- words

all_other : (text : List ℕ) → IsSolid text → list_all (λ byte. not (byte == 32)) text ≡ true
all_other [] solid = refl
all_other (byte ∷ bytes) solid = ap (λ b. not b && list_all (λ x. not (x == 32)) bytes) (ne_eqb byte 32 (λ is. let high = solid.0 in omega arith)) ∙ all_other bytes solid.1

word_is : (text : List ℕ) → IsSolidWord text → is_word text ≡ true
word_is [] solid = absurd (let some = solid.some in omega arith)
word_is (byte ∷ bytes) solid = all_other (byte ∷ bytes) solid.solid

-- the words of a line made from words are these words
pub words-spoken : (word : List ℕ) (more : List (List ℕ)) → AllByRecursion IsSolidWord (word ∷ more) → words (spoken word more) ≡ word ∷ more
words-spoken word [] solid = words-one word (word_is word solid.0)
words-spoken word (next ∷ more) solid =
    words-parted word (spoken next more) ∙ ap (λ (l : List (List ℕ)). l ++ words (spoken next more)) (words-one word (word_is word solid.0))
    ∙ ap (λ (l : List (List ℕ)). word ∷ l) (words-spoken next more solid.1)

-- ---- lines

in_line : (text : List ℕ) → IsSolid text → HasNoLineEnd text
in_line [] solid = tt
in_line (byte ∷ bytes) solid = ((let high = solid.0 in omega arith), in_line bytes solid.1)

pub in_line-spoken : (word : List ℕ) (more : List (List ℕ)) → AllByRecursion IsSolidWord (word ∷ more) → HasNoLineEnd (spoken word more)
in_line-spoken word [] solid = in_line word solid.0.solid
in_line-spoken word (next ∷ more) solid = each-append (λ byte. 11 ≤ byte) word (32 ∷ spoken next more) (in_line word solid.0.solid) (omega arith, in_line-spoken next more solid.1)

pub no_feed : (text : List ℕ) → HasNoLineEnd text → first_line text ≡ None
no_feed [] is = refl
no_feed (byte ∷ bytes) is =
    ap (λ b. if b then Some (record { line = []; after = bytes }) else begun_by byte (first_line bytes)) (ne_eqb byte 10 (λ same. let high = is.0 in omega arith)) ∙ ap (begun_by byte) (no_feed bytes is.1)

pub chomped-return : (text : List ℕ) → chomped (text ++ 13 ∷ []) ≡ text
chomped-return [] = refl
chomped-return (byte ∷ []) = refl
chomped-return (byte ∷ next ∷ bytes) = ap (λ (l : List ℕ). byte ∷ l) (chomped-return (next ∷ bytes))
