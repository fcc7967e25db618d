-- ASCII text is text.
use Rattle.std.proofs.Common.{◌≡◌, ℕ, [], ◌∷◌, Bool, true, false, refl, arith}
use Rattle.std.proofs.lemmas.Bool.{ltb-true}
use Rattle.std.specs.Prelude.{nat_lt, ◌&&◌, IsUtf8}
use Rattle.std.proofs.lemmas.Str.{IsUtf8-from_ascii}
use Rattle.std.proofs.lemmas.Str.Ascii.{IsAscii-cons}
use Rattle.std.specs.Str.{IsAscii}
use Rattle.zy_command_line.specs.Grammar.{Word, is_ascii, is_plain}

ascii_by : (b : ℕ) (bs : Word) (test : Bool) → nat_lt b 128 ≡ test → (is_ascii bs ≡ true → IsAscii bs) → (test && is_ascii bs) ≡ true → IsAscii (b ∷ bs)
ascii_by b bs true small later e = IsAscii-cons b bs (ltb-true b 128 small) (later e)
ascii_by b bs false small later e = cc

each_ascii : (word : Word) → is_ascii word ≡ true → IsAscii word
each_ascii [] e = λ i. omega arith
each_ascii (b ∷ bs) e = ascii_by b bs (nat_lt b 128) refl (each_ascii bs) e

first_holds : (a b : Bool) → (a && b) ≡ true → a ≡ true
first_holds true b e = refl
first_holds false b e = cc

pub ascii_is_text : (word : Word) → is_plain word ≡ true → IsUtf8 word
ascii_is_text word e = IsUtf8-from_ascii word (each_ascii word (first_holds (is_ascii word) _ e))
