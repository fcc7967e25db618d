-- A word is an option if and only if the parser takes it for one, with the same name and value.
use Rattle.std.proofs.Common.{◌≡◌, ◌==◌, ◌+◌, ℕ, suc, arith, [], ◌∷◌, take, drop, refl, sym, ◌∙◌, ap, Bool, true, false}
use Rattle.std.specs.Prelude.{Option, Some, None, ◌&&◌, if◌then◌else◌, option_and_then}
use Rattle.std.specs.List.{position_or_len}
use Rattle.clap.specs.Lexer as lexer
use Rattle.zy_command_line.specs.Grammar.{Word, name_and_value, option_in}

-- the text up to one place, and from another one on if there is a value
abbrev parts : ℕ → ℕ → Bool → Word → Word × Option Word
parts upto from has text = (take upto text, if has then Some (drop from text) else None)

-- one byte more in front
abbrev with_byte : ℕ → Word × Option Word → Word × Option Word
with_byte byte p = (byte ∷ p.0, p.1)

one_further : (n byte : ℕ) (has : Bool) (bytes : Word) → parts (1 + n) (1 + n + 1) has (byte ∷ bytes) ≡ with_byte byte (parts n (n + 1) has bytes)
one_further n byte has bytes =
    let a : 1 + n ≡ suc n = omega arith in
    let b : 1 + n + 1 ≡ suc (n + 1) = omega arith in rw (b, a) refl

named_by : (byte : ℕ) (bytes : Word) (test : Bool) → (byte == 61) ≡ test → name_and_value bytes ≡ lexer.name_and_value bytes
    → name_and_value (byte ∷ bytes) ≡ lexer.name_and_value (byte ∷ bytes)
named_by byte bytes true is later = rw is refl
named_by byte bytes false is later =
    rw is (ap (with_byte byte) later ∙ sym (one_further (position_or_len (λ x. x == 61) bytes) byte (lexer.has_byte 61 bytes) bytes))

named : (text : Word) → name_and_value text ≡ lexer.name_and_value text
named [] = refl
named (byte ∷ bytes) = named_by byte bytes (byte == 61) refl (named bytes)

-- what comes of a word that has one byte, and of one that has two
one : (first : Bool) → None ≡ option_and_then lexer.long_of_rest (option_and_then (lexer.strip_byte 45) (if first then Some [] else None))
one true = refl
one false = refl

two : (first second : Bool) (b : ℕ) → (b == 45) ≡ second
    → None ≡ option_and_then lexer.long_of_rest (option_and_then (lexer.strip_byte 45) (if first then Some (b ∷ []) else None))
two false second b is = refl
two true true b is = rw is refl
two true false b is = rw is refl

more : (first second : Bool) (b : ℕ) (byte : ℕ) (bytes : Word) → (b == 45) ≡ second
    → (if first && second then Some (name_and_value (byte ∷ bytes)) else None)
    ≡ option_and_then lexer.long_of_rest (option_and_then (lexer.strip_byte 45) (if first then Some (b ∷ byte ∷ bytes) else None))
more false second b byte bytes is = refl
more true true b byte bytes is = rw is (ap (λ (p : Word × Option Word). Some p) (named (byte ∷ bytes)))
more true false b byte bytes is = rw is refl

pub option_in_is : (word : Word) → option_in word ≡ lexer.long_of word
option_in_is [] = refl
option_in_is (a ∷ []) = one (a == 45)
option_in_is (a ∷ b ∷ []) = two (a == 45) (b == 45) b refl
option_in_is (a ∷ b ∷ byte ∷ bytes) = more (a == 45) (b == 45) b byte bytes refl
