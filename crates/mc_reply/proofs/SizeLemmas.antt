-- How many bytes the lines of an item have.
use Rattle.std.specs.Prelude.{codes, decimal}
use Rattle.std.proofs.Common.{◌≡◌, ℕ, ◌+◌, ◌^◌, ◌<◌, ◌≤◌, Bool, true, false, List, ◌++◌, length, arith, length-append}
use Rattle.std.proofs.lemmas.Fmt.{length-decimal-le}
use Rattle.mc_calls.specs.declared.call_reply.CallReply.TheVariants.{Hit}
use Rattle.mc_reply.specs.Line.{line, line_end}
use Rattle.mc_reply.specs.Text.{head_text, unique_text, item_line, item_text}

six_parts : (a b c d e f : List ℕ) → length (a ++ b ++ c ++ d ++ e ++ f) ≡ length a + (length b + (length c + (length d + (length e + length f))))
six_parts a b c d e f =
    omega (
      arith,
      length-append a (b ++ c ++ d ++ e ++ f),
      length-append b (c ++ d ++ e ++ f),
      length-append c (d ++ e ++ f),
      length-append d (e ++ f),
      length-append e f,
      length-append (a ++ b ++ c ++ d ++ e) f,
      length-append (a ++ b ++ c ++ d) e,
      length-append (a ++ b ++ c) d,
      length-append (a ++ b) c,
      length-append a b,
    )

pub eight_bytes : (n : ℕ) → n < 2 ^ 64 → length (decimal n) ≤ 20
eight_bytes n few = length-decimal-le 20 n (omega arith) (omega (arith, few)) few

pub line_size : (bytes : List ℕ) → length (line bytes) ≡ length bytes + 2
line_size bytes = let size = length-append bytes line_end in omega (arith, size)

-- the text of an item has at most 73 bytes beside its key and its value
pub item_within : (asked : Bool) (key : List ℕ) (flags unique : ℕ) (value : List ℕ) → flags < 2 ^ 64 → unique < 2 ^ 64 → length value < 2 ^ 64
    → length (item_text asked key (Hit flags unique value)) ≤ length key + length value + 73
item_within asked key flags unique value small fits long = go asked
  where
    head : length (head_text key flags value) ≤ length key + 48
    head = omega (arith, six_parts (codes "VALUE ") key (codes " ") (decimal flags) (codes " ") (decimal (length value)), eight_bytes flags small, eight_bytes (length value) long)

    go : (asked : Bool) → length (item_line asked key flags unique value ++ line value) ≤ length key + length value + 73
    go true =
        omega (
          arith,
          head,
          length-append (item_line true key flags unique value) (line value),
          line_size (head_text key flags value ++ unique_text unique),
          length-append (head_text key flags value) (unique_text unique),
          eight_bytes unique fits,
          line_size value,
        )
    go false = omega (arith, head, length-append (item_line false key flags unique value) (line value), line_size (head_text key flags value), line_size value)
