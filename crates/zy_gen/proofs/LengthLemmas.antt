-- A command has at most 455 bytes.
use Rattle.std.proofs.Common.{◌≡◌, ℕ, zero, suc, ◌+◌, ◌*◌, ◌%◌, ◌<◌, ◌≤◌, Bool, true, false, List, ◌++◌, length, arith, length-append}
use Rattle.std.specs.Prelude.{codes, decimal}
use Rattle.std.proofs.lemmas.Fmt.{length-decimal-le}
use Rattle.zy_gen.specs.declared.request.Request.{Request}
use Rattle.zy_gen.specs.declared.request.Request.TheVariants.{Get, GetMany, Set, SetTen, Incr, Append, Delete}
use Rattle.zy_gen.specs.Traffic.{traffic_key, keys, block, quiet_word, request_text, IsSmall}

key_few : (connection item : ℕ) → connection < 4096 → length (traffic_key connection item) ≤ 8
unfolding traffic_key
key_few connection item few =
    let a = length-decimal-le 4 connection (omega arith) (omega arith) (omega arith) in
    let b = length-decimal-le 2 (item % 64) (omega arith) (omega arith) (omega arith) in
    omega (arith, a, b, length-append (codes "k") (decimal connection ++ (codes ":" ++ decimal (item % 64))), length-append (decimal connection) (codes ":" ++ decimal (item % 64)), length-append (codes ":") (decimal (item % 64)))

keys_few : (connection item count : ℕ) → connection < 4096 → length (keys connection item count) ≤ 9 * count
unfolding keys
keys_few connection item zero few = omega arith
keys_few connection item (suc count) few =
    omega (arith, key_few connection item few, keys_few connection (item + 1) count few, length-append (traffic_key connection item) (keys connection (item + 1) count))

block_size : (letter size : ℕ) → length (block letter size) ≡ size
unfolding block
block_size letter zero = omega arith
block_size letter (suc size) = omega (arith, block_size (letter + 1) size)

quiet_few : (quiet : Bool) → length (quiet_word quiet) ≤ 8
quiet_few true = omega arith
quiet_few false = omega arith

-- a key with bytes before and after it
around : (before after : List ℕ) (connection item : ℕ) → connection < 4096 → length (before ++ (traffic_key connection item ++ after)) ≤ length before + (8 + length after)
around before after connection item few =
    omega (arith, key_few connection item few, length-append before (traffic_key connection item ++ after), length-append (traffic_key connection item) after)

pub text_few : (connection item : ℕ) (request : Request) → connection < 4096 → IsSmall request → length (request_text connection item request) ≤ 455
unfolding request_text
text_few connection item Get few small = omega (arith, around (codes "get ") (codes "\r\n") connection item few)
text_few connection item GetMany few small =
    omega (arith, keys_few connection item 50 few, length-append (codes "get") (keys connection item 50 ++ codes "\r\n"), length-append (keys connection item 50) (codes "\r\n"))
text_few connection item (Set flags size quiet) few small =
    let a = length-decimal-le 5 flags (omega arith) (omega (arith, small.0)) (omega (arith, small.0)) in
    let b = length-decimal-le 3 size (omega arith) (omega (arith, small.1)) (omega (arith, small.1)) in
    let end : List ℕ = block item size ++ codes "\r\n" in
    let rest : List ℕ = quiet_word quiet ++ (codes "\r\n" ++ end) in
    let sized : List ℕ = decimal size ++ rest in
    let flagged : List ℕ = decimal flags ++ (codes " 3600 " ++ sized) in
    let ends : length end ≡ size + 2 = omega (arith, block_size item size, length-append (block item size) (codes "\r\n")) in
    let rests : length rest ≤ size + 12 = omega (arith, ends, quiet_few quiet, length-append (quiet_word quiet) (codes "\r\n" ++ end), length-append (codes "\r\n") end) in
    let sizes : length sized ≤ size + 15 = omega (arith, rests, b, length-append (decimal size) rest) in
    let all : length flagged ≤ size + 26 = omega (arith, sizes, a, length-append (decimal flags) (codes " 3600 " ++ sized), length-append (codes " 3600 ") sized) in
    omega (arith, all, small.1, around (codes "set ") (codes " " ++ flagged) connection item few, length-append (codes " ") flagged)
text_few connection item SetTen few small = omega (arith, around (codes "set ") (codes " 0 3600 2\r\n10\r\n") connection item few)
text_few connection item Incr few small = omega (arith, around (codes "incr ") (codes " 7\r\n") connection item few)
text_few connection item Append few small = omega (arith, around (codes "append ") (codes " 0 0 1\r\n9\r\n") connection item few)
text_few connection item Delete few small = omega (arith, around (codes "delete ") (codes "\r\n") connection item few)
