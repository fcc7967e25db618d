-- The example capture, computed.
use Rattle.std.proofs.Common.{◌≡◌, ℕ, ◌+◌, List, [], ◌++◌, length, refl, ap, arith}
use Rattle.std.specs.Prelude.{codes}
use Rattle.std.proofs.lemmas.Fmt.{decimal_digit}
use Rattle.rand_pcg.specs.Lcg.{Lcg}
use Rattle.zy_capture.specs.Capture.{spelling}
use Rattle.zy_gen.specs.declared.request.Request.TheVariants.{Get}
use Rattle.zy_gen.specs.Draw.{words_of, draw, draw_command}
use Rattle.zy_gen.specs.Traffic.{traffic_key, request_text, Made, cut, one_command, one_round, rounds, gen_bytes}
use Rattle.run_laws.specs.WorkedTraffic.{worked_traffic}

key_is : traffic_key 0 9 ≡ codes "k0:9"
unfolding traffic_key
key_is = rw (decimal_digit 0 (omega arith), decimal_digit 9 (omega arith)) refl

text_is : request_text 0 9 Get ≡ codes "get k0:9\r\n"
unfolding request_text
text_is = rw key_is refl

-- the words that are left after the kind and the key
left : Lcg
left = (draw_command (words_of 42)).left

-- the command, whatever its bytes
with_bytes : List ℕ → Made
with_bytes bytes = record { items = cut 0 bytes (draw (length bytes + 1) left).value; left = (draw (length bytes + 1) left).left }

command_is : one_command 0 (words_of 42) ≡ with_bytes (codes "get k0:9\r\n")
unfolding one_command with_bytes left draw
command_is = ap with_bytes text_is

pub worked : gen_bytes 42 1 1 ≡ worked_traffic
unfolding spelling rounds one_round with_bytes left draw
worked = ap (λ (made : Made). spelling 1 1 ((made.items ++ []) ++ [])) command_is
