use Rattle.std.proofs.Common.{◌≡◌, ◌<◌, ◌^◌, drop}
use Rattle.std.specs.Str.{all_ascii_digits}
use Rattle.std.specs.Str.Parse.{digits_value, digits_value_after}
use Rattle.mc_meta.proofs.number.read_number.Given as goal

-- the digits that are left lead from the number so far to the number of all
abbrev pub invariant-loop-digit : goal.invariant-loop-digit
invariant-loop-digit l = record {
  fits : l.number < 2 ^ 64;
  value : digits_value_after 10 l.number (drop l.digit-index l.text) ≡ digits_value 10 l.text;
  digits : all_ascii_digits (drop l.digit-index l.text) ≡ all_ascii_digits l.text;
}
