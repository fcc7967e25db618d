-- How the lines of answers are read.
use Rattle.std.specs.Prelude.{ℕ, ◌^◌, nat_le, nat_lt, Bool, true, false, ◌==◌, ◌&&◌, not, if◌then◌else◌}
use Rattle.std.specs.Prelude.{List, [], ◌∷◌, Option, None, Some, codes, option_map}
use Rattle.std.specs.Option.{option_and_then}
use Rattle.std.specs.Str.{bytes_eq}
use Rattle.zy_base.specs.Number.{number_of}
use Rattle.mc_calls.specs.declared.call_reply.CallReply.{CallReply}
use Rattle.mc_calls.specs.declared.call_reply.CallReply.TheVariants.{Miss, Hit, Stored, NotStored, Exists, NotFound}
use Rattle.mc_calls.specs.declared.call_reply.CallReply.TheVariants.{Deleted, Number, NotNumber, TooLarge, Flushed}
use Rattle.mc_calls.specs.declared.call_reply.CallReply.TheVariants.{Tally}

-- ---- parts of a text

-- the text after this front, if it begins with it
abbrev pub after_front : List ℕ → List ℕ → Option (List ℕ)
after_front [] text = Some text
after_front (byte ∷ front) [] = None
after_front (byte ∷ front) (other ∷ text) = if byte == other then after_front front text else None

-- a text before and after a byte
pub record Halves : Type 0 where
  pub front : List ℕ
  pub rest : List ℕ

-- a byte in front of the first part
abbrev pub put_before : ℕ → Halves → Halves
put_before byte parted = record { front = byte ∷ parted.front; rest = parted.rest }

-- a text before and after its first byte of this kind
abbrev pub halves_at : ℕ → List ℕ → Option Halves
halves_at stop [] = None
halves_at stop (byte ∷ bytes) =
    if byte == stop
    then Some (record { front = []; rest = bytes })
    else option_map (put_before byte) (halves_at stop bytes)

-- a byte is not this one
abbrev pub is_not : ℕ → ℕ → Bool
is_not stop byte = not (byte == stop)

-- ---- numbers

-- more than one byte, and the first is a zero
abbrev pub leads_zero : List ℕ → Bool
leads_zero (byte ∷ next ∷ bytes) = byte == 48
leads_zero text = false

-- the number that a text is, without leading zeros
abbrev pub decimal_of : List ℕ → Option ℕ
decimal_of text = if leads_zero text then None else number_of text

-- ---- the first line of an item

-- what the first line of an item says; its unique is 0 if it shows none
pub record Heading : Type 0 where
  pub key : List ℕ
  pub flags : ℕ
  pub count : ℕ
  pub unique : ℕ

-- the heading with these parts, whose flags are below 2^32
abbrev pub heading_with : List ℕ → Option ℕ → Option ℕ → Option ℕ → Option Heading
heading_with key (Some flags) (Some count) (Some unique) =
    if nat_lt flags (2 ^ 32) then Some (record { key = key; flags = flags; count = count; unique = unique }) else None
heading_with key flags count unique = None

-- the number before the end of the line
abbrev pub number_before : Halves → Option ℕ
number_before parted = if bytes_eq parted.rest (10 ∷ []) then decimal_of parted.front else None

-- the unique at the end of the line, if uniques were asked for
abbrev pub unique_of : Bool → List ℕ → Option ℕ
unique_of true text = option_and_then number_before (halves_at 13 text)
unique_of false text = if bytes_eq text (10 ∷ []) then Some 0 else None

-- the byte after the length of the value
abbrev pub length_stop : Bool → ℕ
length_stop true = 32
length_stop false = 13

-- the heading, from its key, the text of its flags, and the text of its length and the text after it
abbrev pub heading_counted : Bool → List ℕ → List ℕ → Halves → Option Heading
heading_counted asked key flags counted =
    heading_with key (decimal_of flags) (decimal_of counted.front) (unique_of asked counted.rest)

-- the heading, from its key, and the text of its flags and the text after it
abbrev pub heading_flagged : Bool → List ℕ → Halves → Option Heading
heading_flagged asked key flagged =
    option_and_then (heading_counted asked key flagged.front) (halves_at (length_stop asked) flagged.rest)

-- the heading, from its key and the text after it
abbrev pub heading_named : Bool → Halves → Option Heading
heading_named asked named = option_and_then (heading_flagged asked named.front) (halves_at 32 named.rest)

-- the heading, from the text after the first word
abbrev pub heading_after : Bool → List ℕ → Option Heading
heading_after asked text = option_and_then (heading_named asked) (halves_at 32 text)

-- the heading that a line is, with the unique if uniques were asked for
abbrev pub heading_of : Bool → List ℕ → Option Heading
heading_of asked line = option_and_then (heading_after asked) (after_front (codes "VALUE ") line)

-- ---- the line of a reply

-- the text begins with a digit
abbrev pub starts_digit : List ℕ → Bool
starts_digit [] = false
starts_digit (byte ∷ bytes) = nat_le 48 byte && nat_le byte 57

-- the reply that an error line shows
abbrev pub refused_reply : List ℕ → Option CallReply
refused_reply line =
    if bytes_eq line (codes "CLIENT_ERROR cannot increment or decrement non-numeric value\r\n") then Some NotNumber else
    if bytes_eq line (codes "SERVER_ERROR object too large for cache\r\n") then Some TooLarge else
    None

-- the reply that a line of letters shows
abbrev pub worded_reply : List ℕ → Option CallReply
worded_reply line =
    if bytes_eq line (codes "STORED\r\n") then Some Stored else
    if bytes_eq line (codes "NOT_STORED\r\n") then Some NotStored else
    if bytes_eq line (codes "EXISTS\r\n") then Some Exists else
    if bytes_eq line (codes "NOT_FOUND\r\n") then Some NotFound else
    if bytes_eq line (codes "DELETED\r\n") then Some Deleted else
    refused_reply line

-- the reply that a line of digits shows
abbrev pub counted_reply : List ℕ → Option CallReply
counted_reply line = option_map Number (option_and_then number_before (halves_at 13 line))

-- the reply that a line shows
abbrev pub reply_of : List ℕ → Option CallReply
reply_of line = if starts_digit line then counted_reply line else worded_reply line

-- a reply is answered by a line of its own
abbrev pub has_line : CallReply → Bool
has_line Miss = false
has_line (Hit flags unique value) = false
has_line Flushed = false
has_line (Tally gets sets hits misses items) = false
has_line reply = true
