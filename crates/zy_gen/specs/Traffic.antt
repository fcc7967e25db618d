-- Generated traffic, docs/FORMATS.md, "Generated traffic": the bytes of each command, the segments in which they come,
-- and the whole capture.
use Rattle.std.specs.Prelude.{ℕ, zero, suc, ◌+◌, ◌*◌, ◌%◌, ◌≤◌, ◌^◌, ◌<◌, Bool, true, false, List, [], ◌∷◌, ◌++◌}
use Rattle.std.specs.Prelude.{length, take, drop, codes, decimal, ⊤}
use Rattle.std.specs.Int.{to_be_bytes, w32}
use Rattle.rand_pcg.specs.Lcg.{Lcg}
use Rattle.zy_capture.specs.declared.record.Record.{Record}
use Rattle.zy_capture.specs.declared.record.Record.TheVariants as Kinds
use Rattle.zy_capture.specs.Capture.{capture_magic, spelling}
use Rattle.zy_gen.specs.declared.request.Request.{Request}
use Rattle.zy_gen.specs.declared.request.Request.TheVariants.{Get, GetMany, Set, SetTen, Incr, Append, Delete}
use Rattle.zy_gen.specs.declared.request.Command.{Command}
use Rattle.zy_gen.specs.Draw.{words_of, draw, draw_command}

-- ---- keys and blocks

-- a key of a connection: `k`, the connection, a colon, and a number below 64
unfoldable pub traffic_key : ℕ → ℕ → List ℕ
traffic_key connection item = codes "k" ++ (decimal connection ++ (codes ":" ++ decimal (item % 64)))

-- `count` keys of a connection, from a number on, each after a space
unfoldable pub keys : ℕ → ℕ → ℕ → List ℕ
keys connection item zero = []
keys connection item (suc count) = codes " " ++ (traffic_key connection item ++ keys connection (item + 1) count)

-- a block of `count` letters, from one on; `a` comes after `z`
unfoldable pub block : ℕ → ℕ → List ℕ
block letter zero = []
block letter (suc count) = (97 + letter % 26) ∷ block (letter + 1) count

-- ---- commands

-- the word that makes a `set` quiet
abbrev pub quiet_word : Bool → List ℕ
quiet_word true = codes " noreply"
quiet_word false = []

-- the bytes of a request of a connection, for the key with this number
unfoldable pub request_text : ℕ → ℕ → Request → List ℕ
request_text connection item Get = codes "get " ++ (traffic_key connection item ++ codes "\r\n")
request_text connection item GetMany = codes "get" ++ (keys connection item 50 ++ codes "\r\n")
request_text connection item (Set flags size quiet) =
    codes "set " ++ (traffic_key connection item ++ (codes " "
    ++ (decimal flags ++ (codes " 3600 " ++ (decimal size
    ++ (quiet_word quiet ++ (codes "\r\n" ++ (block item size ++ codes "\r\n"))))))))
request_text connection item SetTen = codes "set " ++ (traffic_key connection item ++ codes " 0 3600 2\r\n10\r\n")
request_text connection item Incr = codes "incr " ++ (traffic_key connection item ++ codes " 7\r\n")
request_text connection item Append = codes "append " ++ (traffic_key connection item ++ codes " 0 0 1\r\n9\r\n")
request_text connection item Delete = codes "delete " ++ (traffic_key connection item ++ codes "\r\n")

-- the bytes of a command of a connection
abbrev pub command_text : ℕ → Command → List ℕ
command_text connection command = request_text connection command.item command.request

-- flags and blocks are as small as generated ones
abbrev pub IsSmall : Request → Type 0
IsSmall (Set flags size quiet) = (flags < 65536) × (size < 256)
IsSmall request = ⊤

-- ---- segments

-- segments that were made, and the generator after them
pub record Made : Type 0 where
  pub items : List Record
  pub left : Lcg

-- some segments, and then others
abbrev pub behind : List Record → Made → Made
behind items made = record { items = items ++ made.items; left = made.left }

-- a segment of a connection
abbrev pub segment_record : ℕ → List ℕ → Record
segment_record connection bytes = Kinds.Segment (record { conn = connection; bytes = bytes })

-- some bytes in two segments, the first of which has `at` bytes
abbrev pub cut : ℕ → List ℕ → ℕ → List Record
cut connection bytes at = segment_record connection (take at bytes) ∷ segment_record connection (drop at bytes) ∷ []

-- one command of a connection, in two segments, cut at a random place
unfoldable pub one_command : ℕ → Lcg → Made
one_command connection words =
    let drawn = draw_command words in
    let bytes = command_text connection drawn.command in
    let at = draw (length bytes + 1) drawn.left in
    record { items = cut connection bytes at.value; left = at.left }

-- one command of each of `count` connections, from one on
unfoldable pub one_round : ℕ → ℕ → Lcg → Made
one_round connection zero words = record { items = []; left = words }
one_round connection (suc count) words = behind (one_command connection words).items
    (one_round (connection + 1) count (one_command connection words).left)

-- `count` rounds
unfoldable pub rounds : ℕ → ℕ → Lcg → Made
rounds connections zero words = record { items = []; left = words }
rounds connections (suc count) words =
    behind (one_round 0 connections words).items (rounds connections count (one_round 0 connections words).left)

-- ---- the capture

-- the beginning of a capture of `connections` connections
abbrev pub head : ℕ → List ℕ
head connections = capture_magic 1 ++ to_be_bytes w32 connections

-- the segments of the traffic made from a number, with `commands` commands of each of `connections`
-- connections
abbrev pub traffic_records : ℕ → ℕ → ℕ → List Record
traffic_records number connections commands = (rounds connections commands (words_of number)).items

-- the capture of the traffic, of version 1
abbrev pub gen_bytes : ℕ → ℕ → ℕ → List ℕ
gen_bytes number connections commands = spelling 1 connections (traffic_records number connections commands)

-- the arguments allowed: 1 to 4,096 connections, and at most 1,000,000 commands in all
pub record IsTraffic (number connections commands : ℕ) : Type 0 where
  pub number_fits : number < 2 ^ 32
  pub some_connections : 0 < connections
  pub few_connections : connections ≤ 4096
  pub some_commands : 0 < commands
  pub few_commands : connections * commands ≤ 1000000
