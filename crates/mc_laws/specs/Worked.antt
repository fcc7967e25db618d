-- Example lines, grouped by what they say. memcached's own answers to most of them were seen.
use Rattle.std.specs.Prelude.{◌≡◌, ℕ, true, false, List, [], ◌∷◌, ◌++◌, map, codes}
pub use Rattle.mc_laws.specs.WorkedMeta.{long_key}
use Rattle.mc_parse.specs.declared.command.Command.{Command}
use Rattle.mc_parse.specs.declared.command.Command.TheVariants.{Store, Get}
use Rattle.mc_parse.specs.declared.need.Need.TheVariants.{Nothing}
use Rattle.mc_parse.specs.declared.shard_call.ShardCall.{ShardCall}
use Rattle.mc_parse.specs.declared.verb.Verb.{Verb}
use Rattle.mc_parse.specs.declared.verb.Verb.TheVariants.{Set}
use Rattle.mc_parse.specs.Calls.{calls_of}
use Rattle.mc_parse.specs.Form.{Ask, stores, exchanges, gets, deletes, counts, Form, asks, line_form}
use Rattle.mc_parse.specs.Meaning.{line_command}
use Rattle.mc_parse.specs.Need.{need}

-- ---- words of worked lines

-- each of the lines says this
abbrev pub AllSay : Form → List (List ℕ) → Type 0
AllSay form lines = map line_form lines ≡ map (λ line. form) lines

-- a line needs nothing, and means this command
abbrev pub Means : List ℕ → Command → Type 0
Means line command = (need line ≡ Nothing) × (line_command line ≡ command)

-- store a block of this size under "a", with these flags
abbrev pub sets : ℕ → ℕ → Ask
sets flags bytes = stores Set (codes "a") flags bytes

-- lines of each command with this key
abbrev pub lines_with_key : List ℕ → List (List ℕ)
lines_with_key key =
    (codes "set " ++ key ++ codes " 0 0 1 noreply")
    ∷ (codes "cas " ++ key ++ codes " 0 0 1 7")
    ∷ (codes "get " ++ key)
    ∷ (codes "gets a " ++ key ++ codes " b")
    ∷ (codes "delete " ++ key ++ codes " 0")
    ∷ (codes "incr " ++ key ++ codes " 1")
    ∷ (codes "decr " ++ key ++ codes " 1 noreply")
    ∷ []

-- ---- no command

-- no name, or an unknown one: names are in small letters, and only a space ends them
abbrev pub nameless_lines : List (List ℕ)
nameless_lines =
    codes ""
    ∷ codes "   "
    ∷ codes "\r"
    ∷ codes "a"
    ∷ codes "GET a"
    ∷ codes "VERSION"
    ∷ (codes "get" ++ 9 ∷ codes "a")
    ∷ (128 ∷ codes "get a")
    ∷ codes "GET / HTTP/1.1"
    ∷ codes "foo noreply"
    ∷ []

-- commands of memcached that are not supported here
abbrev pub other_commands : List (List ℕ)
other_commands =
    codes "stats reset"
    ∷ codes "bget a"
    ∷ codes "touch a 0"
    ∷ codes "gat 0 a"
    ∷ codes "gats 0 a"
    ∷ codes "slabs automove 0"
    ∷ codes "ma a"
    ∷ codes "me a"
    ∷ codes "shutdown"
    ∷ []

-- fewer words than the name must have
abbrev pub short_lines : List (List ℕ)
short_lines =
    codes "get"
    ∷ codes "get "
    ∷ codes "gets"
    ∷ codes "delete"
    ∷ codes "incr a"
    ∷ codes "decr"
    ∷ codes "verbosity"
    ∷ codes "set a 0 0"
    ∷ codes "set a 0 noreply"
    ∷ codes "cas a 0 0 1"
    ∷ []

-- more words than the name may have
abbrev pub wordy_lines : List (List ℕ)
wordy_lines =
    codes "version foo"
    ∷ codes "version noreply"
    ∷ codes "quit foo"
    ∷ codes "quit noreply"
    ∷ codes "delete a 0 0 noreply"
    ∷ codes "incr a 1 noreply noreply"
    ∷ codes "flush_all 0 0 noreply"
    ∷ codes "set a 0 0 1 noreply noreply"
    ∷ codes "cas a 0 0 1 0 noreply x"
    ∷ []

-- another word in the place of noreply, which is checked before numbers
abbrev pub lines_without_noreply : List (List ℕ)
lines_without_noreply =
    codes "delete a 0 x"
    ∷ codes "delete a 5 x"
    ∷ codes "incr a 1 foo"
    ∷ codes "incr a x foo"
    ∷ codes "verbosity 1 foo"
    ∷ codes "flush_all noreply 0"
    ∷ codes "set a 0 0 1 foo"
    ∷ codes "set a x 0 1 foo"
    ∷ codes "cas a 0 0 1 0 foo"
    ∷ []

-- ---- bad numbers

-- a number after the key of a deletion that is not 0, or has over 20 digits
abbrev pub bad_deletions : List (List ℕ)
bad_deletions =
    codes "delete a noreply noreply"
    ∷ codes "delete a 5"
    ∷ codes "delete a x"
    ∷ codes "delete a -0"
    ∷ codes "delete a 5 noreply"
    ∷ codes "delete a 000000000000000000000"
    ∷ []

-- an amount with another byte than a digit, with over 20 digits, or not below 2^64
abbrev pub bad_amounts : List (List ℕ)
bad_amounts =
    codes "incr a 18446744073709551616"
    ∷ codes "incr a 000000000000000000001"
    ∷ codes "incr a z"
    ∷ codes "incr a -1"
    ∷ codes "incr a +1"
    ∷ (codes "incr a 1" ++ 9 ∷ [])
    ∷ codes "incr a 1\r"
    ∷ codes "incr a noreply"
    ∷ codes "incr a x noreply"
    ∷ codes "decr a x"
    ∷ []

-- levels and delays that are not numbers
abbrev pub bad_levels : List (List ℕ)
bad_levels =
    codes "verbosity noreply"
    ∷ codes "verbosity noreply noreply"
    ∷ codes "verbosity x"
    ∷ codes "verbosity x noreply"
    ∷ codes "verbosity -1"
    ∷ codes "verbosity 4294967296"
    ∷ codes "flush_all x"
    ∷ codes "flush_all 100"
    ∷ codes "flush_all -1"
    ∷ codes "flush_all noreply noreply"
    ∷ codes "flush_all x noreply"
    ∷ []

-- flags that are not a number below 2^32
abbrev pub bad_flags : List (List ℕ)
bad_flags =
    codes "set a x 0 1"
    ∷ codes "set a x 0 1 noreply"
    ∷ codes "set a 4294967296 0 1"
    ∷ codes "set a +5 0 1"
    ∷ codes "set a -1 0 1"
    ∷ codes "set a 5a 0 1"
    ∷ codes "set a 000000000000000000005 0 1"
    ∷ (codes "set a 0" ++ 9 ∷ codes " 0 1")
    ∷ []

-- exptimes that are not 1 to 19 digits, with a minus sign or not
abbrev pub bad_exptimes : List (List ℕ)
bad_exptimes =
    codes "set a 0 x 1"
    ∷ codes "set a 0 - 1"
    ∷ codes "set a 0 --1 1"
    ∷ codes "set a 0 +100 1"
    ∷ codes "set a 0 00000000000000000001 1"
    ∷ codes "set a 0 -00000000000000000001 1"
    ∷ []

-- lengths that are not a number below 2^32
abbrev pub bad_lengths : List (List ℕ)
bad_lengths =
    codes "set a 0 0 x"
    ∷ codes "set a 0 0 noreply"
    ∷ codes "set a 0 0 x noreply"
    ∷ codes "set a 0 0 -1"
    ∷ codes "set a 0 0 -0"
    ∷ codes "set a 0 0 +1"
    ∷ codes "set a 0 0 1\r"
    ∷ (codes "set a 0 0 1" ++ 9 ∷ codes "foo")
    ∷ codes "set a 0 0 4294967296"
    ∷ codes "set a 0 0 000000000000000000001"
    ∷ []

-- CAS values that are not a number below 2^64
abbrev pub bad_uniques : List (List ℕ)
bad_uniques =
    codes "cas a 0 0 1 x"
    ∷ codes "cas a 0 0 1 x noreply"
    ∷ codes "cas a 0 0 1 noreply"
    ∷ codes "cas a 0 0 1 -1"
    ∷ codes "cas a 0 0 1 18446744073709551616"
    ∷ []

-- ---- lines that ask for the same

-- "a" is removed; a zero may follow it
abbrev pub deletions_of_a : List (List ℕ)
deletions_of_a =
    codes "delete a"
    ∷ codes "delete a 0"
    ∷ codes "delete a 00"
    ∷ codes "delete a 00000000000000000000"
    ∷ []

-- one byte is stored under "a": spaces and exptimes make no difference
abbrev pub sets_of_a : List (List ℕ)
sets_of_a =
    codes "set a 0 0 1"
    ∷ codes "  set  a 0 0   1  "
    ∷ codes "set a 0 3600 1"
    ∷ codes "set a 0 -1 1"
    ∷ codes "set a 0 -0 1"
    ∷ codes "set a 0 4294967296 1"
    ∷ codes "set a 0 9999999999999999999 1"
    ∷ codes "set a 0 -9999999999999999999 1"
    ∷ codes "set a 0 0 00000000000000000001"
    ∷ []

-- what the lines of each command with this key ask for
abbrev pub forms_with_key : List ℕ → List Form
forms_with_key key =
    asks (stores Set key 0 1) true
    ∷ asks (exchanges key 0 1 7) false
    ∷ asks (gets (key ∷ []) false) false
    ∷ asks (gets (codes "a" ∷ key ∷ codes "b" ∷ []) true) false
    ∷ asks (deletes key) false
    ∷ asks (counts key true 1) false
    ∷ asks (counts key false 1) true
    ∷ []

-- ---- blocks and commands

-- blocks of three bytes that do not end in a carriage return and a line feed
abbrev pub unended_blocks : List (List ℕ)
unended_blocks = codes "x\nv" ∷ codes "x\r\r" ∷ codes "xy\n" ∷ codes "xy\r" ∷ []

-- stores "v" under "a" with the flags 3, as this verb says
abbrev pub store_of : Verb → Command
store_of verb = Store verb (codes "a") 3 (codes "v") false

-- a retrieval of "a" and "b"
abbrev pub get_of_two : Command
get_of_two = Get (codes "a" ∷ codes "b" ∷ []) false

-- the shards of a command's calls, if there are `shards` shards
abbrev pub shards_of : ℕ → Command → List ℕ
shards_of count command = map (λ (call : ShardCall). call.shard) (calls_of count command)
