-- What valid words ask for: a command, and the values of its options, which are in their ranges.
use Rattle.std.specs.Prelude.{ℕ, ◌&&◌, ◌==◌, ◌*◌, nat_le, min, List, [], ◌∷◌, length, codes, Option, None, Some}
use Rattle.std.specs.Prelude.{if◌then◌else◌, option_and_then, option_map}
use Rattle.std.specs.Str.{bytes_eq}
use Rattle.zy_base.specs.Number.{number_of}
use Rattle.zy_command_line.specs.Grammar.{Word, Options, options_of, value_of}
use Rattle.zy_command_line.specs.declared.request.Out.{Out}
use Rattle.zy_command_line.specs.declared.request.Out.TheVariants.{Replies, Both}
use Rattle.zy_command_line.specs.declared.request.Run.{Run}
use Rattle.zy_command_line.specs.declared.request.Traffic.{Traffic}
use Rattle.zy_command_line.specs.declared.verb.Verb.{Verb}
use Rattle.zy_command_line.specs.declared.verb.Verb.TheVariants as Verbs
use Rattle.zy_command_line.specs.declared.request.Request.{Request}
use Rattle.zy_command_line.specs.declared.request.Request.TheVariants as Requests

-- ---- values

-- the number is in this range
abbrev pub in_range : ℕ → ℕ → ℕ → Option ℕ
in_range low high number = if nat_le low number && nat_le number high then Some number else None

-- a number of at most ten digits, in its range
abbrev pub number_in : ℕ → ℕ → Word → Option ℕ
number_in low high word = if nat_le (length word) 10 then option_and_then (in_range low high) (number_of word) else None

-- the value of a number option, or its default if it is not given
abbrev pub number_or : ℕ → ℕ → ℕ → Option Word → Option ℕ
number_or low high default None = Some default
number_or low high default (Some word) = number_in low high word

-- ---- one option each

-- the number of cores, 1 to 64
abbrev pub cores_of : Options → Option ℕ
cores_of options = number_or 1 64 4 (value_of (codes "cores") options)

-- the number of threads, 1 to 64; a number above that of the cores means the number of cores
abbrev pub threads_of : ℕ → Options → Option ℕ
threads_of cores options = option_map (min cores) (number_or 1 64 cores (value_of (codes "threads") options))

-- the order of turns is generated from a number, and only one thread can follow it
abbrev pub order_by : ℕ → Option ℕ → Option (Option ℕ)
order_by threads None = None
order_by threads (Some number) = if threads == 1 then Some (Some number) else None

-- the number from which the order of turns is generated, if one is given
abbrev pub order_from : ℕ → Option Word → Option (Option ℕ)
order_from threads None = Some None
order_from threads (Some word) = order_by threads (number_in 0 4294967295 word)

-- the order of turns among the options of a run with `threads` threads
abbrev pub order_of : ℕ → Options → Option (Option ℕ)
order_of threads options = order_from threads (value_of (codes "order") options)

-- the number of shards, 1 to 256
abbrev pub shards_of : Options → Option ℕ
shards_of options = number_or 1 256 16 (value_of (codes "shards") options)

-- the number of turns in a row without work after which a core rests, 0 to 1,000,000; with 0 none
-- rests
abbrev pub idle_turns_of : Options → Option ℕ
idle_turns_of options = number_or 0 1000000 0 (value_of (codes "rest") options)

-- the port of recorded packets, 1 to 65,535
abbrev pub port_of : Options → Option ℕ
port_of options = number_or 1 65535 11211 (value_of (codes "port") options)

-- what is written, by name
abbrev pub out_named : Word → Option Out
out_named word = if bytes_eq word (codes "replies") then Some Replies
    else (if bytes_eq word (codes "both") then Some Both else None)

-- what is written
abbrev pub out_from : Option Word → Option Out
out_from None = Some Replies
out_from (Some word) = out_named word

-- what is written, among the options
abbrev pub out_of : Options → Option Out
out_of options = out_from (value_of (codes "out") options)

-- the number that traffic is made from
abbrev pub seed_of : Options → Option ℕ
seed_of options = number_or 0 4294967295 1 (value_of (codes "number") options)

-- the number of connections of made traffic, 1 to 4,096
abbrev pub conns_of : Options → Option ℕ
conns_of options = number_or 1 4096 200 (value_of (codes "conns") options)

-- the number of commands of each connection of made traffic, 1 to 1,000,000
abbrev pub commands_of : Options → Option ℕ
commands_of options = number_or 1 1000000 100 (value_of (codes "commands") options)

-- ---- options that go together

-- the options of a run with `threads` threads
abbrev pub run_on : ℕ → ℕ → Options → Option Run
run_on cores threads options = option_and_then (λ order. option_and_then (λ shards. option_map (λ rest.
    record { cores = cores; threads = threads; order = order; shards = shards; rest = rest }) (idle_turns_of options))
    (shards_of options)) (order_of threads options)

-- the options of a run
abbrev pub run_of : Options → Option Run
run_of options = option_and_then (λ cores. option_and_then (λ threads. run_on cores threads options)
    (threads_of cores options)) (cores_of options)

-- the traffic has at most 1,000,000 commands in all
abbrev pub traffic_within : Traffic → Option Traffic
traffic_within traffic = if nat_le (traffic.conns * traffic.commands) 1000000 then Some traffic else None

-- the options of made traffic
abbrev pub traffic_of : Options → Option Traffic
traffic_of options = option_and_then (λ number. option_and_then (λ conns. option_and_then (λ commands.
    traffic_within (record { number = number; conns = conns; commands = commands }))
    (commands_of options)) (conns_of options)) (seed_of options)

-- ---- commands

-- the command that a word names, among those that read recorded packets or a journal
abbrev pub reader_named : Word → Option Verb
reader_named word = if bytes_eq word (codes "pcap") then Some Verbs.Pcap
    else (if bytes_eq word (codes "report") then Some Verbs.Report else None)

-- the command that a word names
abbrev pub verb_named : Word → Option Verb
verb_named word = if bytes_eq word (codes "run") then Some Verbs.Run
    else (if bytes_eq word (codes "check") then Some Verbs.Check
    else (if bytes_eq word (codes "gen") then Some Verbs.Gen
    else (if bytes_eq word (codes "self") then Some Verbs.SelfTest else reader_named word)))

-- the options that a command takes
abbrev pub names_of : Verb → List Word
names_of Verbs.Run = codes "cores" ∷ codes "threads" ∷ codes "order" ∷ codes "out" ∷ codes "shards" ∷ codes "rest" ∷ []
names_of Verbs.Check = codes "shards" ∷ []
names_of Verbs.Gen = codes "number" ∷ codes "conns" ∷ codes "commands" ∷ []
names_of Verbs.SelfTest = codes "number" ∷ codes "conns" ∷ codes "commands" ∷ codes "cores" ∷ codes "threads" ∷ codes
    "order" ∷ codes "shards" ∷ codes "rest" ∷ []
names_of Verbs.Pcap = codes "port" ∷ []
names_of Verbs.Report = []

-- serve a capture
abbrev pub run_by : Options → Option Request
run_by options = option_and_then (λ run. option_map (Requests.Run run) (out_of options)) (run_of options)

-- make a capture, serve it, and check the result
abbrev pub self_by : Options → Option Request
self_by options =
    option_and_then (λ traffic. option_map (Requests.SelfTest traffic) (run_of options)) (traffic_of options)

-- what a command with its options asks for
abbrev pub asked_by : Verb → Options → Option Request
asked_by Verbs.Run options = run_by options
asked_by Verbs.Check options = option_map Requests.Check (shards_of options)
asked_by Verbs.Gen options = option_map Requests.Gen (traffic_of options)
asked_by Verbs.SelfTest options = self_by options
asked_by Verbs.Pcap options = option_map Requests.Pcap (port_of options)
asked_by Verbs.Report options = Some Requests.Report

-- what a command asks for with the options in the words after it
abbrev pub asked_with : List Word → Verb → Option Request
asked_with words verb = option_and_then (asked_by verb) (options_of (names_of verb) words)

-- the number of shards that the words ask for, if they are the options of a check
abbrev pub shards_asked : List Word → Option ℕ
shards_asked words = option_and_then shards_of (options_of (names_of Verbs.Check) words)

-- what the words ask for: the first is the command, the others are its options; `None` if they are
-- not valid
abbrev pub request_of : List Word → Option Request
request_of [] = None
request_of (word ∷ words) = option_and_then (asked_with words) (verb_named word)
