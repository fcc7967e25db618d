-- The values of a lawful request are in their ranges.
use Rattle.std.proofs.Common.{◌≡◌, ℕ, ◌*◌, ◌≤◌, List, [], ◌∷◌, refl, Bool, true, false, arith, min}
use Rattle.std.specs.Prelude.{Option, Some, None, nat_le, ◌&&◌, if◌then◌else◌, option_and_then, option_map, length, codes, ⊤}
use Rattle.std.proofs.lemmas.Bool.{leb-true}
use Rattle.zy_base.specs.Number.{number_of}
use Rattle.zy_command_line.specs.Grammar.{Word, Options, value_of, options_of}
use Rattle.zy_command_line.specs.declared.request.Out.{Out}
use Rattle.zy_command_line.specs.declared.request.Run.{Run}
use Rattle.zy_command_line.specs.declared.request.Traffic.{Traffic}
use Rattle.zy_command_line.specs.declared.request.Request.{Request}
use Rattle.zy_command_line.specs.declared.request.Request.TheVariants as Requests
use Rattle.zy_command_line.specs.declared.verb.Verb.{Verb}
use Rattle.zy_command_line.specs.declared.verb.Verb.TheVariants as Verbs
use Rattle.zy_command_line.specs.Request.{in_range, number_or, cores_of, threads_of, order_of, shards_of, idle_turns_of, port_of, out_of, run_on, run_of, traffic_of, traffic_within, seed_of, conns_of, commands_of, asked_by, asked_with, verb_named, names_of, request_of, shards_asked}
use Rattle.zy_command_line.specs.Range.{IsRunnable, AreShards, IsPort, IsMakeable}

-- a number, if it is given, is in its range
abbrev IsFrom : ℕ → ℕ → Option ℕ → Type 0
IsFrom low high None = ⊤
IsFrom low high (Some n) = (low ≤ n) × (n ≤ high)

tested : (low high n : ℕ) (a b : Bool) → nat_le low n ≡ a → nat_le n high ≡ b → IsFrom low high (if a && b then Some n else None)
tested low high n true true above below = (leb-true low n above, leb-true n high below)
tested low high n true false above below = tt
tested low high n false b above below = tt

ranged : (low high n : ℕ) → IsFrom low high (in_range low high n)
ranged low high n = tested low high n (nat_le low n) (nat_le n high) refl refl

found : (low high : ℕ) (number : Option ℕ) → IsFrom low high (option_and_then (in_range low high) number)
found low high None = tt
found low high (Some n) = ranged low high n

short : (low high : ℕ) (number : Option ℕ) (test : Bool) → IsFrom low high (if test then option_and_then (in_range low high) number else None)
short low high number true = found low high number
short low high number false = tt

given : (low high default : ℕ) (word : Option Word) → low ≤ default → default ≤ high → IsFrom low high (number_or low high default word)
given low high default None above below = (above, below)
given low high default (Some word) above below = short low high (number_of word) (nat_le (length word) 10)

-- ---- a run

-- a run that words ask for is in its ranges
abbrev IsFine : Option Run → Type 0
IsFine None = ⊤
IsFine (Some run) = IsRunnable run

resting : (cores threads shards : ℕ) (order : Option ℕ) (rest : Option ℕ) → 1 ≤ cores → cores ≤ 64 → 1 ≤ threads → threads ≤ cores → 1 ≤ shards → shards ≤ 256 → IsFrom 0 1000000 rest
    → IsFine (option_map (λ n. record { cores = cores; threads = threads; order = order; shards = shards; rest = n }) rest)
resting cores threads shards order None a b c d e f is = tt
resting cores threads shards order (Some n) a b c d e f is =
    record { some_cores = a; few_cores = b; some_threads = c; few_threads = d; some_shards = e; few_shards = f; few_turns = is.1 }

sharded : (cores threads : ℕ) (order shards rest : Option ℕ) → 1 ≤ cores → cores ≤ 64 → 1 ≤ threads → threads ≤ cores → IsFrom 1 256 shards → IsFrom 0 1000000 rest
    → IsFine (option_and_then (λ s. option_map (λ n. record { cores = cores; threads = threads; order = order; shards = s; rest = n }) rest) shards)
sharded cores threads order None rest a b c d is each = tt
sharded cores threads order (Some n) rest a b c d is each = resting cores threads n order rest a b c d is.0 is.1 each

ordered : (cores threads : ℕ) (order : Option (Option ℕ)) (shards rest : Option ℕ) → 1 ≤ cores → cores ≤ 64 → 1 ≤ threads → threads ≤ cores → IsFrom 1 256 shards → IsFrom 0 1000000 rest
    → IsFine (option_and_then (λ order. option_and_then (λ s. option_map (λ n. record { cores = cores; threads = threads; order = order; shards = s; rest = n }) rest) shards) order)
ordered cores threads None shards rest a b c d is each = tt
ordered cores threads (Some order) shards rest a b c d is each = sharded cores threads order shards rest a b c d is each

threaded : (cores : ℕ) (options : Options) (number : Option ℕ) → 1 ≤ cores → cores ≤ 64 → IsFrom 1 64 number
    → IsFine (option_and_then (λ threads. run_on cores threads options) (option_map (min cores) number))
threaded cores options None a b is = tt
threaded cores options (Some n) a b is =
    let one = is.0 in ordered cores (min cores n) (order_of (min cores n) options) (shards_of options) (idle_turns_of options) a b (omega (arith, one)) (omega arith)
    (given 1 256 16 (value_of (codes "shards") options) (omega arith) (omega arith)) (given 0 1000000 0 (value_of (codes "rest") options) (omega arith) (omega arith))

cored : (options : Options) (number : Option ℕ) → IsFrom 1 64 number → IsFine (option_and_then (λ cores. option_and_then (λ threads. run_on cores threads options) (threads_of cores options)) number)
cored options None is = tt
cored options (Some cores) is = threaded cores options (number_or 1 64 cores (value_of (codes "threads") options)) is.0 is.1 (given 1 64 cores (value_of (codes "threads") options) is.0 is.1)

run_fine : (options : Options) → IsFine (run_of options)
run_fine options = cored options (cores_of options) (given 1 64 4 (value_of (codes "cores") options) (omega arith) (omega arith))

-- ---- traffic

-- traffic that words ask for can be made
abbrev IsMade : Option Traffic → Type 0
IsMade None = ⊤
IsMade (Some traffic) = IsMakeable traffic

fitted : (t : Traffic) (test : Bool) → nat_le (t.conns * t.commands) 1000000 ≡ test → 1 ≤ t.conns → t.conns ≤ 4096 → 1 ≤ t.commands → IsMade (if test then Some t else None)
fitted t true is a b c = record { some_connections = a; few_connections = b; some_commands = c; few_commands = leb-true (t.conns * t.commands) 1000000 is }
fitted t false is a b c = tt

commanded : (number conns : ℕ) (commands : Option ℕ) → 1 ≤ conns → conns ≤ 4096 → IsFrom 1 1000000 commands
    → IsMade (option_and_then (λ n. traffic_within (record { number = number; conns = conns; commands = n })) commands)
commanded number conns None a b is = tt
commanded number conns (Some n) a b is = fitted (record { number = number; conns = conns; commands = n }) (nat_le (conns * n) 1000000) refl a b is.0

connected : (number : ℕ) (conns commands : Option ℕ) → IsFrom 1 4096 conns → IsFrom 1 1000000 commands
    → IsMade (option_and_then (λ c. option_and_then (λ n. traffic_within (record { number = number; conns = c; commands = n })) commands) conns)
connected number None commands is each = tt
connected number (Some conns) commands is each = commanded number conns commands is.0 is.1 each

seeded : (number conns commands : Option ℕ) → IsFrom 1 4096 conns → IsFrom 1 1000000 commands
    → IsMade (option_and_then (λ s. option_and_then (λ c. option_and_then (λ n. traffic_within (record { number = s; conns = c; commands = n })) commands) conns) number)
seeded None conns commands is each = tt
seeded (Some number) conns commands is each = connected number conns commands is each

traffic_fine : (options : Options) → IsMade (traffic_of options)
traffic_fine options =
    seeded (seed_of options) (conns_of options) (commands_of options) (given 1 4096 200 (value_of (codes "conns") options) (omega arith) (omega arith))
    (given 1 1000000 100 (value_of (codes "commands") options) (omega arith) (omega arith))

-- ---- a request

-- the values of a request that words ask for are in their ranges
abbrev AsksFine : Option Request → Type 0
AsksFine None = ⊤
AsksFine (Some (Requests.Run run out)) = IsRunnable run
AsksFine (Some (Requests.Check shards)) = AreShards shards
AsksFine (Some (Requests.Gen traffic)) = IsMakeable traffic
AsksFine (Some (Requests.SelfTest traffic run)) = IsMakeable traffic × IsRunnable run
AsksFine (Some (Requests.Pcap port)) = IsPort port
AsksFine (Some Requests.Report) = ⊤

outed : (run : Run) (out : Option Out) → IsRunnable run → AsksFine (option_map (Requests.Run run) out)
outed run None is = tt
outed run (Some out) is = is

run_asks : (options : Options) (run : Option Run) → IsFine run → AsksFine (option_and_then (λ run. option_map (Requests.Run run) (out_of options)) run)
run_asks options None is = tt
run_asks options (Some run) is = outed run (out_of options) is

self_run : (traffic : Traffic) (run : Option Run) → IsMakeable traffic → IsFine run → AsksFine (option_map (Requests.SelfTest traffic) run)
self_run traffic None made is = tt
self_run traffic (Some run) made is = (made, is)

self_asks : (options : Options) (traffic : Option Traffic) → IsMade traffic → AsksFine (option_and_then (λ traffic. option_map (Requests.SelfTest traffic) (run_of options)) traffic)
self_asks options None made = tt
self_asks options (Some traffic) made = self_run traffic (run_of options) made (run_fine options)

check_asks : (shards : Option ℕ) → IsFrom 1 256 shards → AsksFine (option_map Requests.Check shards)
check_asks None is = tt
check_asks (Some shards) is = is

gen_asks : (traffic : Option Traffic) → IsMade traffic → AsksFine (option_map Requests.Gen traffic)
gen_asks None is = tt
gen_asks (Some traffic) is = is

pcap_asks : (port : Option ℕ) → IsFrom 1 65535 port → AsksFine (option_map Requests.Pcap port)
pcap_asks None is = tt
pcap_asks (Some port) is = is

asks : (verb : Verb) (options : Options) → AsksFine (asked_by verb options)
asks Verbs.Run options = run_asks options (run_of options) (run_fine options)
asks Verbs.Check options = check_asks (shards_of options) (given 1 256 16 (value_of (codes "shards") options) (omega arith) (omega arith))
asks Verbs.Gen options = gen_asks (traffic_of options) (traffic_fine options)
asks Verbs.SelfTest options = self_asks options (traffic_of options) (traffic_fine options)
asks Verbs.Pcap options = pcap_asks (port_of options) (given 1 65535 11211 (value_of (codes "port") options) (omega arith) (omega arith))
asks Verbs.Report options = tt

spelled : (verb : Verb) (options : Option Options) → AsksFine (option_and_then (asked_by verb) options)
spelled verb None = tt
spelled verb (Some options) = asks verb options

named : (words : List Word) (verb : Option Verb) → AsksFine (option_and_then (asked_with words) verb)
named words None = tt
named words (Some verb) = spelled verb (options_of (names_of verb) words)

all_fine : (words : List Word) → AsksFine (request_of words)
all_fine [] = tt
all_fine (word ∷ words) = named words (verb_named word)

pub runs_are_runnable : (words : List Word) (run : Run) (out : Out) → request_of words ≡ Some (Requests.Run run out) → IsRunnable run
runs_are_runnable words run out e = let fine : AsksFine (request_of words) = all_fine words in rw e at fine

pub checks_have_shards : (words : List Word) (shards : ℕ) → request_of words ≡ Some (Requests.Check shards) → AreShards shards
checks_have_shards words shards e = let fine : AsksFine (request_of words) = all_fine words in rw e at fine

all_shards : (options : Option Options) → IsFrom 1 256 (option_and_then shards_of options)
all_shards None = tt
all_shards (Some options) = given 1 256 16 (value_of (codes "shards") options) (omega arith) (omega arith)

pub shards_are_shards : (words : List Word) (shards : ℕ) → shards_asked words ≡ Some shards → AreShards shards
shards_are_shards words shards e = let fine : IsFrom 1 256 (shards_asked words) = all_shards (options_of (names_of Verbs.Check) words) in rw e at fine

pub ports_are_ports : (words : List Word) (port : ℕ) → request_of words ≡ Some (Requests.Pcap port) → IsPort port
ports_are_ports words port e = let fine : AsksFine (request_of words) = all_fine words in rw e at fine

pub traffic_is_makeable : (words : List Word) (traffic : Traffic) → request_of words ≡ Some (Requests.Gen traffic) → IsMakeable traffic
traffic_is_makeable words traffic e = let fine : AsksFine (request_of words) = all_fine words in rw e at fine

pub self_is_fine : (words : List Word) (traffic : Traffic) (run : Run) → request_of words ≡ Some (Requests.SelfTest traffic run) → IsMakeable traffic × IsRunnable run
self_is_fine words traffic run e = let fine : AsksFine (request_of words) = all_fine words in rw e at fine
