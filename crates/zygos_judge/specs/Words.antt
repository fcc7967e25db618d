-- What the arguments request: the number of shards of the server that was recorded, what that may have been, and what is
-- told of its items.
use Rattle.std.specs.Prelude.{ℕ, ◌≤◌, ◌&&◌, ◌||◌, nat_le, Bool, true, false, List, [], ◌∷◌, length, codes}
use Rattle.std.specs.Prelude.{Option, None, Some, is_some, if◌then◌else◌, option_and_then, option_map}
use Rattle.std.specs.Str.{bytes_eq}
use Rattle.zy_base.specs.Number.{number_of}
use Rattle.zygos_judge.specs.declared.words.Task.{Task}
use Rattle.zygos_judge.specs.declared.words.Told.{Told}

-- ---- one word

-- the number, if it is 1 to 256
abbrev pub shards_within : ℕ → Option ℕ
shards_within number = if nat_le 1 number && nat_le number 256 then Some number else None

-- the number of shards that a word of at most ten digits gives
abbrev pub shards_in : List ℕ → Option ℕ
shards_in word = if nat_le (length word) 10 then option_and_then shards_within (number_of word) else None

-- the number of shards is that in this word, if none was given before
abbrev pub with_shards : Told → List ℕ → Option Told
with_shards told word = if is_some told.shards then None
    else option_map (λ number. record told { shards = Some number; waits = false }) (shards_in word)

-- the word is an option of a window: `--from` or `--to`
abbrev pub with_window : Told → List ℕ → Option Told
with_window told word =
    if bytes_eq word (codes "--from") then (if told.from then None else Some (record told { from = true }))
    else (if bytes_eq word (codes "--to") then (if told.to then None else Some (record told { to = true })) else None)

-- the word is an option: `--warm`, `--may-forget`, `--from`, `--to` or `--shards`, whose number is the next word
abbrev pub with_option : Told → List ℕ → Option Told
with_option told word =
    if bytes_eq word (codes "--warm") then (if told.warm then None else Some (record told { warm = true }))
    else (if bytes_eq word (codes "--may-forget") then (if told.forget then None else Some (record told { forget = true }))
    else (if bytes_eq word (codes "--shards") then Some (record told { waits = true }) else with_window told word))

-- one more word is read
abbrev pub with_word : Told → List ℕ → Option Told
with_word told word = if told.waits then with_shards told word else with_option told word

-- ---- all words

-- nothing was read
abbrev pub nothing_told : Told
nothing_told = record { shards = None; warm = false; forget = false; from = false; to = false; waits = false }

-- what these words add to what was read
abbrev pub told_after : Told → List (List ℕ) → Option Told
told_after told [] = Some told
told_after told (word ∷ words) = option_and_then (λ next. told_after next words) (with_word told word)

-- the number of shards, 16 if none was given
abbrev pub shards_or : Option ℕ → ℕ
shards_or None = 16
shards_or (Some number) = number

-- what was requested, unless a number is still awaited; a server whose items are told did not begin with unknown ones
abbrev pub task_told : Told → Option Task
task_told told = if told.waits || (told.warm && (told.from || told.to)) then None
    else Some (record {
      rules = record { shards = shards_or told.shards; warm = told.warm || told.from; forget = told.forget };
      from = told.from;
      to = told.to;
    })

-- what the words request: `--warm`, `--may-forget`, `--from`, `--to` and `--shards N`, in any order, each at most once,
-- and `--warm` with none of the other two; `None` if they are not valid
abbrev pub task_asked : List (List ℕ) → Option Task
task_asked words = option_and_then task_told (told_after nothing_told words)

-- a window of a longer recording: what the server had at first is told, or what it has at last is asked for
abbrev pub is_window : Task → Bool
is_window task = task.from || task.to

-- ---- ranges

-- a server may have this number of shards
abbrev pub IsShardCount : ℕ → Type 0
IsShardCount shards = (1 ≤ shards) × (shards ≤ 256)

-- the number of shards that was read, if one was, is in its range
abbrev pub IsToldWithin : Told → Type 0
IsToldWithin told = IsShardCount (shards_or told.shards)
