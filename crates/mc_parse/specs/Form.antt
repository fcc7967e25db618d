-- What the words of a line say, or their first fault (docs/PROFILE.md, "The order of checks").
use Rattle.std.specs.Prelude.{ℕ, Bool, true, false, if◌then◌else◌, List, [], ◌∷◌, Option, None, Some, option_map}
use Rattle.std.specs.List.{list_all}
use Rattle.zy_base.specs.Number.{number_of}
use Rattle.mc_parse.specs.declared.asking.Ask.{Ask as SeenAsk}
use Rattle.mc_parse.specs.declared.asking.Ask.TheVariants as Asked
use Rattle.mc_parse.specs.declared.error_line.ErrorLine.{ErrorLine}
use Rattle.mc_parse.specs.declared.error_line.ErrorLine.TheVariants.{Unknown, BadLine, BadDelta}
use Rattle.mc_parse.specs.declared.verb.Verb.{Verb}
use Rattle.mc_parse.specs.declared.name.Name.{Name}
use Rattle.mc_parse.specs.declared.name.Name.TheVariants.{Store, Cas, Get, Delete, Count, Version}
use Rattle.mc_parse.specs.declared.name.Name.TheVariants.{Verbosity, Flush, Quit, Stats}
use Rattle.mc_parse.specs.declared.sizes.Sizes.{Sizes}
use Rattle.mc_meta.specs.declared.meta_line.MetaLine.{MetaLine}
use Rattle.mc_meta.specs.declared.meta_line.MetaLine.TheVariants as Metas
pub use Rattle.mc_meta.specs.Meta.{is_key, key_limit}
use Rattle.mc_meta.specs.Meta.{is_meta_name, meta_line}
use Rattle.mc_meta.specs.Key.{bytes_in}
use Rattle.mc_parse.specs.declared.command.Command.{Command}
use Rattle.mc_parse.specs.declared.command.Command.TheVariants as Commands
use Rattle.mc_parse.specs.declared.meta.Meta.TheVariants as MetaCommands
use Rattle.mc_calls.specs.declared.call.Call.TheVariants as Calls
use Rattle.mc_parse.specs.Deed.{stored_by}
use Rattle.mc_parse.specs.MetaAsk.{MetaAsk, noops, meta_gets, meta_stores, meta_exchanges, meta_deletes, storing_ask}
use Rattle.mc_parse.specs.Words.{words}
use Rattle.mc_parse.specs.Name.{name_of, arity_of, which_keys, KeysAmong, no_word, one_word, each_word}
use Rattle.mc_parse.specs.Number.{small_number_of, is_zero, is_exptime}
use Rattle.mc_parse.specs.Arity.{Following, following_of}

-- ---- what a line can say

-- what a line asks for
pub data Ask : Type 0 where
  -- store a block: the verb, the key, the flags, and the bytes of the value
  stores : Verb → List ℕ → ℕ → ℕ → Ask
  -- store a block in place of an item: the key, the flags, the bytes, and the item's unique
  exchanges : List ℕ → ℕ → ℕ → ℕ → Ask
  -- get the items of these keys, and whether with their uniques
  gets : List (List ℕ) → Bool → Ask
  -- remove the item of a key
  deletes : List ℕ → Ask
  -- count the value of a key, up or down, by an amount
  counts : List ℕ → Bool → ℕ → Ask
  -- report the version
  tells_version : Ask
  -- report the counts
  tells_counts : Ask
  -- set the verbosity
  sets_verbosity : Ask
  -- remove all items
  flushes : Ask
  -- end the connection
  quits : Ask
  -- what a meta command asks for
  metas : MetaAsk → Ask

-- what a line says
pub data Form : Type 0 where
  -- nothing: it has this fault
  faulty : ErrorLine → Form
  -- it asks for this, quietly or not
  asks : Ask → Bool → Form

-- a request that is no retrieval, with the parts of the line as texts
abbrev pub ask_seen : SeenAsk → Ask
ask_seen (Asked.Store verb key flags bytes) = stores verb key.now flags bytes
ask_seen (Asked.Cas key flags bytes unique) = exchanges key.now flags bytes unique
ask_seen (Asked.Delete key) = deletes key.now
ask_seen (Asked.Count key up amount) = counts key.now up amount
ask_seen Asked.Version = tells_version
ask_seen Asked.Stats = tells_counts
ask_seen Asked.Verbosity = sets_verbosity
ask_seen Asked.Flush = flushes
ask_seen Asked.Quit = quits

-- ---- what is asked for, as a command

-- the fault of a line, which is answered
abbrev pub fault : ErrorLine → Command
fault line = Commands.Fault line false

-- the command of a meta request without a block; one that needs a block counts as unknown
abbrev pub alone_meta : MetaAsk → Command
alone_meta noops = Commands.Meta MetaCommands.Noop
alone_meta (meta_gets key flags) = Commands.Meta (MetaCommands.Get key flags)
alone_meta (meta_deletes key flags) = Commands.Meta (MetaCommands.Delete key flags)
alone_meta ask = fault Unknown

-- the command of a meta request with a value; one that takes no value counts as unknown
abbrev pub value_meta : MetaAsk → List ℕ → Command
value_meta (meta_stores verb key flags bytes marks) value =
    Commands.Meta (MetaCommands.Set key (stored_by verb key flags value) marks)
value_meta (meta_exchanges key flags bytes unique marks) value =
    Commands.Meta (MetaCommands.Set key (Calls.Cas flags key unique value) marks)
value_meta ask value = fault Unknown

-- the command of a request without a block; a request that needs a block, or ends the connection,
-- counts as unknown
abbrev pub alone_command : Ask → Bool → Command
alone_command (gets keys unique) quiet = Commands.Get keys unique
alone_command (deletes key) quiet = Commands.Delete key quiet
alone_command (counts key up amount) quiet = Commands.Count key up amount quiet
alone_command tells_version quiet = Commands.Version
alone_command tells_counts quiet = Commands.Stats
alone_command sets_verbosity quiet = Commands.Verbosity quiet
alone_command flushes quiet = Commands.Flush quiet
alone_command (metas ask) quiet = alone_meta ask
alone_command ask quiet = fault Unknown

-- the command of a request with a value; a request that takes no value counts as unknown
abbrev pub value_command : Ask → Bool → List ℕ → Command
value_command (stores verb key flags bytes) quiet value = Commands.Store verb key flags value quiet
value_command (exchanges key flags bytes unique) quiet value = Commands.Cas key flags unique value quiet
value_command (metas ask) quiet value = value_meta ask value
value_command ask quiet value = fault Unknown

-- ---- keys

-- the first word, if there is one
abbrev pub first_word : List (List ℕ) → List (List ℕ)
first_word [] = []
first_word (word ∷ words) = word ∷ []

-- those of some words that are keys
abbrev pub key_words : KeysAmong → List (List ℕ) → List (List ℕ)
key_words no_word words = []
key_words one_word words = first_word words
key_words each_word words = words

-- the keys among the words that follow a name
abbrev pub keys_among : Name → List (List ℕ) → List (List ℕ)
keys_among name words = key_words (which_keys name) words

-- the keys of what a meta line asks for
abbrev pub meta_ask_keys : MetaAsk → List (List ℕ)
meta_ask_keys (meta_gets key flags) = key ∷ []
meta_ask_keys (meta_stores verb key flags bytes marks) = key ∷ []
meta_ask_keys (meta_exchanges key flags bytes unique marks) = key ∷ []
meta_ask_keys (meta_deletes key flags) = key ∷ []
meta_ask_keys ask = []

-- the keys of what a line asks for
abbrev pub ask_keys : Ask → List (List ℕ)
ask_keys (stores verb key flags bytes) = key ∷ []
ask_keys (exchanges key flags bytes unique) = key ∷ []
ask_keys (gets keys unique) = keys
ask_keys (deletes key) = key ∷ []
ask_keys (counts key up amount) = key ∷ []
ask_keys (metas ask) = meta_ask_keys ask
ask_keys ask = []

-- ---- numbers, from left to right

-- flags and bytes, if both are numbers
abbrev pub sizes : Option ℕ → Option ℕ → Option Sizes
sizes (Some flags) (Some bytes) = Some (record { flags = flags; bytes = bytes })
sizes flags bytes = None

-- flags and bytes; none unless both are numbers below 2^32 and the word between them is an exptime
abbrev pub sizes_of : List ℕ → List ℕ → List ℕ → Option Sizes
sizes_of flags exptime bytes =
    if is_exptime exptime then sizes (small_number_of flags) (small_number_of bytes) else None

-- the request to store under a key, with these sizes
abbrev pub store_ask : Verb → List ℕ → Sizes → Ask
store_ask verb key sizes = stores verb key sizes.flags sizes.bytes

-- the request to store in place of an item, with its unique
abbrev pub cas_ask : List ℕ → Option Sizes → Option ℕ → Option Ask
cas_ask key (Some sizes) (Some unique) = Some (exchanges key sizes.flags sizes.bytes unique)
cas_ask key sizes unique = None

-- key, flags, exptime and bytes
abbrev pub store_words : Verb → List (List ℕ) → Option Ask
store_words verb (key ∷ flags ∷ exptime ∷ bytes ∷ []) =
    option_map (store_ask verb key) (sizes_of flags exptime bytes)
store_words verb words = None

-- key, flags, exptime, bytes and unique
abbrev pub cas_words : List (List ℕ) → Option Ask
cas_words (key ∷ flags ∷ exptime ∷ bytes ∷ unique ∷ []) =
    cas_ask key (sizes_of flags exptime bytes) (number_of unique)
cas_words words = None

-- this request, if no word follows or a zero
abbrev pub with_zero : Ask → List (List ℕ) → Option Ask
with_zero ask [] = Some ask
with_zero ask (zero ∷ []) = if is_zero zero then Some ask else None
with_zero ask words = None

-- a key, and a zero that may follow it
abbrev pub key_zero : (List ℕ → Ask) → List (List ℕ) → Option Ask
key_zero ask (key ∷ words) = with_zero (ask key) words
key_zero ask words = None

-- a key, and a zero that may follow it
abbrev pub delete_words : List (List ℕ) → Option Ask
delete_words words = key_zero deletes words

-- a key and a number
abbrev pub key_number : (List ℕ → ℕ → Ask) → List (List ℕ) → Option Ask
key_number ask (key ∷ number ∷ []) = option_map (ask key) (number_of number)
key_number ask words = None

-- the request to count a key up or down by an amount
abbrev pub count_by : Bool → List ℕ → ℕ → Ask
count_by up key amount = counts key up amount

-- key and amount
abbrev pub count_words : Bool → List (List ℕ) → Option Ask
count_words up words = key_number (count_by up) words

-- a number, which has no effect
abbrev pub verbosity_words : List (List ℕ) → Option Ask
verbosity_words (number ∷ []) = option_map (λ _. sets_verbosity) (small_number_of number)
verbosity_words words = None

-- what a name asks for with the words that follow, without noreply; none if a number is bad
abbrev pub ask_of : Name → List (List ℕ) → Option Ask
ask_of (Store verb) words = store_words verb words
ask_of Cas words = cas_words words
ask_of (Get unique) words = Some (gets words unique)
ask_of Delete words = delete_words words
ask_of (Count up) words = count_words up words
ask_of Version words = Some tells_version
ask_of Stats words = Some tells_counts
ask_of Verbosity words = verbosity_words words
ask_of Flush words = with_zero flushes words
ask_of Quit words = Some quits

-- the fault of a bad number
abbrev pub number_fault : Name → ErrorLine
number_fault (Count up) = BadDelta
number_fault name = BadLine

-- ---- the checks in their order

-- a check that must pass, its fault, and what the line says if it passes
abbrev pub check : Bool → ErrorLine → Form → Form
check true fault form = form
check false fault form = faulty fault

-- a value that must be found, the fault if it is not, and what the line says of it
abbrev pub find : {A : Type 0} → Option A → ErrorLine → (A → Form) → Form
find (Some found) fault form = form found
find None fault form = faulty fault

-- what a name says with the words that follow: first the keys are checked, then the numbers
abbrev pub form_with : Name → Following → Form
form_with name following =
    check (list_all is_key (keys_among name following.words)) BadLine (
    find (ask_of name following.words) (number_fault name) (λ ask.
    asks ask following.quiet))

-- what a name says with the words after it: first their number is checked, and noreply if it is
-- required
abbrev pub form_after : Name → List (List ℕ) → Form
form_after name words =
    find (following_of (arity_of name) words) Unknown (λ following. form_with name following)

-- what the words of a line say, unless it is a meta command
abbrev pub form_of : List (List ℕ) → Form
form_of [] = faulty Unknown
form_of (name ∷ words) = find (name_of name) Unknown (λ name. form_after name words)

-- ---- lines

-- what a line says as a meta command, which does not take the word noreply
abbrev pub meta_form : List ℕ → MetaLine → Form
meta_form line Metas.Other = faulty Unknown
meta_form line Metas.WrongCount = faulty Unknown
meta_form line Metas.Bad = faulty BadLine
meta_form line Metas.Noop = asks (metas noops) false
meta_form line (Metas.Get key flags) = asks (metas (meta_gets (bytes_in line key) flags)) false
meta_form line (Metas.Set key bytes flags unique mode marks) =
    asks (metas (storing_ask (bytes_in line key) bytes flags unique mode marks)) false
meta_form line (Metas.Delete key flags) = asks (metas (meta_deletes (bytes_in line key) flags)) false

-- what a line with these words says: the name of a meta command decides how it is read
abbrev pub form_in : List ℕ → List (List ℕ) → Form
form_in line [] = faulty Unknown
form_in line (name ∷ words) =
    if is_meta_name name then meta_form line (meta_line line) else form_of (name ∷ words)

-- what a line says
abbrev pub line_form : List ℕ → Form
line_form line = form_in line (words line)
