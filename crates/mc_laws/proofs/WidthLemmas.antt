-- The width of a command, which is the number of its keys and letters: how many calls a command of some width has, and
-- that a command is no wider than its line has bytes.
use Rattle.std.specs.Prelude.{◌&&◌, if◌then◌else◌, Option, None, Some, IfSome, not}
use Rattle.std.specs.List.{list_all}
use Rattle.std.proofs.Common.{ℕ, ◌+◌, ◌*◌, ◌≤◌, List, [], ◌∷◌, length, Bool, true, false, ap, arith}
use Rattle.std.proofs.lemmas.List.{length-map}
use Rattle.std.proofs.lemmas.List.FromFn.{length-map-range_with_len}
use Rattle.mc_calls.specs.declared.call.Call.{Call}
use Rattle.mc_calls.specs.Call.{key_of}
use Rattle.mc_meta.specs.declared.meta_line.MetaLine.{MetaLine}
use Rattle.mc_meta.specs.declared.meta_line.MetaLine.TheVariants as Lines
use Rattle.mc_meta.specs.Key.{bytes_in}
use Rattle.mc_meta.specs.Words.{words}
use Rattle.mc_meta.specs.Meta.{is_meta_name, is_key, meta_line}
use Rattle.mc_laws.proofs.LineWidthLemmas.{line_width, words_few, meta_line_width}
use Rattle.mc_parse.specs.declared.command.Command.{Command}
use Rattle.mc_parse.specs.declared.command.Command.TheVariants.{Fault}
use Rattle.mc_parse.specs.declared.error_line.ErrorLine.{ErrorLine}
use Rattle.mc_parse.specs.declared.error_line.ErrorLine.TheVariants as Errors
use Rattle.mc_parse.specs.declared.name.Name.{Name}
use Rattle.mc_parse.specs.Name.{name_of, arity_of}
use Rattle.mc_parse.specs.Arity.{Following, but_last, following, has_count, lacks_noreply, asks_silence}
use Rattle.mc_parse.specs.MetaAsk.{MetaAsk, meta_gets, meta_stores, storing_ask}
use Rattle.mc_parse.specs.Form.{Ask, metas, Form, faulty, asks, is_key, first_word, keys_among, ask_of, number_fault, check, find, form_with, form_after, form_of, meta_form, form_in, line_form}
use Rattle.mc_parse.specs.Meaning.{is_ended, value_of, alone_meta, value_meta, value_command, command_for, block_command_for, large_command_for, line_command, block_command, large_command}
use Rattle.mc_parse.specs.OnAll.{made_by}
use Rattle.mc_parse.specs.Deed.{Deed, does_nothing, makes_one, gets_each, makes_on_all, deed_of}
use Rattle.mc_parse.specs.Saying.{Saying, says_marks}
use Rattle.mc_parse.specs.Deed.{says_of}
use Rattle.mc_parse.specs.Calls.{calls_of, calls_by, call_alone, on_shard, get_at}
use Rattle.mc_parse.proofs.AskLemmas.{meta_width, ask_width, Reads, reads, keys_by_name}

-- ---- widths

-- the number of keys of which each is got
abbrev pub keys_in : Deed → ℕ
keys_in (gets_each keys) = length keys
keys_in deed = 0

-- the number of letters of which marks are shown
abbrev pub letters_in : Saying → ℕ
letters_in (says_marks about key letters) = length letters
letters_in says = 0

-- the number of keys of a retrieval, and of letters of a meta command
abbrev pub width : Command → ℕ
width command = keys_in (deed_of command) + letters_in (says_of command)

abbrev form_width : Form → ℕ
form_width (faulty line) = 0
form_width (asks ask quiet) = ask_width ask

-- ---- classic lines

first_few : (ws : List (List ℕ)) → length (first_word ws) ≤ length ws
first_few [] = omega arith
first_few (word ∷ ws) = omega arith

keys_few : (name : Name) (ws : List (List ℕ)) → length (keys_among name ws) ≤ length ws
keys_few name ws = keys_by_name (λ (keys : List (List ℕ)). length keys ≤ length ws) name ws (omega arith) (first_few ws) (omega arith)

found_width : (name : Name) (ws : List (List ℕ)) (ask : Option Ask) (fault : ErrorLine) (quiet : Bool) → IfSome ask (Reads name ws) → form_width (find ask fault (λ a. asks a quiet)) ≤ length ws
found_width name ws None fault quiet says = omega arith
found_width name ws (Some ask) fault quiet says =
    let size = ap (λ (keys : List (List ℕ)). length keys) says.keys in
    omega (arith, says.width, size, keys_few name ws)

but_last_few : (ws : List (List ℕ)) → length (but_last ws) ≤ length ws
but_last_few [] = omega arith
but_last_few (word ∷ []) = omega arith
but_last_few (word ∷ next ∷ ws) = let rest = but_last_few (next ∷ ws) in omega (arith, rest)

following_few : (ws : List (List ℕ)) (quiet : Bool) → length (following ws quiet).words ≤ length ws
following_few ws true = but_last_few ws
following_few ws false = omega arith

checked_width : (name : Name) (n : ℕ) (f : Following) → length f.words ≤ n → form_width (form_with name f) ≤ n
checked_width name n f few = go (list_all is_key (keys_among name f.words))
  where
    go : (b : Bool) → form_width (check b Errors.BadLine (find (ask_of name f.words) (number_fault name) (λ ask. asks ask f.quiet))) ≤ n
    go true = omega (arith, found_width name f.words (ask_of name f.words) (number_fault name) f.quiet (reads name f.words), few)
    go false = omega arith

after_width : (name : Name) (ws : List (List ℕ)) → form_width (form_after name ws) ≤ length ws
after_width name ws = go (has_count (arity_of name) (length ws) && not (lacks_noreply (arity_of name) ws))
  where
    go : (b : Bool) → form_width (find (if b then Some (following ws (asks_silence (arity_of name) ws)) else None) Errors.Unknown (λ f. form_with name f)) ≤ length ws
    go true = checked_width name (length ws) (following ws (asks_silence (arity_of name) ws)) (following_few ws (asks_silence (arity_of name) ws))
    go false = omega arith

named_width : (name : Option Name) (ws : List (List ℕ)) → form_width (find name Errors.Unknown (λ name. form_after name ws)) ≤ length ws
named_width None ws = omega arith
named_width (Some name) ws = after_width name ws

classic_width : (word : List ℕ) (ws : List (List ℕ)) → form_width (form_of (word ∷ ws)) ≤ length ws
classic_width word ws = named_width (name_of word) ws

-- ---- lines

storing_width : (key : List ℕ) (bytes flags : ℕ) (unique : Option ℕ) (mode : ℕ) (marks : List ℕ) → meta_width (storing_ask key bytes flags unique mode marks) ≤ length marks
storing_width key bytes flags None mode marks = omega arith
storing_width key bytes flags (Some unique) mode marks = omega arith

meta_form_width : (line : List ℕ) (said : MetaLine) → form_width (meta_form line said) ≤ line_width said
meta_form_width line (Lines.Set key bytes flags unique mode marks) = storing_width (bytes_in line key) bytes flags unique mode marks
meta_form_width line said = omega arith

line_form_width : (line : List ℕ) → form_width (line_form line) ≤ length line
line_form_width line = go (words line) (words_few line)
  where
    choose : (b : Bool) (form : Form) → form_width form ≤ length line → form_width (if b then meta_form line (meta_line line) else form) ≤ length line
    choose true form few = omega (arith, meta_form_width line (meta_line line), meta_line_width line)
    choose false form few = few

    go : (ws : List (List ℕ)) → length ws ≤ length line + 1 → form_width (form_in line ws) ≤ length line
    go [] few = omega arith
    go (word ∷ ws) few = choose (is_meta_name word) (form_of (word ∷ ws)) (omega (arith, few, classic_width word ws))

-- ---- commands

alone_meta_width : (ask : MetaAsk) → width (alone_meta ask) ≤ meta_width ask
alone_meta_width (meta_gets key flags) = omega arith
alone_meta_width ask = omega arith

value_meta_width : (ask : MetaAsk) (value : List ℕ) → width (value_meta ask value) ≤ meta_width ask
value_meta_width (meta_stores verb key flags bytes marks) value = omega arith
value_meta_width ask value = omega arith

alone_width : (form : Form) → width (command_for form) ≤ form_width form
alone_width (faulty line) = omega arith
alone_width (asks (metas ask) quiet) = alone_meta_width ask
alone_width (asks ask quiet) = omega arith

value_width : (ask : Ask) (quiet : Bool) (value : List ℕ) → width (value_command ask quiet value) ≤ ask_width ask
value_width (metas ask) quiet value = value_meta_width ask value
value_width ask quiet value = omega arith

ended_width : (form : Form) (block : List ℕ) → width (block_command_for block form) ≤ form_width form
ended_width (faulty line) block = omega arith
ended_width (asks ask quiet) block = go (is_ended block)
  where
    go : (b : Bool) → width (if b then value_command ask quiet (value_of block) else Fault Errors.BadChunk quiet) ≤ ask_width ask
    go true = value_width ask quiet (value_of block)
    go false = omega arith

refused_width : (form : Form) → width (large_command_for form) ≤ 0
refused_width (faulty line) = omega arith
refused_width (asks ask quiet) = omega arith

pub line_command_width : (line : List ℕ) → width (line_command line) ≤ length line
unfolding line_command
line_command_width line = omega (arith, alone_width (line_form line), line_form_width line)

pub block_command_width : (line block : List ℕ) → width (block_command line block) ≤ length line
unfolding block_command
block_command_width line block = omega (arith, ended_width (line_form line) block, line_form_width line)

pub large_command_width : (line : List ℕ) → width (large_command line) ≤ length line
unfolding large_command
large_command_width line = omega (arith, refused_width (line_form line))

-- ---- calls

alone_few : (shards : ℕ) (call : Call) (key : Option (List ℕ)) → length (call_alone shards call key) ≤ 1
alone_few shards call None = omega arith
alone_few shards call (Some key) = omega arith

deed_few : (shards : ℕ) (deed : Deed) → shards ≤ 256 → length (calls_by shards deed) ≤ 256 * (keys_in deed + 1)
deed_few shards does_nothing few = omega arith
deed_few shards (makes_one call) few = omega (arith, alone_few shards call (key_of call))
deed_few shards (gets_each keys) few = let size = length-map keys (get_at shards) in omega (arith, size)
deed_few shards (makes_on_all made) few = let size = length-map-range_with_len (on_shard (made_by made)) 0 shards in omega (arith, size, few)

-- the number of calls of a command, on at most 256 shards
pub calls_few : (shards : ℕ) (command : Command) → shards ≤ 256 → length (calls_of shards command) ≤ 256 * (width command + 1)
calls_few shards command few = omega (arith, deed_few shards (deed_of command) few)
