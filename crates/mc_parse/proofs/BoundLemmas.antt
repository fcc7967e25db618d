-- The keys and values of commands, and so of the expected calls, are within their bounds.
use Rattle.std.specs.Prelude.{◌&&◌, if◌then◌else◌, filter, Option, None, Some, not}
use Rattle.std.specs.List.{AllByRecursion, list_all, range_with_len}
use Rattle.std.proofs.Common.{◌≡◌, ℕ, zero, suc, ◌+◌, ◌<◌, ◌≤◌, List, [], ◌∷◌, length, map, Bool, true, false, refl, sym, subst, arith, ◌-◌, drop, length-take}
use Rattle.std.specs.Prelude.{IfSome, ⊤}
use Rattle.std.proofs.lemmas.List.{length-drop}
use borrow.Author.Tests.{leb-true}
use Rattle.mc_calls.specs.declared.call.Call.{Call}
use Rattle.mc_calls.specs.Call.{key_of}
use Rattle.mc_calls.specs.Bounds.{IsKey, IsValue, IsCall}
use Rattle.mc_parse.specs.declared.command.Command.{Command}
use Rattle.mc_parse.specs.declared.command.Command.TheVariants.{Fault}
use Rattle.mc_meta.specs.declared.meta_line.Span.{Span}
use Rattle.mc_meta.specs.declared.meta_line.MetaLine.{MetaLine}
use Rattle.mc_meta.specs.declared.meta_line.MetaLine.TheVariants as Metas
use Rattle.mc_meta.specs.Meta.{is_meta_name, meta_line}
use Rattle.mc_meta.specs.Key.{key_of as key_at, bytes_in, IsKeyIn}
use Rattle.mc_meta.proofs.KeyLemmas.{line_key}
use Rattle.mc_parse.specs.declared.error_line.ErrorLine.{ErrorLine}
use Rattle.mc_parse.specs.declared.error_line.ErrorLine.TheVariants as Errors
use Rattle.mc_parse.specs.declared.name.Name.{Name}
use Rattle.mc_parse.specs.declared.shard_call.ShardCall.{ShardCall}
use Rattle.mc_parse.specs.Words.{words, has_byte, pieces_of}
use Rattle.mc_parse.specs.Name.{name_of, arity_of}
use Rattle.mc_parse.specs.Arity.{Following, but_last, following, has_count, lacks_noreply, asks_silence}
use Rattle.mc_parse.specs.MetaAsk.{MetaAsk, meta_gets, meta_stores, meta_exchanges, meta_deletes, storing_ask}
use Rattle.mc_parse.specs.Form.{meta_ask_keys, ask_keys, Ask, stores, exchanges, gets, counts, metas, Form, faulty, asks, is_key, first_word, keys_among, ask_of, number_fault, check, find, form_with, form_after, form_of, meta_form, form_in, line_form}
use Rattle.mc_parse.specs.Meaning.{is_ended, value_of, alone_meta, value_meta, alone_command, value_command, command_for, block_command_for, large_command_for, line_command, block_command, large_command}
use Rattle.mc_parse.specs.OnAll.{made_by}
use Rattle.mc_parse.specs.Deed.{Deed, does_nothing, makes_one, gets_each, makes_on_all, deed_of}
use Rattle.mc_parse.specs.Calls.{calls_of, calls_by, get_calls, call_alone, on_shard, tagged, due_at, due_from}
use Rattle.mc_calls.specs.Code.{call_value}
use Rattle.mc_calls.proofs.CodeLemmas.{call_within}
use Rattle.mc_parse.specs.Plain.{key_list, deed_keys}
use Rattle.mc_parse.specs.Bounds.{IsDeed, IsCommand, IsShardCall, IsDueWithin}
use Rattle.mc_parse.proofs.AskLemmas.{Reads, reads, keys_by_name}
use Rattle.mc_parse.proofs.DeedLemmas.{counted_key, stored_bound, on_all_bound}
use Rattle.mc_parse.proofs.PlainLemmas.{each-append}
use Rattle.mc_parse.proofs.ArityLemmas.{both}

-- ---- words

-- a property of each word that a line has: it has a byte
AreSome : List (List ℕ) → Type 0
AreSome ws = list_all has_byte ws ≡ true

kept_some : (pieces : List (List ℕ)) → AreSome (filter has_byte pieces)
unfolding AreSome
kept_some [] = refl
kept_some ([] ∷ pieces) = kept_some pieces
kept_some ((byte ∷ bytes) ∷ pieces) = kept_some pieces

words_some : (line : List ℕ) → AreSome (words line)
unfolding words
words_some line = kept_some (pieces_of line)

but_last_some : (ws : List (List ℕ)) → AreSome ws → AreSome (but_last ws)
unfolding AreSome
but_last_some [] are = refl
but_last_some (word ∷ []) are = refl
but_last_some (word ∷ next ∷ ws) are =
    let parts = both (has_byte word) (list_all has_byte (next ∷ ws)) are in
    rw parts.0 (but_last_some (next ∷ ws) parts.1)

following_some : (ws : List (List ℕ)) (quiet : Bool) → AreSome ws → AreSome (following ws quiet).words
following_some ws true are = but_last_some ws are
following_some ws false are = are

-- a word that is not too long is a key
key_word : (word : List ℕ) → has_byte word ≡ true → is_key word ≡ true → IsKey word
key_word [] some short = absurd (cc)
key_word (byte ∷ bytes) some short = (omega arith, leb-true (length (byte ∷ bytes)) 250 short)

all_keys : (ws : List (List ℕ)) → AreSome ws → list_all is_key ws ≡ true → AllByRecursion IsKey ws
unfolding AreSome
all_keys [] some short = tt
all_keys (word ∷ ws) some short =
    let bytes = both (has_byte word) (list_all has_byte ws) some in
    let sizes = both (is_key word) (list_all is_key ws) short in
    (key_word word bytes.0 sizes.0, all_keys ws bytes.1 sizes.1)

-- ---- what a line asks for

-- the keys of what a line says are within their bounds
abbrev IsForm : Form → Type 0
IsForm (faulty line) = ⊤
IsForm (asks ask quiet) = AllByRecursion IsKey (ask_keys ask)

found_form : (name : Name) (ws : List (List ℕ)) (ask : Option Ask) (fault : ErrorLine) (quiet : Bool) → AllByRecursion IsKey (keys_among name ws) → IfSome ask (Reads name ws) → IsForm (find ask fault (λ a. asks a quiet))
found_form name ws None fault quiet are says = tt
found_form name ws (Some ask) fault quiet are says = subst (AllByRecursion IsKey) (sym says.keys) are

none_some : AreSome []
unfolding AreSome
none_some = refl

first_some : (ws : List (List ℕ)) → AreSome ws → AreSome (first_word ws)
unfolding AreSome
first_some [] some = refl
first_some (word ∷ ws) some = rw (both (has_byte word) (list_all has_byte ws) some).0 refl

checked_form : (name : Name) (f : Following) → AreSome f.words → IsForm (form_with name f)
checked_form name f some = go (list_all is_key (keys_among name f.words)) refl
  where
    some_keys : AreSome (keys_among name f.words)
    some_keys = keys_by_name AreSome name f.words none_some (first_some f.words some) some

    go : (b : Bool) → list_all is_key (keys_among name f.words) ≡ b → IsForm (check b Errors.BadLine (find (ask_of name f.words) (number_fault name) (λ ask. asks ask f.quiet)))
    go true is = found_form name f.words (ask_of name f.words) (number_fault name) f.quiet (all_keys (keys_among name f.words) some_keys is) (reads name f.words)
    go false is = tt

after_form : (name : Name) (ws : List (List ℕ)) → AreSome ws → IsForm (form_after name ws)
after_form name ws some = go (has_count (arity_of name) (length ws) && not (lacks_noreply (arity_of name) ws))
  where
    go : (b : Bool) → IsForm (find (if b then Some (following ws (asks_silence (arity_of name) ws)) else None) Errors.Unknown (λ f. form_with name f))
    go true = checked_form name (following ws (asks_silence (arity_of name) ws)) (following_some ws (asks_silence (arity_of name) ws) some)
    go false = tt

named_form : (name : Option Name) (ws : List (List ℕ)) → AreSome ws → IsForm (find name Errors.Unknown (λ name. form_after name ws))
named_form None ws some = tt
named_form (Some name) ws some = after_form name ws some

words_form : (ws : List (List ℕ)) → AreSome ws → IsForm (form_of ws)
unfolding AreSome
words_form [] some = tt
words_form (word ∷ ws) some = named_form (name_of word) ws (both (has_byte word) (list_all has_byte ws) some).1

-- ---- meta lines

-- a key in its line is a key
key_bound : (line : List ℕ) (key : Span) → IsKeyIn line key → IsKey (bytes_in line key)
key_bound line key is =
    let size = length-take (key.to - key.from) (drop key.from line) in
    let after = length-drop key.from line in
    (omega (arith, size, after, is.some, is.within), omega (arith, size, after, is.some, is.within, is.short))

storing_bound : (key : List ℕ) (bytes flags : ℕ) (unique : Option ℕ) (mode : ℕ) (marks : List ℕ) → IsKey key → AllByRecursion IsKey (meta_ask_keys (storing_ask key bytes flags unique mode marks))
storing_bound key bytes flags None mode marks is = (is, tt)
storing_bound key bytes flags (Some unique) mode marks is = (is, tt)

meta_bound : (line : List ℕ) (said : MetaLine) → IfSome (key_at said) (IsKeyIn line) → IsForm (meta_form line said)
meta_bound line (Metas.Get key flags) is = (key_bound line key is, tt)
meta_bound line (Metas.Set key bytes flags unique mode marks) is = storing_bound (bytes_in line key) bytes flags unique mode marks (key_bound line key is)
meta_bound line (Metas.Delete key flags) is = (key_bound line key is, tt)
meta_bound line said is = tt

line_keys : (line : List ℕ) → IsForm (line_form line)
line_keys line = go (words line) (words_some line)
  where
    choose : (b : Bool) (form : Form) → IsForm form → IsForm (if b then meta_form line (meta_line line) else form)
    choose true form is = meta_bound line (meta_line line) (line_key line)
    choose false form is = is

    go : (ws : List (List ℕ)) → AreSome ws → IsForm (form_in line ws)
    go [] some = tt
    go (word ∷ ws) some = choose (is_meta_name word) (form_of (word ∷ ws)) (words_form (word ∷ ws) some)

-- ---- commands

alone_meta_bound : (ask : MetaAsk) → AllByRecursion IsKey (meta_ask_keys ask) → IsCommand (alone_meta ask)
alone_meta_bound (meta_gets key flags) is = (is.0, is.0)
alone_meta_bound (meta_deletes key flags) is = (is.0, is.0)
alone_meta_bound ask is = (tt, tt)

value_meta_bound : (ask : MetaAsk) (value : List ℕ) → AllByRecursion IsKey (meta_ask_keys ask) → IsValue value → IsCommand (value_meta ask value)
value_meta_bound (meta_stores verb key flags bytes marks) value is small = (stored_bound verb key flags value is.0 small, is.0)
value_meta_bound (meta_exchanges key flags bytes unique marks) value is small = ((is.0, small), is.0)
value_meta_bound ask value is small = (tt, tt)

-- the keys of what is done are those of what was asked for
alone_keys : (ask : Ask) (quiet : Bool) → AllByRecursion IsKey (ask_keys ask) → AllByRecursion IsKey (deed_keys (deed_of (alone_command ask quiet)))
alone_keys (stores verb key flags bytes) quiet is = tt
alone_keys (exchanges key flags bytes unique) quiet is = tt
alone_keys (counts key up amount) quiet is = rw (counted_key up key amount) is
alone_keys (metas ask) quiet is = meta_keys ask is
  where
    meta_keys : (ask : MetaAsk) → AllByRecursion IsKey (meta_ask_keys ask) → AllByRecursion IsKey (deed_keys (deed_of (alone_meta ask)))
    meta_keys (meta_gets key flags) is = is
    meta_keys (meta_deletes key flags) is = is
    meta_keys ask is = tt
alone_keys ask quiet is = is

-- a deed has a value within its bound
abbrev HasFewBytes : Deed → Type 0
HasFewBytes (makes_one call) = IfSome (call_value call) IsValue
HasFewBytes deed = ⊤

-- without a block there is none
alone_bytes : (ask : Ask) (quiet : Bool) → HasFewBytes (deed_of (alone_command ask quiet))
alone_bytes (counts key true amount) quiet = tt
alone_bytes (counts key false amount) quiet = tt
alone_bytes (metas ask) quiet = meta_bytes ask
  where
    meta_bytes : (ask : MetaAsk) → HasFewBytes (deed_of (alone_meta ask))
    meta_bytes (meta_gets key flags) = tt
    meta_bytes ask = tt
alone_bytes ask quiet = tt

-- what is done is within its bounds where its keys and its value are
deed_bound : (deed : Deed) → AllByRecursion IsKey (deed_keys deed) → HasFewBytes deed → IsDeed deed
deed_bound does_nothing keys value = tt
deed_bound (makes_one call) keys value = call_within call (go (key_of call) keys) value
  where
    go : (key : Option (List ℕ)) → AllByRecursion IsKey (key_list key) → IfSome key IsKey
    go None each = tt
    go (Some key) each = each.0
deed_bound (gets_each keys) each value = each
deed_bound (makes_on_all made) keys value = tt

alone_bound : (form : Form) → IsForm form → IsCommand (command_for form)
alone_bound (faulty line) is = (tt, tt)
alone_bound (asks (gets keys unique) quiet) is = (is, is)
alone_bound (asks (metas ask) quiet) is = alone_meta_bound ask is
alone_bound (asks ask quiet) is = (deed_bound (deed_of (alone_command ask quiet)) (alone_keys ask quiet is) (alone_bytes ask quiet), tt)

value_bound : (ask : Ask) (quiet : Bool) (value : List ℕ) → AllByRecursion IsKey (ask_keys ask) → IsValue value → IsCommand (value_command ask quiet value)
value_bound (stores verb key flags bytes) quiet value is small = (stored_bound verb key flags value is.0 small, tt)
value_bound (exchanges key flags bytes unique) quiet value is small = ((is.0, small), tt)
value_bound (metas ask) quiet value is small = value_meta_bound ask value is small
value_bound ask quiet value is small = (tt, tt)

ended_bound : (form : Form) (block : List ℕ) → IsForm form → IsValue (value_of block) → IsCommand (block_command_for block form)
ended_bound (faulty line) block is small = (tt, tt)
ended_bound (asks ask quiet) block is small = go (is_ended block)
  where
    go : (b : Bool) → IsCommand (if b then value_command ask quiet (value_of block) else Fault Errors.BadChunk quiet)
    go true = value_bound ask quiet (value_of block) is small
    go false = (tt, tt)

refused_bound : (form : Form) → IsCommand (large_command_for form)
refused_bound (faulty line) = (tt, tt)
refused_bound (asks ask quiet) = (tt, tt)

-- the command of a line that needs nothing is within its bounds
pub line_within : (line : List ℕ) → IsCommand (line_command line)
unfolding line_command
line_within line = alone_bound (line_form line) (line_keys line)

-- so is the command of a line with a block within its bound
pub block_within : (line block : List ℕ) → IsValue (value_of block) → IsCommand (block_command line block)
unfolding block_command
block_within line block small = ended_bound (line_form line) block (line_keys line) small

-- so is the command of a line with a block that is too large
pub large_within : (line : List ℕ) → IsCommand (large_command line)
unfolding large_command
large_within line = refused_bound (line_form line)

-- ---- calls

gets_within : (shards : ℕ) (keys : List (List ℕ)) → AllByRecursion IsKey keys → AllByRecursion IsShardCall (get_calls shards keys)
gets_within shards [] each = tt
gets_within shards (key ∷ keys) each = (each.0, gets_within shards keys each.1)

on_all_within : (call : Call) (first count : ℕ) → IsCall call → AllByRecursion IsShardCall (map (on_shard call) (range_with_len first count))
on_all_within call first zero is = tt
on_all_within call first (suc count) is = (is, on_all_within call (first + 1) count is)

alone_within : (shards : ℕ) (call : Call) (key : Option (List ℕ)) → IsCall call → AllByRecursion IsShardCall (call_alone shards call key)
alone_within shards call None is = tt
alone_within shards call (Some key) is = (is, tt)

deed_within : (shards : ℕ) (deed : Deed) → IsDeed deed → AllByRecursion IsShardCall (calls_by shards deed)
deed_within shards does_nothing is = tt
deed_within shards (makes_one call) is = alone_within shards call (key_of call) is
deed_within shards (gets_each keys) is = gets_within shards keys is
deed_within shards (makes_on_all made) is = on_all_within (made_by made) 0 shards (on_all_bound made)

-- the calls of a command within its bounds are within their bounds
pub calls_within : (shards : ℕ) (command : Command) → IsCommand command → AllByRecursion IsShardCall (calls_of shards command)
calls_within shards command is = deed_within shards (deed_of command) is.0

tagged_within : (n conn index part : ℕ) (calls : List ShardCall) → index < n → AllByRecursion IsShardCall calls → AllByRecursion (IsDueWithin n) (tagged conn index part calls)
tagged_within n conn index part [] within each = tt
tagged_within n conn index part (call ∷ calls) within each = ((each.0, within), tagged_within n conn index (part + 1) calls within each.1)

-- so are the expected calls
pub due_from_within : (n shards conn index : ℕ) (commands : List Command) → index + length commands ≤ n → AllByRecursion IsCommand commands → AllByRecursion (IsDueWithin n) (due_from shards conn index commands)
due_from_within n shards conn index [] within each = tt
due_from_within n shards conn index (command ∷ commands) within each =
    each-append (IsDueWithin n) (due_at shards conn index command) (due_from shards conn (index + 1) commands)
    (tagged_within n conn index 0 (calls_of shards command) (omega arith) (calls_within shards command each.0))
    (due_from_within n shards conn (index + 1) commands (omega arith) each.1)
