-- The calls of plain commands are steady and use their keys alone; and what lines of plain commands
-- mean.
use Rattle.std.proofs.Common.{◌≡◌, ℕ, ◌+◌, ◌<◌, true, false, List, [], ◌∷◌, ◌++◌, refl, sym, ap, ◌∙◌, arith}
use Rattle.std.specs.Prelude.{map, All, Bool, if◌then◌else◌, Option, None, Some}
use Rattle.std.specs.List.{AllByRecursion, Contains}
use Rattle.std.proofs.lemmas.List.{map-append}
use Rattle.std.proofs.lemmas.List.Elements.{recursion_from_All, Contains-append_left, Contains-append_right}
use Rattle.mc_calls.specs.declared.call.Call.{Call}
use Rattle.mc_calls.specs.declared.call.Call.TheVariants.{Get as GetCall}
use Rattle.mc_calls.specs.Call.{key_of}
use Rattle.mc_parse.specs.declared.command.Command.{Command}
use Rattle.mc_parse.specs.declared.command.Command.TheVariants.{Fault}
use Rattle.mc_parse.specs.declared.verb.Verb.{Verb}
use Rattle.mc_parse.specs.declared.shard_call.ShardCall.{ShardCall}
use Rattle.mc_parse.specs.declared.error_line.ErrorLine.TheVariants.{BadChunk}
use Rattle.mc_parse.specs.MetaAsk.{MetaAsk, meta_gets, meta_stores, meta_exchanges, meta_deletes}
use Rattle.mc_parse.specs.Form.{ask_keys, Ask, stores, exchanges, gets, counts, flushes, tells_counts, metas, Form, faulty, asks, line_form}
use Rattle.mc_parse.specs.Meaning.{is_ended, value_of, alone_meta, value_meta, value_command, command_for, block_command_for, large_command_for, line_command, block_command, large_command}
use Rattle.mc_parse.specs.Deed.{Deed, does_nothing, makes_one, gets_each, makes_on_all, deed_of, stored_by, counted_by}
use Rattle.mc_parse.specs.Calls.{Due, calls_of, calls_by, call_alone, get_at, on_shard, tag_of, tagged, due, due_from, due_at}
use Rattle.mc_parse.specs.Plain.{key_list, deed_keys, keys_of, all_keys_of, IsSteadyDeed, AreOwn, IsOwnMeta, IsPlain, IsKeyed, IsDueOwn, bare, IsOwnCommand, IsOwnAsk, IsOwnForm}
use Rattle.mc_parse.proofs.DeedLemmas.{stored_key, counted_key, stored_steady, counted_steady}

-- ---- lists

pub each-append : {X : Type 0} (P : X → Type 0) (xs ys : List X) → AllByRecursion P xs → AllByRecursion P ys → AllByRecursion P (xs ++ ys)
each-append P [] ys front back = back
each-append P (x ∷ xs) ys front back = (front.0, each-append P xs ys front.1 back)

first_in : (key : List ℕ) (keys : List (List ℕ)) → Contains (key ∷ keys) key
first_in key keys = (0, omega arith, refl)

-- ---- the calls of a command

gets_keyed : (shards : ℕ) (IsOwn : List ℕ → Type 0) (keys : List (List ℕ)) → ((key : List ℕ) → Contains keys key → IsOwn key) → AllByRecursion (IsKeyed shards IsOwn) (map (get_at shards) keys)
gets_keyed shards IsOwn [] own = tt
gets_keyed shards IsOwn (key ∷ keys) own = (
  record { key = key; named = refl; own = own key (first_in key keys); place = refl; steady = tt },
  gets_keyed shards IsOwn keys (λ k inside. own k (Contains-append_right (key ∷ []) keys k inside)),
)

deed_keyed : (shards : ℕ) (IsOwn : List ℕ → Type 0) (deed : Deed) → IsSteadyDeed deed → ((key : List ℕ) → Contains (deed_keys deed) key → IsOwn key)
    → AllByRecursion (IsKeyed shards IsOwn) (calls_by shards deed)
deed_keyed shards IsOwn does_nothing steady own = tt
deed_keyed shards IsOwn (makes_one call) steady own = go (key_of call) refl own
  where
    go : (found : Option (List ℕ)) → key_of call ≡ found → ((key : List ℕ) → Contains (key_list found) key → IsOwn key) → AllByRecursion (IsKeyed shards IsOwn) (call_alone shards call found)
    go None is own = tt
    go (Some key) is own = (record { key = key; named = is; own = own key (first_in key []); place = refl; steady = steady }, tt)
deed_keyed shards IsOwn (gets_each keys) steady own = gets_keyed shards IsOwn keys own
deed_keyed shards IsOwn (makes_on_all made) steady own = absurd steady

-- each call of a plain command is steady and uses one of its keys
calls_keyed : (shards : ℕ) (IsOwn : List ℕ → Type 0) (command : Command) → IsPlain command → ((key : List ℕ) → Contains (keys_of command) key → IsOwn key)
    → AllByRecursion (IsKeyed shards IsOwn) (calls_of shards command)
calls_keyed shards IsOwn command plain own = deed_keyed shards IsOwn (deed_of command) plain.0 own

-- ---- the expected calls of a connection

tagged_own : (shards count conn index part : ℕ) (keys : ℕ → List (List ℕ)) (calls : List ShardCall) → conn < count → AllByRecursion (IsKeyed shards (Contains (keys conn))) calls
    → AllByRecursion (IsDueOwn shards count keys) (tagged conn index part calls)
tagged_own shards count conn index part keys [] within keyed = tt
tagged_own shards count conn index part keys (call ∷ calls) within keyed =
    (record { within = within; keyed = keyed.0 }, tagged_own shards count conn index (part + 1) keys calls within keyed.1)

due_from_own : (shards count conn index : ℕ) (keys : ℕ → List (List ℕ)) (commands : List Command) → conn < count → AllByRecursion IsPlain commands
    → ((key : List ℕ) → Contains (all_keys_of commands) key → Contains (keys conn) key) → AllByRecursion (IsDueOwn shards count keys) (due_from shards conn index commands)
due_from_own shards count conn index keys [] within plain own = tt
due_from_own shards count conn index keys (command ∷ commands) within plain own =
    each-append (IsDueOwn shards count keys) (due_at shards conn index command) (due_from shards conn (index + 1) commands)
    (tagged_own shards count conn index 0 keys (calls_of shards command) within
    (calls_keyed shards (Contains (keys conn)) command plain.0 (λ key inside. own key (Contains-append_left (keys_of command) (all_keys_of commands) key inside))))
    (due_from_own shards count conn (index + 1) keys commands within plain.1 (λ key inside. own key (Contains-append_right (keys_of command) (all_keys_of commands) key inside)))

-- the expected calls of a connection whose commands are plain are steady and use its keys
pub due_own : (shards count conn : ℕ) (commands : ℕ → List Command) → conn < count → All IsPlain (commands conn)
    → AllByRecursion (IsDueOwn shards count (λ c. all_keys_of (commands c))) (due shards conn (commands conn))
due_own shards count conn commands within plain =
    due_from_own shards count conn 0 (λ c. all_keys_of (commands c)) (commands conn) within (recursion_from_All IsPlain (commands conn) plain) (λ key inside. inside)

-- ---- expected calls without their shards

gets_bare : (shards others conn index part : ℕ) (keys : List (List ℕ)) → map bare (tagged conn index part (map (get_at shards) keys)) ≡ map bare (tagged conn index part (map (get_at others) keys))
gets_bare shards others conn index part [] = refl
gets_bare shards others conn index part (key ∷ keys) =
    ap (λ (l : List Due). record { tag = tag_of conn index part; call = on_shard (GetCall key) 0 } ∷ l) (gets_bare shards others conn index (part + 1) keys)

deed_bare : (shards others conn index : ℕ) (deed : Deed) → IsSteadyDeed deed → map bare (tagged conn index 0 (calls_by shards deed)) ≡ map bare (tagged conn index 0 (calls_by others deed))
deed_bare shards others conn index does_nothing steady = refl
deed_bare shards others conn index (makes_one call) steady = go (key_of call)
  where
    go : (found : Option (List ℕ)) → map bare (tagged conn index 0 (call_alone shards call found)) ≡ map bare (tagged conn index 0 (call_alone others call found))
    go None = refl
    go (Some key) = refl
deed_bare shards others conn index (gets_each keys) steady = gets_bare shards others conn index 0 keys
deed_bare shards others conn index (makes_on_all made) steady = absurd steady

calls_bare : (shards others conn index : ℕ) (command : Command) → IsPlain command → map bare (due_at shards conn index command) ≡ map bare (due_at others conn index command)
calls_bare shards others conn index command plain = deed_bare shards others conn index (deed_of command) plain.0

due_from_bare : (shards others conn index : ℕ) (commands : List Command) → AllByRecursion IsPlain commands → map bare (due_from shards conn index commands) ≡ map bare (due_from others conn index commands)
due_from_bare shards others conn index [] plain = refl
due_from_bare shards others conn index (command ∷ commands) plain =
    map-append bare (due_at shards conn index command) (due_from shards conn (index + 1) commands)
    ∙ ap (λ (l : List Due). l ++ map bare (due_from shards conn (index + 1) commands)) (calls_bare shards others conn index command plain.0)
    ∙ ap (λ (l : List Due). map bare (due_at others conn index command) ++ l) (due_from_bare shards others conn (index + 1) commands plain.1)
    ∙ sym (map-append bare (due_at others conn index command) (due_from others conn (index + 1) commands))

-- apart from shards, plain commands have the same expected calls whatever the number of shards
pub due_bare : (shards others conn : ℕ) (commands : List Command) → All IsPlain commands → map bare (due shards conn commands) ≡ map bare (due others conn commands)
due_bare shards others conn commands plain = due_from_bare shards others conn 0 commands (recursion_from_All IsPlain commands plain)

-- ---- what lines say

one_own : (IsOwn : List ℕ → Type 0) (call : Call) (key : List ℕ) → key_of call ≡ Some key → IsOwn key → AllByRecursion IsOwn (key_list (key_of call))
one_own IsOwn call key is own = rw is (own, tt)

stores_own : (IsOwn : List ℕ → Type 0) (verb : Verb) (key : List ℕ) (flags : ℕ) (value : List ℕ) → IsOwn key → AllByRecursion IsOwn (key_list (key_of (stored_by verb key flags value)))
stores_own IsOwn verb key flags value own = one_own IsOwn (stored_by verb key flags value) key (stored_key verb key flags value) own

alone_meta_own : (IsOwn : List ℕ → Type 0) (ask : MetaAsk) → IsOwnMeta IsOwn ask → IsOwnCommand IsOwn (alone_meta ask)
alone_meta_own IsOwn (meta_gets key flags) own = record { plain = (tt, own.0); keys = (own.1, tt) }
alone_meta_own IsOwn (meta_deletes key flags) own = record { plain = (tt, tt); keys = (own, tt) }
alone_meta_own IsOwn ask own = record { plain = (tt, tt); keys = tt }

value_meta_own : (IsOwn : List ℕ → Type 0) (ask : MetaAsk) (value : List ℕ) → IsOwnMeta IsOwn ask → IsOwnCommand IsOwn (value_meta ask value)
value_meta_own IsOwn (meta_stores verb key flags bytes marks) value own = record { plain = (stored_steady verb key flags value, tt); keys = stores_own IsOwn verb key flags value own }
value_meta_own IsOwn (meta_exchanges key flags bytes unique marks) value own = absurd own
value_meta_own IsOwn ask value own = record { plain = (tt, tt); keys = tt }

all_own : (IsOwn : List ℕ → Type 0) (keys : List (List ℕ)) → AreOwn IsOwn keys → AllByRecursion IsOwn keys
all_own IsOwn [] own = tt
all_own IsOwn (key ∷ []) own = (own, tt)
all_own IsOwn (key ∷ next ∷ keys) own = own

-- the command of a plain line without a block is plain, and calls its keys alone
alone_own : (IsOwn : List ℕ → Type 0) (form : Form) → IsOwnForm IsOwn form → IsOwnCommand IsOwn (command_for form)
alone_own IsOwn (faulty line) own = record { plain = (tt, tt); keys = tt }
alone_own IsOwn (asks (stores verb key flags bytes) quiet) own = record { plain = (tt, tt); keys = tt }
alone_own IsOwn (asks (exchanges key flags bytes unique) quiet) own = absurd own
alone_own IsOwn (asks (gets keys true) quiet) own = absurd (let is = own.0 in cc)
alone_own IsOwn (asks (gets keys false) quiet) own = record { plain = (tt, tt); keys = own.1 }
alone_own IsOwn (asks (counts key up amount) quiet) own =
    record { plain = (counted_steady up key amount, tt); keys = one_own IsOwn (counted_by up key amount) key (counted_key up key amount) own }
alone_own IsOwn (asks flushes quiet) own = absurd own
alone_own IsOwn (asks tells_counts quiet) own = absurd own
alone_own IsOwn (asks (metas ask) quiet) own = alone_meta_own IsOwn ask own
alone_own IsOwn (asks ask quiet) own = record { plain = (tt, tt); keys = all_own IsOwn (ask_keys ask) own }

value_own : (IsOwn : List ℕ → Type 0) (ask : Ask) (quiet : Bool) (value : List ℕ) → IsOwnAsk IsOwn ask → IsOwnCommand IsOwn (value_command ask quiet value)
value_own IsOwn (stores verb key flags bytes) quiet value own = record { plain = (stored_steady verb key flags value, tt); keys = stores_own IsOwn verb key flags value own }
value_own IsOwn (exchanges key flags bytes unique) quiet value own = absurd own
value_own IsOwn (metas ask) quiet value own = value_meta_own IsOwn ask value own
value_own IsOwn ask quiet value own = record { plain = (tt, tt); keys = tt }

ended_own : (IsOwn : List ℕ → Type 0) (form : Form) (block : List ℕ) → IsOwnForm IsOwn form → IsOwnCommand IsOwn (block_command_for block form)
ended_own IsOwn (faulty line) block own = record { plain = (tt, tt); keys = tt }
ended_own IsOwn (asks ask quiet) block own = go (is_ended block)
  where
    go : (b : Bool) → IsOwnCommand IsOwn (if b then value_command ask quiet (value_of block) else Fault BadChunk quiet)
    go true = value_own IsOwn ask quiet (value_of block) own
    go false = record { plain = (tt, tt); keys = tt }

refused_own : (IsOwn : List ℕ → Type 0) (form : Form) → IsOwnCommand IsOwn (large_command_for form)
refused_own IsOwn (faulty line) = record { plain = (tt, tt); keys = tt }
refused_own IsOwn (asks ask quiet) = record { plain = (tt, tt); keys = tt }

-- the same of the line
pub line_own : (IsOwn : List ℕ → Type 0) (line : List ℕ) → IsOwnForm IsOwn (line_form line) → IsOwnCommand IsOwn (line_command line)
unfolding line_command
line_own IsOwn line own = alone_own IsOwn (line_form line) own

-- so is the command of the line with its block, whatever the block is
pub block_own : (IsOwn : List ℕ → Type 0) (line block : List ℕ) → IsOwnForm IsOwn (line_form line) → IsOwnCommand IsOwn (block_command line block)
unfolding block_command
block_own IsOwn line block own = ended_own IsOwn (line_form line) block own

-- so is that with a block that is too large
pub large_own : (IsOwn : List ℕ → Type 0) (line : List ℕ) → IsOwnCommand IsOwn (large_command line)
unfolding large_command
large_own IsOwn line = refused_own IsOwn (line_form line)
