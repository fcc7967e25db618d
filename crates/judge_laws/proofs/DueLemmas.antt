-- The calls of commands, with and without the tallies of `stats`.
use Rattle.std.specs.Prelude.{◌==◌, filter, All}
use Rattle.std.specs.List.{slice_get, range_with_len}
use Rattle.std.proofs.Common.{◌≡◌, ℕ, zero, suc, ◌+◌, ◌<◌, ◌≤◌, Bool, true, false, List, [], ◌∷◌, ◌++◌, length, map, Option, None, Some, refl, ap, ◌∙◌, subst, eq-eqb, ne_eqb, arith}
use Rattle.std.proofs.lemmas.List.{append-nil}
use Rattle.std.proofs.lemmas.List.Elements.{All-nil, All-cons, All-append, All-weaker, filter-append}
use Rattle.mc_calls.specs.declared.call.Call.{Call}
use Rattle.mc_calls.specs.declared.call.Call.TheVariants as Calls
use Rattle.mc_calls.specs.Call.{key_of}
use Rattle.mc_parse.specs.declared.command.Command.{Command}
use Rattle.mc_parse.specs.declared.command.Command.TheVariants.{Store, Cas, Get, Delete, Count, Version, Stats, Verbosity, Flush, Fault, Meta}
use Rattle.mc_parse.specs.declared.meta.Meta.TheVariants as Metas
use Rattle.mc_parse.specs.declared.shard_call.ShardCall.{ShardCall}
use Rattle.mc_parse.specs.Calls.{Due, due_at, due_from, tagged, tag_of, on_shard, at_key, get_at, get_calls, call_alone, calls_of}
use Rattle.mc_parse.specs.Deed.{stored_by, counted_by}
use Rattle.mc_parse.proofs.DeedLemmas.{stored_key, counted_key}
use Rattle.mc_answers.specs.Said.{said_calls, all_replied}
use Rattle.mc_calls.specs.declared.call_reply.CallReply.{CallReply}
use Rattle.judge_laws.specs.Profile.{said_by}
use Rattle.zy_verdict.proofs.ListLemmas.{all_kept, none_kept}
use Rattle.judge_laws.proofs.SaidLemmas.{IsKeyed}

-- ---- tallies

-- a call is a tally of `stats`
abbrev pub is_tally : Call → Bool
is_tally Calls.Tally = true
is_tally call = false

-- the call is no tally
abbrev pub IsNoTally : ShardCall → Type 0
IsNoTally call = is_tally call.call ≡ false

-- the call is a tally
abbrev pub IsTally : ShardCall → Type 0
IsTally call = is_tally call.call ≡ true

keyed_no_tally : (call : Call) (key : List ℕ) → key_of call ≡ Some key → is_tally call ≡ false
keyed_no_tally Calls.Tally key is = cc
keyed_no_tally call key is = refl

alone_no_tally : (shards : ℕ) (call : Call) (key : List ℕ) (found : Option (List ℕ)) → key_of call ≡ Some key → All IsNoTally (call_alone shards call found)
alone_no_tally shards call key None is = All-nil IsNoTally
alone_no_tally shards call key (Some own) is = All-cons IsNoTally (at_key shards own call) [] (keyed_no_tally call key is) (All-nil IsNoTally)

gets_no_tally : (shards : ℕ) (keys : List (List ℕ)) → All IsNoTally (get_calls shards keys)
gets_no_tally shards [] = All-nil IsNoTally
gets_no_tally shards (key ∷ keys) = All-cons IsNoTally (get_at shards key) (get_calls shards keys) refl (gets_no_tally shards keys)

on_all : (P : ShardCall → Type 0) (call : Call) (first count : ℕ) → ((shard : ℕ) → P (on_shard call shard)) → All P (map (on_shard call) (range_with_len first count))
on_all P call first zero each = All-nil P
on_all P call first (suc count) each = All-cons P (on_shard call first) (map (on_shard call) (range_with_len (first + 1) count)) (each first) (on_all P call (first + 1) count each)

-- all calls of a command have replies that count, or all are tallies
pub data Tallies (shards : ℕ) (command : Command) : Type 0 where
  none : said_calls shards command ≡ calls_of shards command → ((replies : List CallReply) → said_by command replies ≡ all_replied replies) → All IsNoTally (calls_of shards command) → Tallies shards command
  all : command ≡ Stats → All IsTally (calls_of shards command) → Tallies shards command

pub tallies : (shards : ℕ) (command : Command) → IsKeyed command → Tallies shards command
tallies shards (Store verb key flags value quiet) keyed = none refl (λ replies. refl) (alone_no_tally shards (stored_by verb key flags value) key (key_of (stored_by verb key flags value)) (stored_key verb key flags value))
tallies shards (Cas key flags unique value quiet) keyed = none refl (λ replies. refl) (alone_no_tally shards (Calls.Cas flags key unique value) key (Some key) refl)
tallies shards (Get keys asked) keyed = none refl (λ replies. refl) (gets_no_tally shards keys)
tallies shards (Delete key quiet) keyed = none refl (λ replies. refl) (alone_no_tally shards (Calls.Delete key) key (Some key) refl)
tallies shards (Count key up amount quiet) keyed = none refl (λ replies. refl) (alone_no_tally shards (counted_by up key amount) key (key_of (counted_by up key amount)) (counted_key up key amount))
tallies shards Version keyed = none refl (λ replies. refl) (All-nil IsNoTally)
tallies shards Stats keyed = all refl (on_all IsTally Calls.Tally 0 shards (λ shard. refl))
tallies shards (Verbosity quiet) keyed = none refl (λ replies. refl) (All-nil IsNoTally)
tallies shards (Flush quiet) keyed = none refl (λ replies. refl) (on_all IsNoTally Calls.Flush 0 shards (λ shard. refl))
tallies shards (Fault fault quiet) keyed = none refl (λ replies. refl) (All-nil IsNoTally)
tallies shards (Meta Metas.Noop) keyed = none refl (λ replies. refl) (All-nil IsNoTally)
tallies shards (Meta (Metas.Get key letters)) keyed = none refl (λ replies. refl) (alone_no_tally shards (Calls.Get key) key (Some key) refl)
tallies shards (Meta (Metas.Set key call letters)) keyed = none refl (λ replies. refl) (alone_no_tally shards call keyed.0 (key_of call) keyed.1)
tallies shards (Meta (Metas.Delete key letters)) keyed = none refl (λ replies. refl) (alone_no_tally shards (Calls.Delete key) key (Some key) refl)

-- ---- the indices of expected calls

-- an expected call is of the command with this index
abbrev pub IsOfCommand : ℕ → ℕ → Due → Type 0
IsOfCommand conn index d = (d.tag.conn ≡ conn) × (d.tag.index ≡ index)

-- an expected call is of one of the commands with these indices
abbrev pub IsOfCommands : ℕ → ℕ → ℕ → Due → Type 0
IsOfCommands conn from until d = (d.tag.conn ≡ conn) × (from ≤ d.tag.index) × (d.tag.index < until)

pub tagged_of : (conn index part : ℕ) (calls : List ShardCall) → All (IsOfCommand conn index) (tagged conn index part calls)
tagged_of conn index part [] = All-nil (IsOfCommand conn index)
tagged_of conn index part (call ∷ calls) =
    All-cons (IsOfCommand conn index) (record { tag = tag_of conn index part; call = call }) (tagged conn index (part + 1) calls) (refl, refl) (tagged_of conn index (part + 1) calls)

pub due_of_commands : (shards conn first : ℕ) (commands : List Command) → All (IsOfCommands conn first (first + length commands)) (due_from shards conn first commands)
due_of_commands shards conn first [] = All-nil (IsOfCommands conn first (first + 0))
due_of_commands shards conn first (command ∷ commands) =
    All-append (IsOfCommands conn first (first + length (command ∷ commands))) (due_at shards conn first command) (due_from shards conn (first + 1) commands)
    (All-weaker (IsOfCommand conn first) (IsOfCommands conn first (first + length (command ∷ commands))) (λ d is. let index = is.1 in (is.0, omega (arith, index), omega (arith, index)))
    (due_at shards conn first command) (tagged_of conn first 0 (calls_of shards command)))
    (All-weaker (IsOfCommands conn (first + 1) (first + 1 + length commands)) (IsOfCommands conn first (first + length (command ∷ commands)))
    (λ d is. let low = is.1 in let high = is.2 in (is.0, omega (arith, low), omega (arith, high))) (due_from shards conn (first + 1) commands) (due_of_commands shards conn (first + 1) commands))

-- whether an expected call is of the command with an index
abbrev pub is_of_index : ℕ → Due → Bool
is_of_index index d = d.tag.index == index

-- the expected calls of one command
pub due_with_index : (shards conn index : ℕ) (commands : List Command) (at : ℕ) (command : Command) → slice_get commands at ≡ Some command
    → filter (is_of_index (index + at)) (due_from shards conn index commands) ≡ tagged conn (index + at) 0 (calls_of shards command)
due_with_index shards conn index [] at command is = absurd (cc)
due_with_index shards conn index (own ∷ commands) zero command is =
    let same : own ≡ command = cc in
    let number : index ≡ index + 0 = omega arith in
    subst (λ (i : ℕ). filter (is_of_index i) (due_from shards conn index (own ∷ commands)) ≡ tagged conn i 0 (calls_of shards command)) number
    (filter-append (is_of_index index) (due_at shards conn index own) (due_from shards conn (index + 1) commands)
    ∙ ap (λ (l : List Due). l ++ filter (is_of_index index) (due_from shards conn (index + 1) commands))
    (all_kept (is_of_index index) (due_at shards conn index own)
    (All-weaker (IsOfCommand conn index) (λ d. is_of_index index d ≡ true) (λ d h. eq-eqb d.tag.index index h.1) (due_at shards conn index own) (tagged_of conn index 0 (calls_of shards own))))
    ∙ ap (λ (l : List Due). due_at shards conn index own ++ l)
    (none_kept (is_of_index index) (due_from shards conn (index + 1) commands)
    (All-weaker (IsOfCommands conn (index + 1) (index + 1 + length commands)) (λ d. is_of_index index d ≡ false)
    (λ d h. let low = h.1 in ne_eqb d.tag.index index (λ e. omega (arith, e, low))) (due_from shards conn (index + 1) commands) (due_of_commands shards conn (index + 1) commands)))
    ∙ append-nil (due_at shards conn index own)
    ∙ ap (λ (c : Command). due_at shards conn index c) same)
due_with_index shards conn index (own ∷ commands) (suc at) command is =
    let number : index + 1 + at ≡ index + suc at = omega arith in
    subst (λ (i : ℕ). filter (is_of_index i) (due_from shards conn index (own ∷ commands)) ≡ tagged conn i 0 (calls_of shards command)) number
    (filter-append (is_of_index (index + 1 + at)) (due_at shards conn index own) (due_from shards conn (index + 1) commands)
    ∙ ap (λ (l : List Due). l ++ filter (is_of_index (index + 1 + at)) (due_from shards conn (index + 1) commands))
    (none_kept (is_of_index (index + 1 + at)) (due_at shards conn index own)
    (All-weaker (IsOfCommand conn index) (λ d. is_of_index (index + 1 + at) d ≡ false) (λ d h. let own_index = h.1 in ne_eqb d.tag.index (index + 1 + at) (λ e. omega (arith, e, own_index))) (due_at shards conn index own) (tagged_of conn index 0 (calls_of shards own))))
    ∙ due_with_index shards conn (index + 1) commands at command is)
