-- What the calls of a command have in common.
use Rattle.std.proofs.Common.{◌≡◌, ℕ, ◌+◌, ◌<◌, ◌≤◌, Bool, List, [], ◌∷◌, ◌++◌, length, take, append_assoc, append-nil, ◌∙◌, map, refl, ap, sym, zero, suc, arith, length-append, get_or, ◌⊎◌, inl, inr}
use Rattle.std.specs.Prelude.{All, Option, None, Some, option_map}
use Rattle.std.proofs.lemmas.List.Elements.{All-nil, All-cons, All-head, All-tail, All-append}
use Rattle.std.specs.List.{range_with_len, slice_get}
use Rattle.std.proofs.lemmas.Option.{slice_get_past, slice_get_read, slice_get-map, slice_get_within, get_or_from_slice_get, slice_get_cases}
use Rattle.std.proofs.lemmas.List.FromFn.{length-map-range_with_len, get_or-map-range_with_len}
use Rattle.std.proofs.lemmas.List.{map-append, take_more, take_all}
use Rattle.mc_calls.specs.Call.{key_of}
use Rattle.mc_calls.specs.declared.call.Call.TheVariants.{Get as GetCall}
use Rattle.mc_calls.specs.declared.call.Call.{Call}
use Rattle.mc_calls.specs.declared.entry.Entry.{Entry}
use Rattle.mc_parse.specs.declared.verb.Verb.{Verb}
use Rattle.mc_parse.specs.declared.command.Command.{Command}
use Rattle.mc_parse.specs.declared.meta.Meta.{Meta as MetaCommand}
use Rattle.mc_parse.specs.declared.meta.Meta.TheVariants as Metas
use Rattle.mc_parse.specs.declared.shard_call.ShardCall.{ShardCall}
use Rattle.mc_parse.specs.OnAll.{made_by}
use Rattle.mc_parse.specs.Deed.{Deed, does_nothing, makes_one, gets_each, makes_on_all, meta_deed, deed_of, IsOnce, stored_by, counted_by}
use Rattle.mc_parse.specs.Calls.{calls_of, calls_by, calls_on_all, call_alone, Due, due, due_at, due_from, due_of, dues_of, tag_of, tagged, at_key, get_at, on_shard, IsOnShard, IsDueOn}
use Rattle.mc_parse.proofs.DeedLemmas.{stored_key, counted_key, no_key}

-- ---- one call

-- the calls up to a further one are those before it, and this one
pub take_next : (calls : List ShardCall) (part : ℕ) (call : ShardCall) → slice_get calls part ≡ Some call → take (part + 1) calls ≡ take part calls ++ call ∷ []
take_next calls part call is =
    take_more calls part call (slice_get_within calls part call is) ∙ ap (λ (x : ShardCall). take part calls ++ x ∷ []) (get_or_from_slice_get calls part call call is)

-- so calls that are the first of all are so with the next one
pub taken_more : (all calls more : List ShardCall) (call : ShardCall) → take (length calls) all ≡ calls → slice_get all (length calls) ≡ Some call → more ≡ calls ++ call ∷ [] → take (length more) all ≡ more
taken_more all calls more call front is next =
    let long = ap (λ (l : List ShardCall). length l) next in
    let size : length more ≡ length calls + 1 = omega (arith, long, length-append calls (call ∷ [])) in
    ap (λ (n : ℕ). take n all) size ∙ take_next all (length calls) call is ∙ ap (λ (l : List ShardCall). l ++ call ∷ []) front ∙ sym next

past_all : (all : List ShardCall) (n : ℕ) → slice_get all n ≡ None → length all ≤ n
past_all all n none = go (slice_get_cases all n).1
  where
    go : ((x : ShardCall) × (n < length all) × (slice_get all n ≡ Some x) × (get_or all n x ≡ x)) ⊎ ((length all ≤ n) × (slice_get all n ≡ None)) → length all ≤ n
    go (inl found) = let no : ◌≡◌ {A = Option ShardCall} None (Some found.0) = sym none ∙ found.2 in absurd (cc)
    go (inr past) = past.0

-- and they are all where there is no next one
pub taken_all : (all calls : List ShardCall) → take (length calls) all ≡ calls → slice_get all (length calls) ≡ None → calls ≡ all
taken_all all calls front none = sym front ∙ take_all (length calls) all (past_all all (length calls) none)

-- the first call of what makes one call
pub alone_first : (shards : ℕ) (call : Call) (key : List ℕ) → key_of call ≡ Some key → slice_get (call_alone shards call (key_of call)) 0 ≡ Some (at_key shards key call)
alone_first shards call key is = rw is refl

-- the call that stores
pub stored_first : (shards : ℕ) (verb : Verb) (key : List ℕ) (flags : ℕ) (value : List ℕ)
    → slice_get (call_alone shards (stored_by verb key flags value) (key_of (stored_by verb key flags value))) 0 ≡ Some (at_key shards key (stored_by verb key flags value))
stored_first shards verb key flags value = alone_first shards (stored_by verb key flags value) key (stored_key verb key flags value)

-- the call that counts
pub counted_first : (shards : ℕ) (up : Bool) (key : List ℕ) (amount : ℕ)
    → slice_get (call_alone shards (counted_by up key amount) (key_of (counted_by up key amount))) 0 ≡ Some (at_key shards key (counted_by up key amount))
counted_first shards up key amount = alone_first shards (counted_by up key amount) key (counted_key up key amount)

alone_later : (shards : ℕ) (call : Call) (key : Option (List ℕ)) (part : ℕ) → 0 < part → slice_get (call_alone shards call key) part ≡ None
alone_later shards call None part later = let none : List ShardCall = [] in slice_get_past none part (omega arith)
alone_later shards call (Some key) part later = slice_get_past (at_key shards key call ∷ []) part (omega (arith, later))

-- what makes one call at most makes none after it
pub once_later : (shards : ℕ) (deed : Deed) (part : ℕ) → IsOnce deed → 0 < part → slice_get (calls_by shards deed) part ≡ None
once_later shards does_nothing part once later = let none : List ShardCall = [] in slice_get_past none part (omega arith)
once_later shards (makes_one call) part once later = alone_later shards call (key_of call) part later
once_later shards (gets_each keys) part once later = absurd once
once_later shards (makes_on_all made) part once later = absurd once

pub meta_once : (meta : MetaCommand) → IsOnce (meta_deed meta)
meta_once (Metas.Set key call marks) = tt
meta_once meta = tt

-- the get of a key
pub get_there : (shards : ℕ) (keys : List (List ℕ)) (part : ℕ) → slice_get (map (get_at shards) keys) part ≡ option_map (get_at shards) (slice_get keys part)
get_there shards keys part = slice_get-map (get_at shards) keys part

-- the call on a shard of one that is made on all
pub on_all_there : (call : Call) (shards part : ℕ) → part < shards → slice_get (calls_on_all call shards) part ≡ Some (on_shard call part)
on_all_there call shards part within =
    slice_get_read (calls_on_all call shards) shards part (on_shard call part) (sym (length-map-range_with_len (on_shard call) 0 shards)) within
    (sym (get_or-map-range_with_len (on_shard call) 0 shards part part (on_shard call part) within (omega arith)))

-- there is none past the last shard
pub on_all_past : (call : Call) (shards part : ℕ) → shards ≤ part → slice_get (calls_on_all call shards) part ≡ None
on_all_past call shards part past =
    let long = length-map-range_with_len (on_shard call) 0 shards in
    slice_get_past (calls_on_all call shards) part (omega arith)

-- ---- a property of every call

one : (P : ShardCall → Type 0) (call : ShardCall) → P call → All P (call ∷ [])
one P call is = All-cons P call [] is (All-nil P)

all_gets : (P : ShardCall → Type 0) (shards : ℕ) → ((key : List ℕ) → P (get_at shards key)) → (keys : List (List ℕ)) → All P (map (get_at shards) keys)
all_gets P shards each [] = All-nil P
all_gets P shards each (key ∷ keys) = All-cons P (get_at shards key) (map (get_at shards) keys) (each key) (all_gets P shards each keys)

all_shards : (P : ShardCall → Type 0) (call : Call) (first count : ℕ) → ((shard : ℕ) → first ≤ shard → shard < first + count → P (on_shard call shard))
    → All P (map (on_shard call) (range_with_len first count))
all_shards P call first zero each = All-nil P
all_shards P call first (suc count) each =
    All-cons P (on_shard call first) (map (on_shard call) (range_with_len (first + 1) count)) (each first (omega arith) (omega arith))
    (all_shards P call (first + 1) count (λ shard low high. each shard (omega arith) (omega arith)))

by_deed : (P : ShardCall → Type 0) (shards : ℕ) → ((key : List ℕ) (call : Call) → key_of call ≡ Some key → P (at_key shards key call))
    → ((call : Call) (shard : ℕ) → key_of call ≡ None → shard < shards → P (on_shard call shard)) → (deed : Deed) → All P (calls_by shards deed)
by_deed P shards keyed bare does_nothing = All-nil P
by_deed P shards keyed bare (makes_one call) = go (key_of call) refl
  where
    go : (found : Option (List ℕ)) → key_of call ≡ found → All P (call_alone shards call found)
    go None is = All-nil P
    go (Some key) is = one P (at_key shards key call) (keyed key call is)
by_deed P shards keyed bare (gets_each keys) = all_gets P shards (λ key. keyed key (GetCall key) refl) keys
by_deed P shards keyed bare (makes_on_all made) = all_shards P (made_by made) 0 shards (λ shard low high. bare (made_by made) shard (no_key made) (omega arith))

-- what holds of each call on the shard of its key, and of a call without a key on each shard, holds of
-- every call of a command
pub all_calls : (P : ShardCall → Type 0) (shards : ℕ) → ((key : List ℕ) (call : Call) → key_of call ≡ Some key → P (at_key shards key call))
    → ((call : Call) (shard : ℕ) → key_of call ≡ None → shard < shards → P (on_shard call shard)) → (command : Command) → All P (calls_of shards command)
all_calls P shards keyed bare command = by_deed P shards keyed bare (deed_of command)

-- every call is on one of the shards
pub all_within : (shards : ℕ) (command : Command) → 1 ≤ shards → All (λ (c : ShardCall). c.shard < shards) (calls_of shards command)
all_within shards command some = all_calls (λ (c : ShardCall). c.shard < shards) shards (λ key call is. omega arith) (λ call shard is within. within) command

-- ---- expected calls

-- the calls of further commands are expected after those of the commands before them
pub due_from-append : (shards connection index : ℕ) (front commands : List Command)
    → due_from shards connection index (front ++ commands) ≡ due_from shards connection index front ++ due_from shards connection (index + length front) commands
due_from-append shards connection index [] commands =
    let at : index ≡ index + length {A = Command} [] = omega arith in
    ap (λ (number : ℕ). due_from shards connection number commands) at
due_from-append shards connection index (first ∷ front) commands =
    let calls : List Due = due_at shards connection index first in
    let rest : List Due = due_from shards connection (index + 1) front in
    let at : index + 1 + length front ≡ index + length (first ∷ front) = omega arith in
    ap (λ (more : List Due). calls ++ more) (due_from-append shards connection (index + 1) front commands)
    ∙ sym (append_assoc calls rest (due_from shards connection (index + 1 + length front) commands))
    ∙ ap (λ (number : ℕ). (calls ++ rest) ++ due_from shards connection number commands) at

-- the same from the first command on
pub due-append : (shards connection : ℕ) (front commands : List Command)
    → due shards connection (front ++ commands) ≡ due shards connection front ++ due_from shards connection (length front) commands
due-append shards connection front commands =
    let at : 0 + length front ≡ length front = omega arith in
    due_from-append shards connection 0 front commands ∙ ap (λ (number : ℕ). due shards connection front ++ due_from shards connection number commands) at

-- the calls of one further command are expected after those of the commands before it
pub due-more : (shards connection : ℕ) (commands : List Command) (command : Command)
    → due shards connection (commands ++ command ∷ []) ≡ due shards connection commands ++ due_at shards connection (length commands) command
due-more shards connection commands command =
    due-append shards connection commands (command ∷ [])
    ∙ ap (λ (last : List Due). due shards connection commands ++ last) (append-nil (due_at shards connection (length commands) command))

-- the last calls of one command are tagged with the parts that come after those of its first calls
pub tagged-append : (connection index part : ℕ) (front calls : List ShardCall)
    → tagged connection index part (front ++ calls) ≡ tagged connection index part front ++ tagged connection index (part + length front) calls
tagged-append connection index part [] calls =
    let at : part ≡ part + length {A = ShardCall} [] = omega arith in
    ap (λ (number : ℕ). tagged connection index number calls) at
tagged-append connection index part (first ∷ front) calls =
    let at : part + 1 + length front ≡ part + length (first ∷ front) = omega arith in
    ap (λ (more : List Due). record { tag = tag_of connection index part; call = first } ∷ more)
    (tagged-append connection index (part + 1) front calls ∙ ap (λ (number : ℕ). tagged connection index (part + 1) front ++ tagged connection index number calls) at)

-- the number of expected calls of one command
pub length-tagged : (connection index part : ℕ) (calls : List ShardCall) → length (tagged connection index part calls) ≡ length calls
length-tagged connection index part [] = refl
length-tagged connection index part (call ∷ calls) = ap suc (length-tagged connection index (part + 1) calls)

-- ---- the shards of expected calls

tagged_within : (shards connection index part : ℕ) (calls : List ShardCall) → All (IsOnShard shards) calls → All (IsDueOn shards) (tagged connection index part calls)
tagged_within shards connection index part [] within = All-nil (IsDueOn shards)
tagged_within shards connection index part (call ∷ calls) within =
    All-cons (IsDueOn shards) (record { tag = tag_of connection index part; call = call }) (tagged connection index (part + 1) calls)
    (All-head (IsOnShard shards) call calls within) (tagged_within shards connection index (part + 1) calls (All-tail (IsOnShard shards) call calls within))

due_from_within : (shards connection index : ℕ) (commands : List Command) → 1 ≤ shards → All (IsDueOn shards) (due_from shards connection index commands)
due_from_within shards connection index [] some = All-nil (IsDueOn shards)
due_from_within shards connection index (command ∷ commands) some =
    All-append (IsDueOn shards) (due_at shards connection index command) (due_from shards connection (index + 1) commands)
    (tagged_within shards connection index 0 (calls_of shards command) (all_within shards command some)) (due_from_within shards connection (index + 1) commands some)

-- every expected call is on one of the shards
pub due_within : (shards connection : ℕ) (commands : List Command) → 1 ≤ shards → All (IsDueOn shards) (due shards connection commands)
due_within shards connection commands some = due_from_within shards connection 0 commands some

-- ---- entries

-- the same of one further entry
pub dues_of-more : (entries : List Entry) (entry : Entry) → dues_of (entries ++ entry ∷ []) ≡ dues_of entries ++ due_of entry ∷ []
dues_of-more entries entry = map-append due_of entries (entry ∷ [])
