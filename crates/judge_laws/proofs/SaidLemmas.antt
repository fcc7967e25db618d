-- What a run says to the calls of a command fits the command.
use Rattle.std.specs.List.{AllByRecursion, range_with_len}
use Rattle.std.proofs.Common.{◌≡◌, ℕ, zero, suc, ◌+◌, List, [], ◌∷◌, map, Option, Some, refl, ap, ◌∙◌, subst}
use Rattle.std.specs.Prelude.{⊤}
use Rattle.mc_calls.specs.declared.call.Call.{Call}
use Rattle.mc_calls.specs.declared.call.Call.TheVariants as Calls
use Rattle.mc_calls.specs.declared.call_reply.CallReply.{CallReply}
use Rattle.mc_calls.specs.declared.call_reply.CallReply.TheVariants.{Flushed}
use Rattle.mc_calls.specs.declared.entry.Entry.{Entry}
use Rattle.mc_calls.specs.Call.{key_of}
use Rattle.mc_calls.specs.Kind.{MayAnswer}
use Rattle.mc_parse.specs.declared.command.Command.{Command}
use Rattle.mc_parse.specs.declared.command.Command.TheVariants.{Store, Cas, Get, Delete, Count, Version, Stats, Verbosity, Flush, Fault, Meta}
use Rattle.mc_parse.specs.declared.meta.Meta.TheVariants as Metas
use Rattle.mc_parse.specs.declared.shard_call.ShardCall.{ShardCall}
use Rattle.mc_parse.specs.Calls.{Due, due_of, dues_of, tagged, tag_of, on_shard, at_key, get_at, get_calls, call_alone, calls_of}
use Rattle.mc_parse.specs.Deed.{stored_by, counted_by}
use Rattle.mc_parse.proofs.DeedLemmas.{stored_key, counted_key}
use Rattle.mc_allows.specs.declared.said.Said.TheVariants.{Replied}
use Rattle.mc_answers.specs.Said.{IsOne, MaySay, AreGot, AreFlushed, FitsCommand, all_replied}
use Rattle.judge_laws.specs.Profile.{said_by}

-- ---- entries

-- the reply of an entry may be said to its call
abbrev pub IsSaid : Entry → Type 0
IsSaid e = MaySay e.call (Replied e.reply)

-- the replies of entries
abbrev pub replies_in : List Entry → List CallReply
replies_in es = map (λ (e : Entry). e.reply) es

-- ---- deeds

gets_fit : (shards conn index part : ℕ) (keys : List (List ℕ)) (es : List Entry) → AllByRecursion IsSaid es → dues_of es ≡ tagged conn index part (get_calls shards keys) → AreGot keys (all_replied (replies_in es))
gets_fit shards conn index part [] [] said are = tt
gets_fit shards conn index part [] (e ∷ es) said are = absurd (cc)
gets_fit shards conn index part (key ∷ keys) [] said are = absurd (cc)
gets_fit shards conn index part (key ∷ keys) (e ∷ es) said are =
    let head : due_of e ≡ record { tag = tag_of conn index part; call = get_at shards key } = cc in
    let tail : dues_of es ≡ tagged conn index (part + 1) (get_calls shards keys) = cc in
    (subst (λ (c : Call). MaySay c (Replied e.reply)) (ap (λ (d : Due). d.call.call) head) said.0, gets_fit shards conn index (part + 1) keys es said.1 tail)

-- the one entry of a call with a key
one_entry : (conn index : ℕ) (call : ShardCall) (es : List Entry) → AllByRecursion IsSaid es → dues_of es ≡ tagged conn index 0 (call ∷ []) → IsOne (MaySay call.call) (all_replied (replies_in es))
one_entry conn index call [] said are = absurd (cc)
one_entry conn index call (e ∷ []) said are =
    let head : due_of e ≡ record { tag = tag_of conn index 0; call = call } = cc in
    subst (λ (c : Call). MaySay c (Replied e.reply)) (ap (λ (d : Due). d.call.call) head) said.0
one_entry conn index call (e ∷ next ∷ es) said are = absurd (cc)

one_fits : (shards conn index : ℕ) (call : Call) (key : List ℕ) (es : List Entry) → key_of call ≡ Some key → AllByRecursion IsSaid es → dues_of es ≡ tagged conn index 0 (call_alone shards call (key_of call))
    → IsOne (MaySay call) (all_replied (replies_in es))
one_fits shards conn index call key es keyed said are =
    one_entry conn index (at_key shards key call) es said (are ∙ ap (λ (k : Option (List ℕ)). tagged conn index 0 (call_alone shards call k)) keyed)

flush_says : (reply : CallReply) → MayAnswer Calls.Flush reply → Replied reply ≡ Replied Flushed
flush_says Flushed may = refl
flush_says reply may = absurd may

flushes_fit : (conn index part first count : ℕ) (es : List Entry) → AllByRecursion IsSaid es → dues_of es ≡ tagged conn index part (map (on_shard Calls.Flush) (range_with_len first count)) → AreFlushed (all_replied (replies_in es))
flushes_fit conn index part first zero [] said are = tt
flushes_fit conn index part first zero (e ∷ es) said are = absurd (cc)
flushes_fit conn index part first (suc count) [] said are = absurd (cc)
flushes_fit conn index part first (suc count) (e ∷ es) said are =
    let head : due_of e ≡ record { tag = tag_of conn index part; call = on_shard Calls.Flush first } = cc in
    let tail : dues_of es ≡ tagged conn index (part + 1) (map (on_shard Calls.Flush) (range_with_len (first + 1) count)) = cc in
    (flush_says e.reply (subst (λ (c : Call). MayAnswer c e.reply) (ap (λ (d : Due). d.call.call) head) said.0.0), flushes_fit conn index (part + 1) (first + 1) count es said.1 tail)

nothing_fits : (conn index : ℕ) (es : List Entry) → dues_of es ≡ tagged conn index 0 [] → all_replied (replies_in es) ≡ []
nothing_fits conn index [] are = refl
nothing_fits conn index (e ∷ es) are = absurd (cc)

-- ---- commands

-- the call of a storage command of `ms` has a key
abbrev pub IsKeyed : Command → Type 0
IsKeyed (Meta (Metas.Set key call marks)) = (own : List ℕ) × (key_of call ≡ Some own)
IsKeyed command = ⊤

-- what was said to a command's calls, which these entries make, fits
pub said_fits : (shards conn index : ℕ) (command : Command) (es : List Entry) → IsKeyed command → AllByRecursion IsSaid es → dues_of es ≡ tagged conn index 0 (calls_of shards command) → FitsCommand command (said_by command (replies_in es))
said_fits shards conn index (Store verb key flags value quiet) es keyed said are = one_fits shards conn index (stored_by verb key flags value) key es (stored_key verb key flags value) said are
said_fits shards conn index (Cas key flags unique value quiet) es keyed said are = one_fits shards conn index (Calls.Cas flags key unique value) key es refl said are
said_fits shards conn index (Get keys asked) es keyed said are = gets_fit shards conn index 0 keys es said are
said_fits shards conn index (Delete key quiet) es keyed said are = one_fits shards conn index (Calls.Delete key) key es refl said are
said_fits shards conn index (Count key up amount quiet) es keyed said are = one_fits shards conn index (counted_by up key amount) key es (counted_key up key amount) said are
said_fits shards conn index Version es keyed said are = nothing_fits conn index es are
said_fits shards conn index Stats es keyed said are = refl
said_fits shards conn index (Verbosity quiet) es keyed said are = nothing_fits conn index es are
said_fits shards conn index (Flush quiet) es keyed said are = flushes_fit conn index 0 0 shards es said are
said_fits shards conn index (Fault fault quiet) es keyed said are = nothing_fits conn index es are
said_fits shards conn index (Meta Metas.Noop) es keyed said are = nothing_fits conn index es are
said_fits shards conn index (Meta (Metas.Get key letters)) es keyed said are = one_fits shards conn index (Calls.Get key) key es refl said are
said_fits shards conn index (Meta (Metas.Set key call letters)) es keyed said are = one_fits shards conn index call keyed.0 es keyed.1 said are
said_fits shards conn index (Meta (Metas.Delete key letters)) es keyed said are = one_fits shards conn index (Calls.Delete key) key es refl said are
