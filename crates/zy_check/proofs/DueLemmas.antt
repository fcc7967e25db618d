-- The expected calls of commands, and the calls of entries.
use Rattle.std.specs.List.{slice_get}
use Rattle.std.proofs.Common.{◌≡◌, ℕ, zero, suc, ◌+◌, ◌<◌, List, [], ◌∷◌, ◌++◌, length, take, drop, get_or, Option, None, Some, sym, ap, ◌∙◌, arith}
use Rattle.std.proofs.lemmas.List.{append_assoc, take-append-drop, drop_more}
use Rattle.std.proofs.lemmas.List.Concat.{flat_map-append}
use Rattle.std.proofs.lemmas.Option.{slice_get-map}
use Rattle.mc_calls.specs.declared.entry.Entry.{Entry}
use Rattle.mc_parse.specs.declared.shard_call.ShardCall.{ShardCall}
use Rattle.mc_parse.specs.Calls.{due_of, dues_of, tag_of, tagged}
use Rattle.zy_frame.specs.Cut.{commands_of}
use Rattle.zy_run.specs.Commands.{commands_over}

-- the calls of one command
pub tagged_at : (conn index first k : ℕ) (calls : List ShardCall) (call : ShardCall) → slice_get calls k ≡ Some call
    → slice_get (tagged conn index first calls) k ≡ Some (record { tag = tag_of conn index (first + k); call = call })
tagged_at conn index first k [] call is = absurd (cc)
tagged_at conn index first zero (x ∷ xs) call is =
    let none : first ≡ first + 0 = omega arith in
    let same : x ≡ call = cc in
    λ i. Some (record { tag = tag_of conn index (none i); call = same i })
tagged_at conn index first (suc k) (x ∷ xs) call is =
    let on : first + 1 + k ≡ first + suc k = omega arith in
    tagged_at conn index (first + 1) k xs call is ∙ ap (λ (n : ℕ). Some (record { tag = tag_of conn index n; call = call })) on

-- what an entry was asked
pub asked_at : (own : List Entry) (k : ℕ) (e : Entry) → slice_get own k ≡ Some e → slice_get (dues_of own) k ≡ Some (due_of e)
asked_at own k e is = slice_get-map due_of own k ∙ ap (λ (o : Option Entry). elim o [ None ↦ None | Some x ↦ Some (due_of x) ]) is

-- the commands of the sessions before one, of that one, and of those after it
pub commands_split : (session : ℕ) (streams : List (List ℕ)) → session < length streams
    → commands_over streams ≡ (commands_over (take session streams) ++ commands_of (get_or streams session [])) ++ commands_over (drop (session + 1) streams)
commands_split session streams within =
    ap commands_over (sym (take-append-drop session streams)) ∙ flat_map-append commands_of (take session streams) (drop session streams)
    ∙ ap (λ (l : List (List ℕ)). commands_over (take session streams) ++ commands_over l) (drop_more streams session [] within)
    ∙ sym (append_assoc (commands_over (take session streams)) (commands_of (get_or streams session [])) (commands_over (drop (session + 1) streams)))
