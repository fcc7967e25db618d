-- The calls that were made of a session, with one more, and with a command whose calls are all made.
use Rattle.std.specs.List.{slice_get}
use Rattle.std.proofs.Common.{◌≡◌, ℕ, ◌+◌, List, [], ◌∷◌, ◌++◌, length, take, Option, None, Some, refl, sym, ap, ◌∙◌, append_assoc, append-nil, length-take-le, arith}
use Rattle.std.proofs.lemmas.List.{take_all}
use Rattle.std.proofs.lemmas.Option.{slice_get_within}
use Rattle.mc_answers.specs.Said.{said_calls}
use Rattle.mc_parse.specs.declared.command.Command.{Command}
use Rattle.mc_parse.specs.declared.shard_call.ShardCall.{ShardCall}
use Rattle.zy_check.proofs.ListLemmas.{take_one}
use Rattle.zy_times.proofs.SessionLemmas.{none_past}
use Rattle.zy_verdict.specs.Entries.{NamedCall, name_at, named_parts, named_from}
use Rattle.zy_explain.specs.Following.{parts_made, calls_made}

-- the call of a command with this name
abbrev pub named_at : ℕ → ℕ → ℕ → ℕ → ShardCall → NamedCall
named_at conn session index part call = record { name = name_at conn session index part; call = call }

parts_push : (conn session index part : ℕ) (calls : List ShardCall) (call : ShardCall)
    → named_parts conn session index part (calls ++ call ∷ []) ≡ named_parts conn session index part calls ++ named_at conn session index (part + length calls) call ∷ []
parts_push conn session index part [] call = let none : part ≡ part + length {A = ShardCall} [] = omega arith in ap (λ (n : ℕ). named_at conn session index n call ∷ []) none
parts_push conn session index part (x ∷ calls) call =
    let on : part + 1 + length calls ≡ part + length (x ∷ calls) = omega arith in
    ap (λ (l : List NamedCall). named_at conn session index part x ∷ l)
    (parts_push conn session index (part + 1) calls call ∙ ap (λ (n : ℕ). named_parts conn session index (part + 1) calls ++ named_at conn session index n call ∷ []) on)

from_push : (shards conn session index : ℕ) (commands : List Command) (command : Command)
    → named_from shards conn session index (commands ++ command ∷ []) ≡ named_from shards conn session index commands ++ named_parts conn session (index + length commands) 0 (said_calls shards command)
from_push shards conn session index [] command =
    let none : index ≡ index + length {A = Command} [] = omega arith in
    append-nil (named_parts conn session index 0 (said_calls shards command)) ∙ ap (λ (n : ℕ). named_parts conn session n 0 (said_calls shards command)) none
from_push shards conn session index (x ∷ commands) command =
    let on : index + 1 + length commands ≡ index + length (x ∷ commands) = omega arith in
    let first = named_parts conn session index 0 (said_calls shards x) in
    let rest = named_from shards conn session (index + 1) commands in
    ap (λ (l : List NamedCall). first ++ l)
    (from_push shards conn session (index + 1) commands command ∙ ap (λ (n : ℕ). rest ++ named_parts conn session n 0 (said_calls shards command)) on)
    ∙ sym (append_assoc first rest (named_parts conn session (index + length (x ∷ commands)) 0 (said_calls shards command)))

none_made : (shards conn session index : ℕ) (found : Option Command) → parts_made shards conn session index 0 found ≡ []
none_made shards conn session index None = refl
none_made shards conn session index (Some command) = refl

pub start_made : (shards conn session : ℕ) (commands : List Command) → calls_made shards conn session commands 0 0 ≡ []
start_made shards conn session commands = none_made shards conn session 0 (slice_get commands 0)

module _ (shards conn session : ℕ) (commands : List Command) (index part : ℕ) (command : Command) (is : slice_get commands index ≡ Some command) where
  abbrev calls : List ShardCall
  calls = said_calls shards command

  abbrev front : List NamedCall
  front = named_from shards conn session 0 (take index commands)

  -- one call more
  pub calls_said : (call : ShardCall) → slice_get calls part ≡ Some call
      → calls_made shards conn session commands index (part + 1) ≡ calls_made shards conn session commands index part ++ named_at conn session index part call ∷ []
  calls_said call found =
      let within = slice_get_within calls part call found in
      let long : 0 + length (take part calls) ≡ part = let l = length-take-le part calls (omega (arith, within)) in omega (arith, l) in
      let parts : named_parts conn session index 0 (take (part + 1) calls) ≡ named_parts conn session index 0 (take part calls) ++ named_at conn session index part call ∷ [] =
      ap (named_parts conn session index 0) (take_one calls part call found) ∙ parts_push conn session index 0 (take part calls) call
      ∙ ap (λ (n : ℕ). named_parts conn session index 0 (take part calls) ++ named_at conn session index n call ∷ []) long in
      ap (λ (o : Option Command). front ++ parts_made shards conn session index (part + 1) o) is
      ∙ ap (λ (l : List NamedCall). front ++ l) parts
      ∙ sym (append_assoc front (named_parts conn session index 0 (take part calls)) (named_at conn session index part call ∷ []))
      ∙ ap (λ (o : Option Command). (front ++ parts_made shards conn session index part o) ++ named_at conn session index part call ∷ []) (sym is)

  -- a command whose calls are all made
  pub calls_ended : slice_get calls part ≡ None → calls_made shards conn session commands (index + 1) 0 ≡ calls_made shards conn session commands index part
  calls_ended past =
      let few = none_past calls part past in
      let within = slice_get_within commands index command is in
      let long : 0 + length (take index commands) ≡ index = let l = length-take-le index commands (omega (arith, within)) in omega (arith, l) in
      ap (λ (l : List NamedCall). named_from shards conn session 0 (take (index + 1) commands) ++ l) (none_made shards conn session (index + 1) (slice_get commands (index + 1)))
      ∙ append-nil (named_from shards conn session 0 (take (index + 1) commands))
      ∙ ap (named_from shards conn session 0) (take_one commands index command is)
      ∙ from_push shards conn session 0 (take index commands) command
      ∙ ap (λ (n : ℕ). front ++ named_parts conn session n 0 calls) long
      ∙ ap (λ (l : List ShardCall). front ++ named_parts conn session index 0 l) (sym (take_all part calls few))
      ∙ ap (λ (o : Option Command). front ++ parts_made shards conn session index part o) (sym is)

-- with nothing of the next command, these are the calls of the first commands
pub calls_whole : (shards conn session : ℕ) (commands : List Command) (index : ℕ) → calls_made shards conn session commands index 0 ≡ named_from shards conn session 0 (take index commands)
calls_whole shards conn session commands index =
    ap (λ (l : List NamedCall). named_from shards conn session 0 (take index commands) ++ l) (none_made shards conn session index (slice_get commands index))
    ∙ append-nil (named_from shards conn session 0 (take index commands))
