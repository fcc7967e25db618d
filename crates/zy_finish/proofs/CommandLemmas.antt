-- The calls of entries that are the expected calls of streams' commands are within the bounds of the
-- journal.
use Rattle.std.specs.List.{AllByRecursion}
use Rattle.std.proofs.Common.{◌≡◌, ℕ, ◌≤◌, List, [], ◌∷◌, length, sym, subst, arith}
use Rattle.mc_calls.specs.declared.entry.Entry.{Entry}
use Rattle.mc_calls.specs.Bounds.{IsCallWithin}
use Rattle.mc_parse.specs.Calls.{due, dues_of}
use Rattle.mc_parse.specs.Bounds.{IsCommand, IsDueWithin}
use Rattle.mc_parse.proofs.BoundLemmas.{due_from_within}
use Rattle.zy_frame.specs.Cut.{commands_of}
use Rattle.zy_frame.proofs.BoundLemmas.{stream_within}
use Rattle.zy_run.specs.Commands.{commands_over}
use Rattle.mc_parse.proofs.PlainLemmas.{each-append}

-- the commands of streams are within their bounds
commands_within : (streams : List (List ℕ)) → AllByRecursion IsCommand (commands_over streams)
commands_within [] = tt
commands_within (stream ∷ streams) = each-append IsCommand (commands_of stream) (commands_over streams) (stream_within stream) (commands_within streams)

entries_due : (n : ℕ) (es : List Entry) → AllByRecursion (IsDueWithin n) (dues_of es) → AllByRecursion (IsCallWithin n) es
entries_due n [] each = tt
entries_due n (e ∷ es) each = (each.0, entries_due n es each.1)

-- if the calls of entries are the expected ones of these streams' commands, they are within their
-- bounds
pub entries_within : (n shards conn : ℕ) (streams : List (List ℕ)) (es : List Entry) → dues_of es ≡ due shards conn (commands_over streams)
    → length (commands_over streams) ≤ n → AllByRecursion (IsCallWithin n) es
entries_within n shards conn streams es are few =
    entries_due n es (subst (AllByRecursion (IsDueWithin n)) (sym are) (due_from_within n shards conn 0 (commands_over streams) (omega arith) (commands_within streams)))
