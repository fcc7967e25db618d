-- When all entries are right, the calls of the entries are the expected calls.
use Rattle.std.specs.List.{slice_get}
use Rattle.std.proofs.Common.{◌≡◌, ℕ, ◌<◌, ◌≤◌, List, [], length, sym, ap, subst, arith}
use Rattle.std.proofs.lemmas.List.{take_all, length-map, get_or_past}
use mathlib.Core.Logic.{dite}
use native.Mathlib.Decide.{dec_lt}
use Rattle.mc_calls.specs.declared.entry.Entry.{Entry}
use Rattle.mc_calls.specs.Order.{of_connection}
use Rattle.mc_parse.specs.Calls.{Due, due, due_of, dues_of}
use Rattle.zy_run.specs.Commands.{commands_over}
use Rattle.zy_check.specs.Given.{Given, due_in, AreRight, HasEveryEntry}
use Rattle.zy_check.specs.Cause.{IsComplete}
use Rattle.zy_check.proofs.WalkLemmas.{right_so_far}
use Rattle.zy_check.proofs.ListLemmas.{same_lists}

-- ---- what was asked

-- the call of each entry is the expected one
pub right_all : (g : Given) (conn j : ℕ) → AreRight g → j < length (of_connection conn g.entries)
    → slice_get (dues_of (of_connection conn g.entries)) j ≡ slice_get (due_in g conn) j
right_all g conn j right within =
    let all = take_all (length g.entries) g.entries (omega arith) in
    right_so_far g (length g.entries) conn j right (subst (λ (l : List Entry). j < length (of_connection conn l)) (sym all) within)

-- a connection that does not exist has no expected call
none_due : (g : Given) (conn : ℕ) → length g.streams ≤ conn → due_in g conn ≡ []
none_due g conn past = ap (λ (sessions : List (List ℕ)). due g.shards conn (commands_over sessions)) (get_or_past g.streams conn [] past)

-- each expected call has an entry, if that is so for all connections that exist
pub whole_all : (g : Given) → AreRight g → ((c : ℕ) → c < length g.streams → HasEveryEntry g c) → IsComplete g
whole_all g right first = record {
  right = right;
  whole = λ conn. dite (dec_lt conn (length g.streams))
      (λ low. first conn low)
      (λ high. let none = ap (λ (l : List Due). length l) (none_due g conn (omega arith)) in omega arith);
}

-- ---- where all is complete

-- the calls of the entries are the expected calls
pub asked_all : (g : Given) (conn : ℕ) → IsComplete g → dues_of (of_connection conn g.entries) ≡ due_in g conn
asked_all g conn complete =
    let size = length-map (of_connection conn g.entries) due_of in
    let whole = complete.whole conn in
    same_lists (dues_of (of_connection conn g.entries)) (due_in g conn) (omega arith)
    (λ j within. right_all g conn j complete.right (omega arith))
