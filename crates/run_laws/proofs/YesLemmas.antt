-- If the verdict is yes, the files are those of a run.
use Rattle.std.specs.Prelude.{IfSome}
use Rattle.std.specs.List.{slice_get, AllByRecursion}
use Rattle.std.proofs.Common.{◌≡◌, inl, inr, ℕ, zero, suc, ◌+◌, ◌<◌, ◌≤◌, List, [], ◌∷◌, ◌++◌, length, take, Option}
use Rattle.std.proofs.Common.{None, Some, refl, sym, ap, ◌∙◌, subst, arith}
use Rattle.std.proofs.lemmas.Bool.Decides.{eqb_tells}
use Rattle.std.proofs.lemmas.List.{length-map, take_all}
use Rattle.std.proofs.lemmas.Option.{slice_get_within, slice_get_past}
use Rattle.mc_calls.specs.declared.entry.Entry.{Entry}
use Rattle.mc_calls.specs.declared.hold.Hold.{Hold}
use Rattle.mc_calls.specs.Order.{of_connection}
use Rattle.mc_calls.specs.History.{IsLegal}
use Rattle.mc_calls.proofs.ReplayLemmas.{IsLegal-push}
use Rattle.zy_capture.specs.Streams.{sessions_of}
use Rattle.zy_journal.specs.Journal.{AreByConnection}
use Rattle.mc_parse.specs.Calls.{due_of, dues_of}
use Rattle.zy_run.specs.Commands.{commands_over, commands_held}
use Rattle.zy_run.specs.Run.{AreOfConnections, IsRun}
use Rattle.zy_run.specs.Output.{connection_outputs}
use Rattle.zy_run.specs.Spans.{held_of, AreHoldsOf, Spans}
use Rattle.zy_check.specs.Given.{Given, due_in, IsNextCall, IsAnswered, AreRight}
use Rattle.zy_check.specs.Cause.{IsComplete, IsRight}
use Rattle.zy_check.proofs.WalkLemmas.{take_next, next_within, right_so_far}
use Rattle.zy_check.proofs.RunVerdictLemmas.{element_at, no_sessions}
use mathlib.Core.Logic.{dite}
use native.Mathlib.Decide.{dec_lt}

-- two lists with the same element at each place are one
pub same_at_each : {A : Type 0} (xs ys : List A) → ((at : ℕ) → slice_get xs at ≡ slice_get ys at) → xs ≡ ys
same_at_each [] [] each = refl
same_at_each [] (y ∷ ys) each = absurd (let none : None ≡ Some y = each 0 in cc)
same_at_each (x ∷ xs) [] each = absurd (let none : Some x ≡ None = each 0 in cc)
same_at_each (x ∷ xs) (y ∷ ys) each =
    let both : Some x ≡ Some y = each 0 in
    let first : x ≡ y = cc in
    let rest = same_at_each xs ys (λ at. each (suc at)) in
    λ i. first i ∷ rest i

-- ---- the entries

module _ (g : Given) (right : AreRight g) where
  is_next : (at : ℕ) (e : Entry) → slice_get g.entries at ≡ Some e → IsNextCall g (take at g.entries) e
  is_next at e is =
      subst (λ (o : Option Entry). IfSome o (IsNextCall g (take at g.entries))) is (right at (slice_get_within g.entries at e is)).0

  is_answered : (at : ℕ) (e : Entry) → slice_get g.entries at ≡ Some e → IsAnswered g (take at g.entries) e
  is_answered at e is =
      subst (λ (o : Option Entry). IfSome o (IsAnswered g (take at g.entries))) is (right at (slice_get_within g.entries at e is)).1

  -- the first entries are legal
  legal_so_far : 1 ≤ g.shards → (at : ℕ) → at ≤ length g.entries → IsLegal g.shards (take at g.entries)
  legal_so_far some zero most = tt
  legal_so_far some (suc at) most =
      let found = element_at g.entries at (omega arith) in
      let e = found.0 in
      let before = take at g.entries in
      let on : at + 1 ≡ suc at = omega arith in
      let more : before ++ e ∷ [] ≡ take (suc at) g.entries = sym (take_next g.entries at e found.1) ∙ ap (λ (n : ℕ). take n g.entries) on in
      subst (IsLegal g.shards) more
      (IsLegal-push g.shards before e (legal_so_far some at (omega arith)) (next_within g before e some (is_next at e found.1)) (is_answered at e found.1))

  -- all are
  all_legal : 1 ≤ g.shards → IsLegal g.shards g.entries
  all_legal some = subst (IsLegal g.shards) (take_all (length g.entries) g.entries (omega arith)) (legal_so_far some (length g.entries) (omega arith))

-- all entries are of one of the connections
all_of_connections : (count : ℕ) (es : List Entry) → ((at : ℕ) (e : Entry) → slice_get es at ≡ Some e → e.tag.conn < count) → AreOfConnections count es
all_of_connections count [] each = tt
all_of_connections count (e ∷ es) each = (each 0 e refl, all_of_connections count es (λ at x is. each (suc at) x is))

-- the entries of a connection are its expected calls
all_calls : (g : Given) → IsComplete g → (conn : ℕ) → dues_of (of_connection conn g.entries) ≡ due_in g conn
all_calls g complete conn =
    let own = of_connection conn g.entries in
    let all : take (length g.entries) g.entries ≡ g.entries = take_all (length g.entries) g.entries (omega arith) in
    let same : length (of_connection conn (take (length g.entries) g.entries)) ≡ length own = ap (λ (l : List Entry). length (of_connection conn l)) all in
    let size = length-map own due_of in
    let whole = complete.whole conn in
    same_at_each (dues_of own) (due_in g conn) (λ at. dite (dec_lt at (length own))
    (λ within. right_so_far g (length g.entries) conn at complete.right (omega arith))
    (λ past. slice_get_past (dues_of own) at (omega arith) ∙ sym (slice_get_past (due_in g conn) at (omega arith))))

pub yes_is_run : (g : Given) → 1 ≤ g.shards → IsRight g → IsRun g.shards g.entries (length g.streams) (commands_held g.streams)
yes_is_run g some right = record {
  legal = all_legal g right.complete.right some;
  connections = all_of_connections (length g.streams) g.entries (λ at e is. (is_next g right.complete.right at e is).connection);
  calls = λ conn within. all_calls g right.complete conn;
}

-- ---- the outputs

pub yes_outputs : (g : Given) (conn : ℕ) → IsRight g → sessions_of g.outputs conn ≡ connection_outputs conn (sessions_of g.streams conn) g.entries
yes_outputs g conn right =
    same_at_each (sessions_of g.outputs conn) (connection_outputs conn (sessions_of g.streams conn) g.entries) (right.outputs conn)

-- ---- the holds

-- holds of connections that have none are not there
holds_within : (count : ℕ) (holds : List Hold) → AllByRecursion (λ (h : Hold). 0 < h.count) holds
    → ((conn : ℕ) → count ≤ conn → held_of conn holds ≡ 0) → AreHoldsOf count holds
holds_within count [] some none = tt
holds_within count (h ∷ hs) some none = (here, holds_within count hs some.1 later)
  where
    more : (conn : ℕ) → held_of conn hs ≤ held_of conn (h ∷ hs)
    more conn = elim (eqb_tells h.conn conn) [ inl same ↦ rw same.0 (omega arith) | inr other ↦ rw other.0 (omega arith) ]

    first : held_of h.conn (h ∷ hs) ≡ h.count + held_of h.conn hs
    first = elim (eqb_tells h.conn h.conn) [ inl same ↦ rw same.0 refl | inr other ↦ absurd (other.1 refl) ]

    here : h.conn < count
    here = dite (dec_lt h.conn count) (λ low. low) (λ high.
        let zero = none h.conn (omega arith) in
        let is = first in
        let one = some.0 in
        absurd (omega arith))

    later : (conn : ℕ) → count ≤ conn → held_of conn hs ≡ 0
    later conn past = let zero = none conn past in let less = more conn in omega arith

pub yes_spans : (g : Given) → AreByConnection 0 g.holds → AllByRecursion (λ (h : Hold). 0 < h.count) g.holds → IsRight g
    → Spans g.holds (length g.streams) (commands_held g.streams)
yes_spans g rising some right = record {
  rising = rising;
  connections = holds_within (length g.streams) g.holds some (λ conn past.
      right.holds conn ∙ ap (λ (l : List (List ℕ)). length (commands_over l)) (no_sessions g.streams conn past));
  counts = λ conn within. right.holds conn;
}
