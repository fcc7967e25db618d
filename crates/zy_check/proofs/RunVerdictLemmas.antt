-- If the files are those of a run, the verdict is yes.
use Rattle.std.specs.Prelude.{IfSome}
use Rattle.std.specs.List.{slice_get}
use Rattle.std.proofs.Common.{◌≡◌, inl, inr, ℕ, zero, suc, ◌+◌, ◌<◌, ◌≤◌, List, [], ◌∷◌, ◌++◌, length, take, drop, Option, Some, refl, sym, ap, ◌∙◌, subst, arith}
use Rattle.std.proofs.lemmas.Bool.Decides.{eqb_tells}
use Rattle.std.proofs.lemmas.List.{length-map, take-append-drop, get_or_past}
use mathlib.Core.Logic.{dite}
use native.Mathlib.Decide.{dec_lt}
use Rattle.mc_calls.specs.declared.entry.Entry.{Entry}
use Rattle.mc_calls.specs.declared.hold.Hold.{Hold}
use Rattle.mc_calls.specs.Order.{of_connection, at_shard}
use Rattle.mc_calls.specs.Shard.{empty_state, reply_to}
use Rattle.mc_calls.specs.History.{IsLegal, replayed}
use Rattle.mc_calls.proofs.ReplayLemmas.{IsLegal-front, IsLegal-reply}
use Rattle.zy_capture.specs.Streams.{sessions_of}
use Rattle.mc_parse.specs.Calls.{Due, due, due_of}
use Rattle.zy_run.specs.Commands.{commands_over, commands_held}
use Rattle.zy_run.specs.Run.{AreOfConnections, IsRun}
use Rattle.zy_run.specs.Spans.{held_of, AreHoldsOf, Spans}
use Rattle.zy_check.specs.Given.{Given, due_in, IsNextCall, IsAnswered, AreRight, HasEveryEntry, IsHeld}
use Rattle.zy_check.specs.Cause.{IsRight}
use Rattle.zy_check.specs.OfRun.{IsGivenByRun}
use Rattle.zy_check.proofs.DueLemmas.{asked_at}
use Rattle.zy_check.proofs.WalkLemmas.{take_next, own_here}

-- there is an element at each place of a list
pub element_at : {A : Type 0} (xs : List A) (at : ℕ) → at < length xs → (x : A) × (slice_get xs at ≡ Some x)
element_at [] at within = absurd (omega arith)
element_at (x ∷ xs) zero within = (x, refl)
element_at (x ∷ xs) (suc at) within = element_at xs at (omega arith)

-- ---- connections that there are not

-- they have no session
pub no_sessions : (streams : List (List (List ℕ))) (conn : ℕ) → length streams ≤ conn → sessions_of streams conn ≡ []
no_sessions streams conn past = get_or_past streams conn [] past

-- no hold
pub held_none : (count conn : ℕ) (holds : List Hold) → AreHoldsOf count holds → count ≤ conn → held_of conn holds ≡ 0
held_none count conn [] are past = refl
held_none count conn (h ∷ hs) are past =
    elim (eqb_tells h.conn conn) [
      | inl same ↦ (let low = are.0 in let is = same.1 in absurd (omega arith))
      | inr other ↦ rw other.0 (held_none count conn hs are.1 past)
    ]

-- no expected call
pub whole_past : (g : Given) (conn : ℕ) → length g.streams ≤ conn → HasEveryEntry g conn
whole_past g conn past =
    let none : length (due_in g conn) ≡ 0 =
    ap (λ (l : List (List ℕ)). length (due g.shards conn (commands_over l))) (no_sessions g.streams conn past) in
    omega arith

-- and no entry
connection_at : (count : ℕ) (es : List Entry) (at : ℕ) (e : Entry) → AreOfConnections count es → slice_get es at ≡ Some e → e.tag.conn < count
connection_at count [] at e are is = absurd (cc)
connection_at count (x ∷ xs) zero e are is = let same : x ≡ e = cc in subst (λ (y : Entry). y.tag.conn < count) same are.0
connection_at count (x ∷ xs) (suc at) e are is = connection_at count xs at e are.1 is

-- ---- the entries

-- an entry of a legal list has the reply that its shard gives at that point
answered_in : (shards : ℕ) (es : List Entry) (at : ℕ) (e : Entry) → IsLegal shards es → slice_get es at ≡ Some e
    → e.reply ≡ reply_to (replayed shards e.shard empty_state (at_shard e.shard (take at es))) e.call
answered_in shards es at e legal is =
    let parts : es ≡ (take at es ++ e ∷ []) ++ drop (at + 1) es =
    sym (take-append-drop (at + 1) es) ∙ ap (λ (l : List Entry). l ++ drop (at + 1) es) (take_next es at e is) in
    IsLegal-reply shards (take at es) e (IsLegal-front shards (take at es ++ e ∷ []) (drop (at + 1) es) (subst (IsLegal shards) parts legal))

module _ (g : Given) (run : IsRun g.shards g.entries (length g.streams) (commands_held g.streams)) where
  next_in : (at : ℕ) (e : Entry) → slice_get g.entries at ≡ Some e → IsNextCall g (take at g.entries) e
  next_in at e is =
      let conn = e.tag.conn in
      let within = connection_at (length g.streams) g.entries at e run.connections is in
      let own = of_connection conn g.entries in
      let before = length (of_connection conn (take at g.entries)) in record {
        connection = within;
        call = ap (λ (l : List Due). slice_get l before) (sym (run.calls conn within)) ∙ asked_at own before e (own_here conn g.entries at e is refl);
      }

  are_right : AreRight g
  are_right at within =
      let found = element_at g.entries at within in (
        subst (λ (o : Option Entry). IfSome o (IsNextCall g (take at g.entries))) (sym found.1) (next_in at found.0 found.1),
        subst (λ (o : Option Entry). IfSome o (IsAnswered g (take at g.entries))) (sym found.1) (answered_in g.shards g.entries at found.0 run.legal found.1),
      )

  are_whole : (conn : ℕ) → HasEveryEntry g conn
  are_whole conn = dite (dec_lt conn (length g.streams))
      (λ within.
      let same = ap (λ (l : List Due). length l) (run.calls conn within) in
      let size = length-map (of_connection conn g.entries) due_of in
      omega arith)
      (λ past. whole_past g conn (omega arith))

-- ---- the holds

are_held : (g : Given) → Spans g.holds (length g.streams) (commands_held g.streams) → (conn : ℕ) → IsHeld g conn
are_held g span conn = dite (dec_lt conn (length g.streams))
    (λ within. span.counts conn within)
    (λ past.
    held_none (length g.streams) conn g.holds span.connections (omega arith)
    ∙ ap (λ (l : List (List ℕ)). length (commands_over l)) (sym (no_sessions g.streams conn (omega arith))))

-- ---- the verdict

pub run_is_right : (g : Given) → IsGivenByRun g → IsRight g
run_is_right g is = record {
  complete = record { right = are_right g is.run; whole = are_whole g is.run };
  outputs = λ conn session. ap (λ (l : List (List ℕ)). slice_get l session) (is.outputs conn);
  holds = are_held g is.holds;
}
