-- The outputs that were given, and the expected ones.
use Rattle.std.specs.List.{slice_index_or}
use Rattle.std.proofs.Common.{◌≡◌, inl, inr, ℕ, ◌+◌, ◌<◌, ◌≤◌, List, [], length, None, Some, sym, ap, ◌∙◌, subst, arith}
use Rattle.std.proofs.lemmas.List.{get_or_past}
use Rattle.std.proofs.lemmas.Option.{slice_get-get_or, slice_get_past}
use mathlib.Core.Logic.{dite}
use native.Mathlib.Decide.{ℕ_discrete, dec_lt}
use Rattle.zy_capture.specs.Streams.{sessions_of}
use Rattle.zy_run.specs.Output.{session_output, connection_outputs}
use Rattle.zy_run.proofs.OutputLemmas.{length-outputs_of, outputs_of-at}
use Rattle.zy_check.specs.Given.{Given, found_output, due_output, IsOutput}
use Rattle.zy_check.specs.Cause.{agreeing_in, ComesBefore, IsComplete, IsWrongOutput}
use Rattle.zy_check.specs.Output.{IsDiffering}

-- ---- one output

module _ (g : Given) (conn session : ℕ) where
  -- the streams of the connection's sessions, and the outputs that were given for them
  abbrev streams : List (List ℕ)
  streams = sessions_of g.streams conn

  abbrev outputs : List (List ℕ)
  outputs = sessions_of g.outputs conn

  pub due_is : session < length streams → due_output g conn session ≡ Some (session_output conn session streams g.entries)
  due_is within =
      let size = length-outputs_of conn streams g.entries in
      slice_get-get_or (connection_outputs conn streams g.entries) session [] (omega arith) ∙ ap (λ (l : List ℕ). Some l) (outputs_of-at conn session streams g.entries within)

  due_past : length streams ≤ session → due_output g conn session ≡ None
  due_past past = let size = length-outputs_of conn streams g.entries in slice_get_past (connection_outputs conn streams g.entries) session (omega arith)

  found_there : session < length outputs → found_output g conn session ≡ Some (slice_index_or outputs session [])
  found_there within = slice_get-get_or outputs session [] within

  found_past : length outputs ≤ session → found_output g conn session ≡ None
  found_past past = slice_get_past outputs session past

  -- there is no output, and none is expected
  pub no_output : length streams ≤ session → length outputs ≤ session → IsOutput g conn session
  no_output none lacks = found_past lacks ∙ sym (due_past none)

  -- there is an output, and none is expected
  pub more_output : length streams ≤ session → session < length outputs → ((s : ℕ) → s < session → IsOutput g conn s) → IsDiffering g conn session 0
  more_output past more first = record {
    first = first;
    wrong = λ same. let both : Some (slice_index_or outputs session []) ≡ None = sym (found_there more) ∙ same ∙ due_past past in absurd (cc);
    agrees = λ i. agreeing_in (found_there more i) (due_past past i);
  }

-- ---- the sessions of a connection

-- one further output is the expected one
pub outputs_more : (g : Given) (conn session : ℕ) → ((s : ℕ) → s < session → IsOutput g conn s) → IsOutput g conn session → (s : ℕ) → s < session + 1 → IsOutput g conn s
outputs_more g conn session first last s below = dite (ℕ_discrete session s)
    (λ same. subst (IsOutput g conn) same last)
    (λ other. first s (omega arith))

-- there are no further outputs
pub outputs_whole : (g : Given) (conn count : ℕ) → ((s : ℕ) → s < count → IsOutput g conn s) → length (sessions_of g.streams conn) ≤ count → length (sessions_of g.outputs conn) ≤ count
    → (s : ℕ) → IsOutput g conn s
outputs_whole g conn count first none lacks s = dite (dec_lt s count)
    (λ low. first s low)
    (λ high. no_output g conn s (omega arith) (omega arith))

-- ---- all connections

-- this session's is not
pub output_wrong : (g : Given) (conn session at : ℕ) → IsComplete g → ((c s : ℕ) → c < conn → IsOutput g c s) → IsDiffering g conn session at → IsWrongOutput g conn session at
output_wrong g conn session at complete first differs = record {
  complete = complete;
  first = before;
  wrong = differs.wrong;
  agrees = differs.agrees;
}
  where
    before : (c s : ℕ) → ComesBefore c s conn session → IsOutput g c s
    before c s (inl lower) = first c s lower
    before c s (inr same) = subst (λ (n : ℕ). IsOutput g n s) (sym same.0) (differs.first s same.1)

-- no session is of a connection that is not there
no_sessions : (connections : List (List (List ℕ))) (conn : ℕ) → length connections ≤ conn → length (sessions_of connections conn) ≤ 0
no_sessions connections conn past = let none = ap (λ (l : List (List ℕ)). length l) (get_or_past connections conn [] past) in omega arith

-- there is an output of a connection that is not there
pub connection_more : (g : Given) (conn : ℕ) → IsComplete g → ((c s : ℕ) → c < conn → IsOutput g c s) → length g.streams ≤ conn → 0 < length (sessions_of g.outputs conn) → IsWrongOutput g conn 0 0
connection_more g conn complete first past more =
    output_wrong g conn 0 0 complete first (more_output g conn 0 (no_sessions g.streams conn past) more (λ s below. absurd (omega arith)))
