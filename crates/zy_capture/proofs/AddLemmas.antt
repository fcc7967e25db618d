-- A further record of the streams, and a further output of the outputs.
use Rattle.std.proofs.Common.{◌≡◌, ◌⊎◌, inl, inr, ℕ, zero, suc, ◌+◌, List, [], ◌∷◌, ◌++◌, length, set, get_or, refl, sym, ◌∙◌, ap, subst, arith, append_assoc}
use Rattle.std.specs.Prelude.{◌==◌, false}
use Rattle.std.specs.List.{AllByRecursion, slice_set}
use Rattle.std.proofs.lemmas.List.{append-nil, length-set, length-replicate}
use Rattle.std.proofs.lemmas.Bool.{eq-eqb}
use Rattle.std.proofs.lemmas.Bool.Decides.{nat_tests}
use Rattle.zy_capture.specs.declared.record.Record.{Record}
use Rattle.zy_capture.specs.declared.record.Record.TheVariants as Kinds
use Rattle.zy_capture.specs.declared.session_bytes.SessionBytes.{SessionBytes}
use Rattle.zy_capture.specs.Outputs.{AllOutputs, AreOutputs, HasSessions, MayAdd, with_session, with_output}
use Rattle.zy_capture.specs.Streams.{sessions_of, no_bytes, last_grown, with_record, with_records}
use Rattle.zy_capture.specs.Replies.{AreNumbers, AreBySession, IsNextSession, session_items, all_items, items_of}
use Rattle.zy_capture.specs.Replies.{connections_after, sessions_after}

-- ---- records

pub records_on : (connections : List (List (List ℕ))) (items : List Record) (item : Record) → with_records connections (items ++ item ∷ []) ≡ with_record (with_records connections items) item
records_on connections [] item = refl
records_on connections (first ∷ items) item = records_on (with_record connections first) items item

record_size : (connections : List (List (List ℕ))) (item : Record) → length (with_record connections item) ≡ length connections
record_size connections (Kinds.Segment s) = length-set connections s.conn (last_grown (sessions_of connections s.conn) s.bytes)
record_size connections (Kinds.Close conn) = length-set connections conn (sessions_of connections conn ++ [] ∷ [])

records_size : (connections : List (List (List ℕ))) (items : List Record) → length (with_records connections items) ≡ length connections
records_size connections [] = refl
records_size connections (item ∷ items) = records_size (with_record connections item) items ∙ record_size connections item

pub streams_size : (count : ℕ) (items : List Record) → length (with_records (no_bytes count) items) ≡ count
streams_size count items = records_size (no_bytes count) items ∙ length-replicate count ([] ∷ [])

-- ---- an output of another session

-- the output of a session
abbrev output_of : ℕ → ℕ → List ℕ → SessionBytes
output_of conn session bytes = record { conn = conn; session = session; bytes = bytes }

sessions_on : (conn number : ℕ) (sessions : List (List ℕ)) (bytes : List ℕ) → session_items conn number (sessions ++ bytes ∷ []) ≡ session_items conn number sessions ++ output_of conn (number + length sessions) bytes ∷ []
sessions_on conn number [] bytes = ap (λ (n : ℕ). output_of conn n bytes ∷ []) (omega arith)
sessions_on conn number (first ∷ sessions) bytes =
    ap (λ (l : List SessionBytes). output_of conn number first ∷ l)
    (sessions_on conn (number + 1) sessions bytes ∙ ap (λ (n : ℕ). session_items conn (number + 1) sessions ++ output_of conn n bytes ∷ []) (omega arith))

next_on : (conn : ℕ) (connections : List (List (List ℕ))) (bytes : List ℕ) → all_items conn (connections ++ (bytes ∷ []) ∷ []) ≡ all_items conn connections ++ output_of (conn + length connections) 0 bytes ∷ []
next_on conn [] bytes = ap (λ (n : ℕ). output_of n 0 bytes ∷ []) (omega arith)
next_on conn (sessions ∷ connections) bytes =
    ap (λ (l : List SessionBytes). session_items conn 0 sessions ++ l) (next_on (conn + 1) connections bytes)
    ∙ ap (λ (n : ℕ). session_items conn 0 sessions ++ (all_items (conn + 1) connections ++ output_of n 0 bytes ∷ [])) (omega arith)
    ∙ sym (append_assoc (session_items conn 0 sessions) (all_items (conn + 1) connections) (output_of (conn + length (sessions ∷ connections)) 0 bytes ∷ []))

last_on : (conn i : ℕ) (connections : List (List (List ℕ))) (bytes : List ℕ) → i + 1 ≡ length connections
    → all_items conn (set connections i (get_or connections i [] ++ bytes ∷ [])) ≡ all_items conn connections ++ output_of (conn + i) (length (get_or connections i [])) bytes ∷ []
last_on conn i [] bytes last = absurd (omega (arith, last))
last_on conn zero (sessions ∷ []) bytes last =
    append-nil (session_items conn 0 (sessions ++ bytes ∷ [])) ∙ sessions_on conn 0 sessions bytes
    ∙ ap (λ (l : List SessionBytes). l ++ output_of conn (0 + length sessions) bytes ∷ []) (sym (append-nil (session_items conn 0 sessions)))
    ∙ ap (λ (n : ℕ). (session_items conn 0 sessions ++ []) ++ output_of conn n bytes ∷ []) (omega arith)
    ∙ ap (λ (n : ℕ). (session_items conn 0 sessions ++ []) ++ output_of n (length sessions) bytes ∷ []) (omega arith)
last_on conn zero (sessions ∷ next ∷ connections) bytes last = absurd (omega (arith, last))
last_on conn (suc i) (sessions ∷ connections) bytes last =
    ap (λ (l : List SessionBytes). session_items conn 0 sessions ++ l) (last_on (conn + 1) i connections bytes (omega (arith, last)))
    ∙ ap (λ (n : ℕ). session_items conn 0 sessions ++ (all_items (conn + 1) connections ++ output_of n (length (get_or connections i [])) bytes ∷ [])) (omega arith)
    ∙ sym (append_assoc (session_items conn 0 sessions) (all_items (conn + 1) connections) (output_of (conn + suc i) (length (get_or connections i [])) bytes ∷ []))

-- ---- the output that comes next

order_last : (version connections sessions : ℕ) (given : List SessionBytes) (item : SessionBytes) → AreBySession version connections sessions (given ++ item ∷ [])
    → IsNextSession version (connections_after connections given) (sessions_after sessions given) item.conn item.session × AreNumbers item.conn item.session
order_last version connections sessions [] item ordered = (ordered.0, ordered.1)
order_last version connections sessions (first ∷ given) item ordered = order_last version (first.conn + 1) (first.session + 1) given item ordered.2

after_sessions : (conn number connections : ℕ) (first : List ℕ) (sessions : List (List ℕ)) (rest : List SessionBytes) → connections_after connections (session_items conn number (first ∷ sessions) ++ rest) ≡ connections_after (conn + 1) rest
after_sessions conn number connections first [] rest = refl
after_sessions conn number connections first (next ∷ sessions) rest = after_sessions conn (number + 1) (conn + 1) next sessions rest

sessions_past : (conn number before : ℕ) (first : List ℕ) (sessions : List (List ℕ)) (rest : List SessionBytes) → sessions_after before (session_items conn number (first ∷ sessions) ++ rest) ≡ sessions_after (number + length (first ∷ sessions)) rest
sessions_past conn number before first [] rest = ap (λ (n : ℕ). sessions_after n rest) (omega arith)
sessions_past conn number before first (next ∷ sessions) rest = sessions_past conn (number + 1) (number + 1) next sessions rest ∙ ap (λ (n : ℕ). sessions_after n rest) (omega arith)

connections_are : (version conn : ℕ) (connections : List (List (List ℕ))) → AllByRecursion (HasSessions version) connections → connections_after conn (all_items conn connections) ≡ conn + length connections
connections_are version conn [] all = omega arith
connections_are version conn ([] ∷ connections) all = absurd (omega (arith, all.0.some))
connections_are version conn ((first ∷ sessions) ∷ connections) all =
    after_sessions conn 0 conn first sessions (all_items (conn + 1) connections) ∙ connections_are version (conn + 1) connections all.1 ∙ omega arith

sessions_are : (version conn before i : ℕ) (connections : List (List (List ℕ))) → AllByRecursion (HasSessions version) connections → i + 1 ≡ length connections → sessions_after before (all_items conn connections) ≡ length (get_or connections i [])
sessions_are version conn before i [] all last = absurd (omega (arith, last))
sessions_are version conn before i ([] ∷ connections) all last = absurd (omega (arith, all.0.some))
sessions_are version conn before zero ((first ∷ sessions) ∷ []) all last = sessions_past conn 0 before first sessions [] ∙ omega arith
sessions_are version conn before zero ((first ∷ sessions) ∷ next ∷ connections) all last = absurd (omega (arith, last))
sessions_are version conn before (suc i) ((first ∷ sessions) ∷ connections) all last =
    sessions_past conn 0 before first sessions (all_items (conn + 1) connections) ∙ sessions_are version (conn + 1) (0 + length (first ∷ sessions)) i connections all.1 (omega (arith, last))

-- the session that an output of this connection has when it is added: the first of the next
-- connection, or the next of the last one
abbrev pub IsAdded : List (List (List ℕ)) → ℕ → ℕ → Type 0
IsAdded sessions conn session =
    ((conn ≡ length sessions) × (session ≡ 0)) ⊎ ((conn + 1 ≡ length sessions) × (session ≡ length (sessions_of sessions conn)))

-- an output that is added is the last one
pub added_last : (outputs : AllOutputs) (item : SessionBytes) → IsAdded outputs.sessions item.conn item.session → items_of (with_output outputs item.conn item.bytes) ≡ items_of outputs ++ item ∷ []
added_last outputs item (inl next) =
    let is : with_session outputs.sessions item.conn item.bytes ≡ outputs.sessions ++ (item.bytes ∷ []) ∷ [] = rw (eq-eqb item.conn (length outputs.sessions) next.0) refl in
    let same : output_of (0 + length outputs.sessions) 0 item.bytes ≡ item = (let place : 0 + length outputs.sessions ≡ item.conn = omega (arith, next.0) in rw (place, sym next.1) refl) in
    ap (λ (l : List (List (List ℕ))). all_items 0 l) is ∙ next_on 0 outputs.sessions item.bytes ∙ ap (λ (o : SessionBytes). items_of outputs ++ o ∷ []) same
added_last outputs item (inr last) =
    let old : List (List ℕ) = sessions_of outputs.sessions item.conn in
    let differs : (item.conn == length outputs.sessions) ≡ false = grind (arith, nat_tests, last.0) in
    let is : with_session outputs.sessions item.conn item.bytes ≡ slice_set outputs.sessions item.conn (old ++ item.bytes ∷ []) = rw differs refl in
    ap (λ (l : List (List (List ℕ))). all_items 0 l) is ∙ last_on 0 item.conn outputs.sessions item.bytes last.0
    ∙ ap (λ (n : ℕ). all_items 0 outputs.sessions ++ output_of n (length old) item.bytes ∷ []) (omega arith)
    ∙ ap (λ (n : ℕ). items_of outputs ++ output_of item.conn n item.bytes ∷ []) (sym last.1)

-- an output that comes next in a file may be added, and its session is the one that is added
pub record Adds (outputs : AllOutputs) (item : SessionBytes) : Type 0 where
  pub may : MayAdd outputs item.conn
  pub items : items_of (with_output outputs item.conn item.bytes) ≡ items_of outputs ++ item ∷ []

adds : (outputs : AllOutputs) (item : SessionBytes) → AreOutputs outputs → IsNextSession outputs.version (length outputs.sessions) (sessions_after 0 (items_of outputs)) item.conn item.session → AreNumbers item.conn item.session → Adds outputs item
adds outputs item are (inl next) numbers = record { may = inl (next.0, numbers.0); items = added_last outputs item (inl next) }
adds outputs item are (inr last) numbers =
    let count : item.session ≡ length (sessions_of outputs.sessions item.conn) = last.2 ∙ sessions_are outputs.version 0 0 item.conn outputs.sessions are.sessions last.1 in
    record { may = inr (last.0, last.1, omega (arith, count, numbers.1)); items = added_last outputs item (inr (last.1, count)) }

pub next_adds : (outputs : AllOutputs) (item : SessionBytes) → AreOutputs outputs → AreBySession outputs.version 0 0 (items_of outputs ++ item ∷ []) → Adds outputs item
next_adds outputs item are ordered =
    let last = order_last outputs.version 0 0 (items_of outputs) item ordered in
    let count : connections_after 0 (items_of outputs) ≡ length outputs.sessions = connections_are outputs.version 0 outputs.sessions are.sessions ∙ omega arith in
    adds outputs item are (subst (λ (n : ℕ). IsNextSession outputs.version n (sessions_after 0 (items_of outputs)) item.conn item.session) count last.0) last.1
