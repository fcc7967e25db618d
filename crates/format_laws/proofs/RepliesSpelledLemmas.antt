-- An encoding of outputs that is not too long is the fields of a replies file, so it is read as what it
-- encodes.
use Rattle.zy_capture.proofs.RepliesSpelledLemmas.{in_state, part_state, after_state, reads_magic, due}
use Rattle.std.proofs.Common.{◌≡◌, inl, inr, ℕ, ◌+◌, ◌-◌, ◌<◌, ◌≤◌, ◌^◌, true, false, List, [], ◌∷◌, ◌++◌, length}
use Rattle.std.proofs.Common.{refl, sym, ◌∙◌, ap, subst, arith, append_assoc, length-append}
use Rattle.std.specs.Prelude.{◌==◌, ◌&&◌, ◌||◌, nat_lt, flat_map}
use Rattle.std.specs.Int.{to_be_bytes, w32, w64}
use Rattle.std.proofs.lemmas.List.{append-nil}
use Rattle.std.proofs.lemmas.Bool.Decides.{nat_tests}
use Rattle.std.proofs.lemmas.Nat.{from_be_bytes-to_be_bytes_4, from_be_bytes-to_be_bytes_8}
use Rattle.zy_base.specs.declared.file_fault.FileFault.TheVariants.{Form}
use Rattle.zy_read.proofs.MagicLemmas.{IsVersion}
use Rattle.zy_read.proofs.MagicFieldLemmas.{magic_over}
use Rattle.zy_read.specs.Runs.{RunsOver}
use Rattle.zy_read.proofs.OverLemmas.{over_none, over_then, over_gives, over_join, over_begins}
use Rattle.zy_read.proofs.VerdictLemmas.{whole_good}
use Rattle.zy_capture.specs.declared.session_bytes.SessionBytes.{SessionBytes}
use Rattle.zy_capture.specs.declared.replies_due.RepliesDue.{RepliesDue}
use Rattle.zy_capture.specs.declared.replies_due.RepliesDue.TheVariants.{Tag, Connection, Session, Length, Output}
use Rattle.zy_capture.specs.declared.replies_due.RepliesDue.TheVariants.{Nothing}
use Rattle.zy_capture.specs.declared.replies_state.RepliesState.{RepliesState}
use Rattle.zy_capture.specs.Capture.{connection_limit}
use Rattle.zy_capture.specs.Replies.{letters, replies_magic, session_text, spelled, spelling, IsNextSession}
use Rattle.zy_capture.specs.Replies.{AreNumbers, AreBySession, IsRepliesFile, SpellsReplies, replies_limit}
use Rattle.zy_capture.specs.Replies.{front_text, connections_after, sessions_after}
use Rattle.zy_capture.specs.RepliesSteps.{start, goes, connection, session, size_read, replies_fields}
use Rattle.zy_capture.specs.RepliesVerdict.{good, verdict}
use Rattle.zy_capture.specs.RepliesVerdict.Verdict.{Good, Bad}
use Rattle.zy_capture.specs.RepliesLaws.{lawful}

-- whole fields that lead from a state to a state, and give these outputs
abbrev pub Over : RepliesState → ℕ → List ℕ → RepliesState → List SessionBytes → Type 0
Over s at text last given = RunsOver replies_fields s at text last given

-- ---- tests

pub may : (version connections sessions conn number : ℕ) → conn < connection_limit → IsNextSession version connections sessions conn number
    → (nat_lt conn connection_limit && (conn == connections || (version == 2 && conn + 1 == connections))) ≡ true
may version connections sessions conn number below next = grind (arith, nat_tests)

-- after the connection of a record, in version 2
pub connection_two : (s : RepliesState) (at conn number : ℕ) → conn < connection_limit → s.version ≡ 2 → IsNextSession s.version s.connections s.sessions conn number → connection s at conn ≡ goes s (Session conn)
connection_two s at conn number below two next = rw (may s.version s.connections s.sessions conn number below next, two) refl

-- and in version 1
connection_one : (s : RepliesState) (at conn number : ℕ) → conn < connection_limit → s.version ≡ 1 → IsNextSession s.version s.connections s.sessions conn number → connection s at conn ≡ goes s (Length conn 0)
connection_one s at conn number below one next = rw (may s.version s.connections s.sessions conn number below next, one) refl

session_two : (s : RepliesState) (at conn number : ℕ) → number < 2 ^ 31 → IsNextSession s.version s.connections s.sessions conn number → session conn s at number ≡ goes s (Length conn number)
session_two s at conn number below next = rw (due s.version s.connections s.sessions conn number below next) refl

no_session : (version connections sessions conn number : ℕ) → version ≡ 1 → IsNextSession version connections sessions conn number → number ≡ 0
no_session version connections sessions conn number one (inl first) = first.1
no_session version connections sessions conn number one (inr later) = absurd (omega (arith, one, later.0))

zero_no : (n : ℕ) → 0 < n → (n == 0) ≡ false
zero_no n some = grind (arith, nat_tests)

-- ---- records

-- a connection, where it is judged so
pub connection_over : (version connections sessions at conn : ℕ) (next : RepliesDue) → conn < 2 ^ 32 → connection (in_state Connection version connections sessions) at conn ≡ goes (in_state Connection version connections sessions) next
    → Over (in_state Connection version connections sessions) at (to_be_bytes w32 conn) (in_state next version connections sessions) []
connection_over version connections sessions at conn next small judges =
    let s : RepliesState = in_state Connection version connections sessions in
    over_then replies_fields s (in_state next version connections sessions) at (to_be_bytes w32 conn) refl
    (ap (λ (n : ℕ). connection s at n) (from_be_bytes-to_be_bytes_4 conn small) ∙ judges)

session_over : (version connections sessions at conn number : ℕ) → number < 2 ^ 31 → IsNextSession version connections sessions conn number
    → Over (in_state (Session conn) version connections sessions) at (to_be_bytes w32 number) (in_state (Length conn number) version connections sessions) []
session_over version connections sessions at conn number below next =
    let s : RepliesState = in_state (Session conn) version connections sessions in
    over_then replies_fields s (in_state (Length conn number) version connections sessions) at (to_be_bytes w32 number) refl
    (ap (λ (n : ℕ). session conn s at n) (from_be_bytes-to_be_bytes_4 number (omega (arith, below))) ∙ session_two s at conn number below next)

-- the length of an output, and its bytes
rest_over : (version connections sessions at conn number : ℕ) (bytes : List ℕ) → length bytes < 2 ^ 64
    → Over (in_state (Length conn number) version connections sessions) at (to_be_bytes w64 (length bytes) ++ bytes) (in_state Tag version (conn + 1) (number + 1)) (record { conn = conn; session = number; bytes = bytes } ∷ [])
rest_over version connections sessions at conn number [] small =
    let s : RepliesState = in_state (Length conn number) version connections sessions in
    subst (λ (l : List ℕ). Over s at l (in_state Tag version (conn + 1) (number + 1)) (record { conn = conn; session = number; bytes = [] } ∷ [])) (sym (append-nil (to_be_bytes w64 0)))
    (over_gives replies_fields s (in_state Tag version (conn + 1) (number + 1)) (record { conn = conn; session = number; bytes = [] }) at (to_be_bytes w64 0) refl refl)
rest_over version connections sessions at conn number (byte ∷ bytes) small =
    let size : ℕ = length (byte ∷ bytes) in
    let s : RepliesState = in_state (Length conn number) version connections sessions in
    let t : RepliesState = in_state (Output conn number (size - 1)) version connections sessions in
    let item : SessionBytes = record { conn = conn; session = number; bytes = byte ∷ bytes } in
    let judges : size_read conn number s size ≡ goes s (Output conn number (size - 1)) = rw (zero_no size (omega arith)) refl in
    over_join replies_fields s t (in_state Tag version (conn + 1) (number + 1)) at (to_be_bytes w64 size) (byte ∷ bytes) [] (item ∷ [])
    (over_then replies_fields s t at (to_be_bytes w64 size) refl (ap (λ (n : ℕ). size_read conn number s n) (from_be_bytes-to_be_bytes_8 size small) ∙ judges))
    (over_gives replies_fields t (in_state Tag version (conn + 1) (number + 1)) item (at + length (to_be_bytes w64 size)) (byte ∷ bytes) (omega arith) refl)

-- a record up to its connection
pub tag_over : (version connections sessions at : ℕ) → Over (in_state Tag version connections sessions) at (82 ∷ []) (in_state Connection version connections sessions) []
tag_over version connections sessions at = over_then replies_fields (in_state Tag version connections sessions) (in_state Connection version connections sessions) at (82 ∷ []) refl refl

record_over : (item : SessionBytes) (version connections sessions at : ℕ) → IsVersion version → IsNextSession version connections sessions item.conn item.session → AreNumbers item.conn item.session → length item.bytes < 2 ^ 64
    → Over (in_state Tag version connections sessions) at (spelled version item) (in_state Tag version (item.conn + 1) (item.session + 1)) (item ∷ [])
record_over item version connections sessions at (inl one) next numbers small =
    let s : RepliesState = in_state Tag version connections sessions in
    let c : RepliesState = in_state Connection version connections sessions in
    let t : RepliesState = in_state Tag version (item.conn + 1) (item.session + 1) in
    let rest : List ℕ = to_be_bytes w64 (length item.bytes) ++ item.bytes in
    let none : session_text version item.session ≡ [] = rw one refl in
    let zero_is : item.session ≡ 0 = no_session version connections sessions item.conn item.session one next in
    let l : RepliesState = in_state (Length item.conn item.session) version connections sessions in
    let there : connection c (at + 1) item.conn ≡ goes c (Length item.conn item.session) = connection_one c (at + 1) item.conn item.session numbers.0 one next ∙ ap (λ (n : ℕ). goes c (Length item.conn n)) (sym zero_is) in
    subst (λ (m : List ℕ). Over s at (82 ∷ (to_be_bytes w32 item.conn ++ (m ++ rest))) t (item ∷ [])) (sym none)
    (over_join replies_fields s c t at (82 ∷ []) (to_be_bytes w32 item.conn ++ rest) [] (item ∷ []) (tag_over version connections sessions at)
    (over_join replies_fields c l t (at + 1) (to_be_bytes w32 item.conn) rest [] (item ∷ []) (connection_over version connections sessions (at + 1) item.conn (Length item.conn item.session) (omega (arith, numbers.0)) there)
    (rest_over version connections sessions (at + 1 + length (to_be_bytes w32 item.conn)) item.conn item.session item.bytes small)))
record_over item version connections sessions at (inr two) next numbers small =
    let s : RepliesState = in_state Tag version connections sessions in
    let c : RepliesState = in_state Connection version connections sessions in
    let n : RepliesState = in_state (Session item.conn) version connections sessions in
    let l : RepliesState = in_state (Length item.conn item.session) version connections sessions in
    let t : RepliesState = in_state Tag version (item.conn + 1) (item.session + 1) in
    let rest : List ℕ = to_be_bytes w64 (length item.bytes) ++ item.bytes in
    let some : session_text version item.session ≡ to_be_bytes w32 item.session = rw two refl in
    subst (λ (m : List ℕ). Over s at (82 ∷ (to_be_bytes w32 item.conn ++ (m ++ rest))) t (item ∷ [])) (sym some)
    (over_join replies_fields s c t at (82 ∷ []) (to_be_bytes w32 item.conn ++ (to_be_bytes w32 item.session ++ rest)) [] (item ∷ []) (tag_over version connections sessions at)
    (over_join replies_fields c n t (at + 1) (to_be_bytes w32 item.conn) (to_be_bytes w32 item.session ++ rest) [] (item ∷ []) (connection_over version connections sessions (at + 1) item.conn (Session item.conn) (omega (arith, numbers.0)) (connection_two c (at + 1) item.conn item.session numbers.0 two next))
    (over_join replies_fields n l t (at + 1 + length (to_be_bytes w32 item.conn)) (to_be_bytes w32 item.session) rest [] (item ∷ []) (session_over version connections sessions (at + 1 + length (to_be_bytes w32 item.conn)) item.conn item.session numbers.1 next)
    (rest_over version connections sessions (at + 1 + length (to_be_bytes w32 item.conn) + length (to_be_bytes w32 item.session)) item.conn item.session item.bytes small))))

-- an output is not longer than its record
bytes_few : (version : ℕ) (item : SessionBytes) → length item.bytes ≤ length (spelled version item)
bytes_few version item =
    omega (arith, length-append (to_be_bytes w32 item.conn) (session_text version item.session ++ (to_be_bytes w64 (length item.bytes) ++ item.bytes)), length-append (session_text version item.session) (to_be_bytes w64 (length item.bytes) ++ item.bytes), length-append (to_be_bytes w64 (length item.bytes)) item.bytes)

records_over : (items : List SessionBytes) (version connections sessions at : ℕ) → IsVersion version → AreBySession version connections sessions items → length (flat_map (spelled version) items) < 2 ^ 64
    → Over (in_state Tag version connections sessions) at (flat_map (spelled version) items) (in_state Tag version (connections_after connections items) (sessions_after sessions items)) items
records_over [] version connections sessions at known ordered small = over_none replies_fields (in_state Tag version connections sessions) at
records_over (item ∷ items) version connections sessions at known ordered small =
    let sizes : length (spelled version item ++ flat_map (spelled version) items) ≡ length (spelled version item) + length (flat_map (spelled version) items) = length-append (spelled version item) (flat_map (spelled version) items) in
    over_join replies_fields (in_state Tag version connections sessions) (in_state Tag version (item.conn + 1) (item.session + 1)) (in_state Tag version (connections_after connections (item ∷ items)) (sessions_after sessions (item ∷ items))) at
    (spelled version item) (flat_map (spelled version) items) (item ∷ []) items
    (record_over item version connections sessions at known ordered.0 ordered.1 (omega (arith, small, sizes, bytes_few version item)))
    (records_over items version (item.conn + 1) (item.session + 1) (at + length (spelled version item)) known ordered.2 (omega (arith, small, sizes)))

-- the state after these records
abbrev pub after_items : ℕ → List SessionBytes → RepliesState
after_items version items = in_state Tag version (connections_after 0 items) (sessions_after 0 items)

-- the magic and the records of a file
pub front_over : (version : ℕ) (items : List SessionBytes) → IsRepliesFile version items → length (front_text version items) ≤ replies_limit → Over start 0 (front_text version items) (after_items version items) items
front_over version items valid short =
    let sizes : length (front_text version items) ≡ length (replies_magic version) + length (flat_map (spelled version) items) = length-append (replies_magic version) (flat_map (spelled version) items) in
    over_join replies_fields start (in_state Tag version 0 0) (after_items version items) 0 (replies_magic version) (flat_map (spelled version) items) [] items (magic_over replies_fields letters part_state after_state Form reads_magic version valid.known)
    (records_over items version 0 0 8 valid.known valid.ordered (omega (arith, short, sizes)))

-- ---- the whole

-- the state at the end
abbrev pub end_state : ℕ → List SessionBytes → RepliesState
end_state version items = in_state Nothing version (connections_after 0 items) (sessions_after 0 items)

pub spelling_over : (version : ℕ) (items : List SessionBytes) → IsRepliesFile version items → length (spelling version items) ≤ replies_limit → Over start 0 (spelling version items) (end_state version items) items
unfolding spelling
spelling_over version items valid short =
    let body : List ℕ = flat_map (spelled version) items in
    let whole : front_text version items ++ 69 ∷ [] ≡ replies_magic version ++ (body ++ 69 ∷ []) = append_assoc (replies_magic version) body (69 ∷ []) in
    let sizes : length (front_text version items ++ 69 ∷ []) ≡ length (front_text version items) + 1 = length-append (front_text version items) (69 ∷ []) in
    let front = front_over version items valid (omega (arith, short, sizes, ap (λ (l : List ℕ). length l) whole)) in
    subst (λ (l : List ℕ). Over start 0 l (end_state version items) items) whole
    (subst (λ (l : List SessionBytes). Over start 0 (front_text version items ++ 69 ∷ []) (end_state version items) l) (append-nil items)
    (over_join replies_fields start (after_items version items) (end_state version items) 0 (front_text version items) (69 ∷ []) items [] front
    (over_then replies_fields (after_items version items) (end_state version items) (0 + length (front_text version items)) (69 ∷ []) refl refl)))

-- a spelling is good
pub spells_good : (text : List ℕ) (version : ℕ) (items : List SessionBytes) → SpellsReplies text version items → verdict text ≡ Good version items
spells_good text version items spells =
    let short : length (spelling version items) ≤ replies_limit = subst (λ (l : List ℕ). length l ≤ replies_limit) spells.spelled spells.short in
    whole_good replies_fields lawful good Bad text (end_state version items) items (record {
      begins = over_begins replies_fields text (end_state version items) (spelling version items) [] items (spelling_over version items spells.valid short) short (spells.spelled ∙ sym (append-nil (spelling version items)));
      end_is = refl;
    })
