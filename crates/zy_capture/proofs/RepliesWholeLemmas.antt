-- A replies text without a fault is the bytes that spell what was read of it.
use Rattle.std.proofs.Common.{◌≡◌, ◌⊎◌, inl, inr, ℕ, ◌+◌, ◌-◌, ◌<◌, ◌^◌, Bool, true, false, List, [], ◌∷◌, ◌++◌, length, get_or, refl, sym, ◌∙◌, ap, subst, arith, append_assoc, length-append}
use Rattle.std.specs.Prelude.{◌==◌, ◌&&◌, ◌||◌, nat_lt, if◌then◌else◌, flat_map}
use Rattle.std.specs.List.{concat}
use Rattle.std.specs.Int.{to_be_bytes, from_be_bytes, w32, w64}
use Rattle.std.proofs.lemmas.List.{append-nil}
use Rattle.std.proofs.lemmas.Bool.{eqb-true, eq-eqb, ltb-true}
use Rattle.std.proofs.lemmas.Bool.Decides.{nat_tests}
use Rattle.std.proofs.lemmas.Nat.{be_bytes_4, be_bytes_8}
use Rattle.std.proofs.lemmas.Grind.{flat_map-append}
use Rattle.zy_base.specs.declared.file_fault.FileFault.{FileFault}
use Rattle.zy_read.specs.declared.magic.MagicPart.{MagicPart}
use Rattle.zy_read.specs.declared.magic.MagicStep.{MagicStep}
use Rattle.zy_read.specs.declared.magic.MagicStep.TheVariants as Steps
use Rattle.zy_read.specs.Magic.{magic_step, IsInMagic, magic_before}
use Rattle.zy_read.specs.Bytes.{AreBytes}
use Rattle.zy_read.specs.Fields.{Judged}
use Rattle.zy_read.specs.FieldReading.{width_of}
use Rattle.zy_read.specs.Runs.{Begins, IsWhole, IsOutcome}
use Rattle.zy_read.proofs.MagicFieldLemmas.{one_byte}
use Rattle.zy_read.proofs.MagicLemmas.{IsVersion, IsKnown, LeadsTo, leads}
use Rattle.zy_read.proofs.ByteLemmas.{byte_at, bytes_front}
use Rattle.zy_read.proofs.RunLemmas.{After, Keeps, runs_keep, byte_parts}
use Rattle.zy_read.proofs.VerdictLemmas.{outcome}
use Rattle.zy_capture.specs.declared.session_bytes.SessionBytes.{SessionBytes}
use Rattle.zy_capture.specs.declared.replies_due.RepliesDue.{RepliesDue}
use Rattle.zy_capture.specs.declared.replies_due.RepliesDue.TheVariants.{Magic, Tag, Connection, Session, Length, Output, Nothing}
use Rattle.zy_capture.specs.declared.replies_state.RepliesState.{RepliesState}
use Rattle.zy_capture.specs.Capture.{connection_limit}
use Rattle.zy_capture.specs.Replies.{letters, replies_magic, session_text, spelled, spelling, IsNextSession, AreNumbers, AreBySession, SpellsReplies}
use Rattle.zy_capture.specs.Replies.{front_text, connections_after, sessions_after}
use Rattle.zy_capture.specs.RepliesSteps.{shape, start, after_magic, tag, may_come, due_session, connection, session, size_read, judged, is_last, replies_fields}
use Rattle.zy_capture.specs.RepliesVerdict.{Verdict, good, verdict}
use Rattle.zy_capture.specs.RepliesVerdict.Verdict.{Good, Bad}
use Rattle.zy_capture.specs.RepliesLaws.{lawful}
use Rattle.zy_capture.proofs.ByteLemmas.{positive, chosen, assoc_twice}

-- ---- what was read

-- the bytes up to the place `at`, where this is expected
abbrev pub bytes_of : RepliesDue → RepliesState → List SessionBytes → ℕ → List ℕ
bytes_of (Magic part) s given at = magic_before part letters at
bytes_of Tag s given at = front_text s.version given
bytes_of Connection s given at = front_text s.version given ++ 82 ∷ []
bytes_of (Session conn) s given at = front_text s.version given ++ 82 ∷ to_be_bytes w32 conn
bytes_of (Length conn number) s given at = front_text s.version given ++ 82 ∷ (to_be_bytes w32 conn ++ session_text s.version number)
bytes_of (Output conn number others) s given at =
    front_text s.version given ++ 82 ∷ (to_be_bytes w32 conn ++ (session_text s.version number ++ to_be_bytes w64 (others + 1)))
bytes_of Nothing s given at = front_text s.version given ++ 69 ∷ []

-- before the first record
pub record IsFirst (s : RepliesState) (given : List SessionBytes) : Type 0 where
  pub none : given ≡ []
  pub no_version : s.version ≡ 0
  pub no_connection : s.connections ≡ 0
  pub no_session : s.sessions ≡ 0

-- among the records
pub record IsAmong (version connections sessions : ℕ) (given : List SessionBytes) : Type 0 where
  pub known : IsVersion version
  pub ordered : AreBySession version 0 0 given
  pub connections_are : connections ≡ connections_after 0 given
  pub sessions_are : sessions ≡ sessions_after 0 given

-- a connection may come next
abbrev pub MayCome : RepliesState → ℕ → Type 0
MayCome s conn = (conn < connection_limit) × ((conn ≡ s.connections) ⊎ ((s.version ≡ 2) × (conn + 1 ≡ s.connections)))

-- a session is the next one
abbrev pub IsDue : RepliesState → ℕ → ℕ → Type 0
IsDue s conn number = IsNextSession s.version s.connections s.sessions conn number × AreNumbers conn number

-- the records so far are those of a file with this state
abbrev pub AreSoFar : RepliesState → List SessionBytes → Type 0
AreSoFar s given = IsAmong s.version s.connections s.sessions given

-- what holds where this is expected
abbrev pub IsSoFar : RepliesDue → RepliesState → List SessionBytes → ℕ → Type 0
IsSoFar (Magic part) s given at = IsFirst s given × IsInMagic part at × IsKnown part
IsSoFar (Session conn) s given at = AreSoFar s given × MayCome s conn × (s.version ≡ 2)
IsSoFar (Length conn number) s given at = AreSoFar s given × IsDue s conn number
IsSoFar (Output conn number others) s given at = AreSoFar s given × IsDue s conn number
IsSoFar due s given at = AreSoFar s given

-- the bytes lead to where this is expected
pub record IsReadTo (due : RepliesDue) (s : RepliesState) (text : List ℕ) (given : List SessionBytes) : Type 0 where
  pub bytes : text ≡ bytes_of due s given (length text)
  pub valid : IsSoFar due s given (length text)

-- the bytes lead to this state
abbrev pub LeadTo : RepliesState → List ℕ → List SessionBytes → Type 0
LeadTo s text given = IsReadTo s.due s text given

-- what a whole field leads to
abbrev Leads : List ℕ → List SessionBytes → Judged RepliesState SessionBytes FileFault → Type 0
Leads text given judged = After LeadTo text given judged

-- ---- tests

-- either of two tests
either : (x y : Bool) → (x || y) ≡ true → (x ≡ true) ⊎ (y ≡ true)
either true y is = inl refl
either false y is = inr is

both : (x y : Bool) → (x && y) ≡ true → (x ≡ true) × (y ≡ true)
both true y is = (refl, is)
both false y is = cc

may_come_true : (conn connections version : ℕ) → (nat_lt conn connection_limit && (conn == connections || (version == 2 && conn + 1 == connections))) ≡ true
    → (conn < connection_limit) × ((conn ≡ connections) ⊎ ((version ≡ 2) × (conn + 1 ≡ connections)))
may_come_true conn connections version is =
    let parts = both (nat_lt conn connection_limit) (conn == connections || (version == 2 && conn + 1 == connections)) is in
    let ways : (conn ≡ connections) ⊎ ((version ≡ 2) × (conn + 1 ≡ connections)) = elim (either (conn == connections) (version == 2 && conn + 1 == connections) parts.1) [
      | inl next ↦ inl (eqb-true conn connections next)
      | inr last ↦ let two = both (version == 2) (conn + 1 == connections) last in inr (eqb-true version 2 two.0, eqb-true (conn + 1) connections two.1)
    ] in
    (ltb-true conn connection_limit parts.0, ways)

no_session_text : (version number : ℕ) → (version == 2) ≡ false → session_text version number ≡ []
no_session_text version number one = rw one refl

some_session_text : (version number : ℕ) → version ≡ 2 → session_text version number ≡ to_be_bytes w32 number
some_session_text version number two = rw two refl

due_true : (n due : ℕ) → (n == due && nat_lt n (2 ^ 31)) ≡ true → (n ≡ due) × (n < 2 ^ 31)
due_true n due is = let parts = both (n == due) (nat_lt n (2 ^ 31)) is in (eqb-true n due parts.0, ltb-true n (2 ^ 31) parts.1)

two_not : (version : ℕ) → (version == 2) ≡ false → version ≡ 2 → ⊥
two_not version one two = grind (arith, nat_tests)

-- in version 1 the next connection alone comes next, with session 0
first_due : (version connections sessions conn : ℕ) → (version == 2) ≡ false → (conn ≡ connections) ⊎ ((version ≡ 2) × (conn + 1 ≡ connections)) → IsNextSession version connections sessions conn 0
first_due version connections sessions conn one (inl next) = inl (next, refl)
first_due version connections sessions conn one (inr last) = absurd (two_not version one last.0)

session_due : (version connections sessions conn n : ℕ) → (conn ≡ connections) ⊎ ((version ≡ 2) × (conn + 1 ≡ connections)) → n ≡ (if conn == connections then 0 else sessions) → IsNextSession version connections sessions conn n
session_due version connections sessions conn n (inl next) is =
    let yes_next : (conn == connections) ≡ true = eq-eqb conn connections next in inl (next, is ∙ rw yes_next refl)
session_due version connections sessions conn n (inr last) is =
    let differs : (conn == connections) ≡ false = grind (arith, nat_tests) in inr (last.0, last.1, is ∙ rw differs refl)

-- ---- records

-- one further output
front_on : (version : ℕ) (given : List SessionBytes) (item : SessionBytes) → front_text version given ++ spelled version item ≡ front_text version (given ++ item ∷ [])
front_on version given item =
    let all : flat_map (spelled version) given ++ spelled version item ≡ flat_map (spelled version) (given ++ item ∷ []) =
    ap (λ (l : List ℕ). flat_map (spelled version) given ++ l) (sym (append-nil (spelled version item))) ∙ sym (flat_map-append (spelled version) given (item ∷ [])) in
    append_assoc (replies_magic version) (flat_map (spelled version) given) (spelled version item) ∙ ap (λ (l : List ℕ). replies_magic version ++ l) all

connections_on : (before : ℕ) (given : List SessionBytes) (item : SessionBytes) → connections_after before (given ++ item ∷ []) ≡ item.conn + 1
connections_on before [] item = refl
connections_on before (first ∷ given) item = connections_on (first.conn + 1) given item

sessions_on : (before : ℕ) (given : List SessionBytes) (item : SessionBytes) → sessions_after before (given ++ item ∷ []) ≡ item.session + 1
sessions_on before [] item = refl
sessions_on before (first ∷ given) item = sessions_on (first.session + 1) given item

order_on : (version connections sessions : ℕ) (given : List SessionBytes) (item : SessionBytes) → AreBySession version connections sessions given
    → IsNextSession version (connections_after connections given) (sessions_after sessions given) item.conn item.session → AreNumbers item.conn item.session
    → AreBySession version connections sessions (given ++ item ∷ [])
order_on version connections sessions [] item ordered next numbers = (next, numbers, tt)
order_on version connections sessions (first ∷ given) item ordered next numbers =
    (ordered.0, ordered.1, order_on version (first.conn + 1) (first.session + 1) given item ordered.2 next numbers)

-- after the record of a session that was expected
kept_on : (s : RepliesState) (given : List SessionBytes) (item : SessionBytes) → AreSoFar s given → IsDue s item.conn item.session → IsAmong s.version (item.conn + 1) (item.session + 1) (given ++ item ∷ [])
kept_on s given item keeps due =
    let next : IsNextSession s.version (connections_after 0 given) (sessions_after 0 given) item.conn item.session =
    subst (λ (n : ℕ). IsNextSession s.version (connections_after 0 given) n item.conn item.session) keeps.sessions_are (subst (λ (n : ℕ). IsNextSession s.version n s.sessions item.conn item.session) keeps.connections_are due.0) in
    record {
      known = keeps.known;
      ordered = order_on s.version 0 0 given item keeps.ordered next due.1;
      connections_are = sym (connections_on 0 given item);
      sessions_are = sym (sessions_on 0 given item);
    }

-- ---- fields

-- numbers
pub four_is : (field : List ℕ) → AreBytes field → length field ≡ 4 → to_be_bytes w32 (from_be_bytes w32 field) ≡ field
four_is field all size = be_bytes_4 field (from_be_bytes w32 field) size (byte_at field all) refl

pub eight_is : (field : List ℕ) → AreBytes field → length field ≡ 8 → to_be_bytes w64 (from_be_bytes w64 field) ≡ field
eight_is field all size = be_bytes_8 field (from_be_bytes w64 field) size (byte_at field all) refl

-- the bytes of the magic up to a step
magic_leads : (s : RepliesState) (given : List SessionBytes) (text : List ℕ) (at : ℕ) (step : MagicStep) → IsFirst s given → LeadsTo letters (length text) text step → Leads text given (after_magic s at step)
magic_leads s given text at (Steps.Next part) first on =
    record { bytes = on.2; valid = (record { none = first.none; no_version = first.no_version; no_connection = first.no_connection; no_session = first.no_session }, on.0, on.1) }
magic_leads s given text at (Steps.Whole version) first on =
    subst (λ (l : List SessionBytes). IsReadTo Tag (record s { due = Tag; version = version }) text l) (sym first.none) (record {
      bytes = on.1 ∙ sym (append-nil (replies_magic version));
      valid = record { known = on.0; ordered = tt; connections_are = first.no_connection; sessions_are = first.no_session };
    })
magic_leads s given text at Steps.Wrong first on = tt

from_magic : (part : MagicPart) (s : RepliesState) (text : List ℕ) (byte : ℕ) (given : List SessionBytes) → IsReadTo (Magic part) s text given → Leads (text ++ byte ∷ []) given (after_magic s (length text) (magic_step part letters (length text) byte))
from_magic part s text byte given read =
    let step : MagicStep = magic_step part letters (length text) byte in
    let count : length text + 1 ≡ length (text ++ byte ∷ []) = sym (length-append text (byte ∷ [])) in
    magic_leads s given (text ++ byte ∷ []) (length text) step read.valid.0
    (subst (λ (n : ℕ). LeadsTo letters n (text ++ byte ∷ []) step) count
    (subst (λ (l : List ℕ). LeadsTo letters (length text + 1) (l ++ byte ∷ []) step) (sym read.bytes) (leads part letters (length text) byte refl read.valid.1 read.valid.2)))

from_tag : (s : RepliesState) (text : List ℕ) (byte : ℕ) (given : List SessionBytes) → IsReadTo Tag s text given → Leads (text ++ byte ∷ []) given (tag s (length text) byte)
from_tag s text byte given read =
    let becomes : (due : ℕ) → byte ≡ due → text ++ byte ∷ [] ≡ front_text s.version given ++ due ∷ [] = λ due is. ap (λ (l : List ℕ). l ++ byte ∷ []) read.bytes ∙ ap (λ (b : ℕ). front_text s.version given ++ b ∷ []) is in
    chosen (Leads (text ++ byte ∷ []) given) (byte == 82) _ _
    (λ is. record { bytes = becomes 82 (eqb-true byte 82 is); valid = read.valid })
    (λ no. chosen (Leads (text ++ byte ∷ []) given) (byte == 69) _ _
    (λ is. record { bytes = becomes 69 (eqb-true byte 69 is); valid = read.valid })
    (λ neither. tt))

from_connection : (s : RepliesState) (text field : List ℕ) (given : List SessionBytes) → AreBytes field → length field ≡ 4 → IsReadTo Connection s text given → Leads (text ++ field) given (connection s (length text) (from_be_bytes w32 field))
from_connection s text field given all size read =
    let n : ℕ = from_be_bytes w32 field in
    let on : text ++ field ≡ front_text s.version given ++ 82 ∷ to_be_bytes w32 n =
    ap (λ (l : List ℕ). l ++ field) read.bytes ∙ append_assoc (front_text s.version given) (82 ∷ []) field ∙ ap (λ (l : List ℕ). front_text s.version given ++ 82 ∷ l) (sym (four_is field all size)) in
    chosen (Leads (text ++ field) given) (may_come s n) _ _
    (λ may.
    let comes : MayCome s n = may_come_true n s.connections s.version may in
    chosen (Leads (text ++ field) given) (s.version == 2) _ _
    (λ two. record { bytes = on; valid = (read.valid, comes, eqb-true s.version 2 two) })
    (λ one. record {
      bytes = on ∙ ap (λ (l : List ℕ). front_text s.version given ++ 82 ∷ l) (sym (append-nil (to_be_bytes w32 n)) ∙ ap (λ (l : List ℕ). to_be_bytes w32 n ++ l) (sym (no_session_text s.version 0 one)));
      valid = (read.valid, (first_due s.version s.connections s.sessions n one comes.1, (comes.0, omega arith)));
    }))
    (λ wrong. tt)

from_session : (conn : ℕ) (s : RepliesState) (text field : List ℕ) (given : List SessionBytes) → AreBytes field → length field ≡ 4 → IsReadTo (Session conn) s text given → Leads (text ++ field) given (session conn s (length text) (from_be_bytes w32 field))
from_session conn s text field given all size read =
    let n : ℕ = from_be_bytes w32 field in
    let c : List ℕ = to_be_bytes w32 conn in
    let on : text ++ field ≡ front_text s.version given ++ 82 ∷ (c ++ session_text s.version n) =
    ap (λ (l : List ℕ). l ++ field) read.bytes ∙ append_assoc (front_text s.version given) (82 ∷ c) field
    ∙ ap (λ (l : List ℕ). front_text s.version given ++ 82 ∷ (c ++ l)) (sym (four_is field all size) ∙ sym (some_session_text s.version n read.valid.2)) in
    chosen (Leads (text ++ field) given) (n == due_session s conn && nat_lt n (2 ^ 31)) _ _
    (λ is.
    let lawful = due_true n (due_session s conn) is in
    record { bytes = on; valid = (read.valid.0, (session_due s.version s.connections s.sessions conn n read.valid.1.1 lawful.0, (read.valid.1.0, lawful.1))) })
    (λ wrong. tt)

from_length : (conn number : ℕ) (s : RepliesState) (text field : List ℕ) (given : List SessionBytes) → AreBytes field → length field ≡ 8 → IsReadTo (Length conn number) s text given → Leads (text ++ field) given (size_read conn number s (from_be_bytes w64 field))
from_length conn number s text field given all size read =
    let n : ℕ = from_be_bytes w64 field in
    let c : List ℕ = to_be_bytes w32 conn in
    let m : List ℕ = session_text s.version number in
    let on : (count : ℕ) → n ≡ count → text ++ field ≡ front_text s.version given ++ 82 ∷ (c ++ (m ++ to_be_bytes w64 count)) = λ count is.
    ap (λ (l : List ℕ). l ++ field) read.bytes ∙ append_assoc (front_text s.version given) (82 ∷ (c ++ m)) field
    ∙ ap (λ (l : List ℕ). front_text s.version given ++ 82 ∷ l) (append_assoc c m field)
    ∙ ap (λ (l : List ℕ). front_text s.version given ++ 82 ∷ (c ++ (m ++ l))) (sym (eight_is field all size) ∙ ap (λ (k : ℕ). to_be_bytes w64 k) is) in
    chosen (Leads (text ++ field) given) (n == 0) _ _
    (λ empty.
    let item : SessionBytes = record { conn = conn; session = number; bytes = [] } in
    record {
      bytes = on 0 (eqb-true n 0 empty) ∙ ap (λ (l : List ℕ). front_text s.version given ++ 82 ∷ (c ++ (m ++ l))) (sym (append-nil (to_be_bytes w64 0))) ∙ front_on s.version given item;
      valid = kept_on s given item read.valid.0 read.valid.1;
    })
    (λ some. let count : n ≡ n - 1 + 1 = (let more = positive n some in omega (arith, more)) in record { bytes = on (n - 1 + 1) count; valid = read.valid })

from_output : (conn number others : ℕ) (s : RepliesState) (text field : List ℕ) (given : List SessionBytes) → length field ≡ others + 1 → IsReadTo (Output conn number others) s text given
    → IsReadTo Tag (record s { due = Tag; connections = conn + 1; sessions = number + 1 }) (text ++ field) (given ++ record { conn = conn; session = number; bytes = field } ∷ [])
from_output conn number others s text field given size read =
    let c : List ℕ = to_be_bytes w32 conn in
    let m : List ℕ = session_text s.version number in
    let item : SessionBytes = record { conn = conn; session = number; bytes = field } in
    record {
      bytes = ap (λ (l : List ℕ). l ++ field) read.bytes ∙ append_assoc (front_text s.version given) (82 ∷ (c ++ (m ++ to_be_bytes w64 (others + 1)))) field
          ∙ ap (λ (l : List ℕ). front_text s.version given ++ 82 ∷ l) (assoc_twice c m (to_be_bytes w64 (others + 1)) field)
          ∙ ap (λ (k : ℕ). front_text s.version given ++ 82 ∷ (c ++ (m ++ (to_be_bytes w64 k ++ field)))) (sym size)
          ∙ front_on s.version given item;
      valid = kept_on s given item read.valid.0 read.valid.1;
    }

from_field : (due : RepliesDue) (s : RepliesState) (text field : List ℕ) (given : List SessionBytes) → AreBytes field → length field ≡ width_of (shape due) → IsReadTo due s text given → Leads (text ++ field) given (judged due s (length text) field)
from_field (Magic part) s text field given all size read =
    subst (λ (l : List ℕ). Leads (text ++ l) given (judged (Magic part) s (length text) field)) (sym (one_byte field size)) (from_magic part s text (get_or field 0 0) given read)
from_field Tag s text field given all size read =
    subst (λ (l : List ℕ). Leads (text ++ l) given (judged Tag s (length text) field)) (sym (one_byte field size)) (from_tag s text (get_or field 0 0) given read)
from_field Connection s text field given all size read = from_connection s text field given all size read
from_field (Session conn) s text field given all size read = from_session conn s text field given all size read
from_field (Length conn number) s text field given all size read = from_length conn number s text field given all size read
from_field (Output conn number others) s text field given all size read = from_output conn number others s text field given size read
from_field Nothing s text field given all size read = tt

-- each whole field leads on from the bytes before it
fields_keep : Keeps replies_fields AreBytes LeadTo
fields_keep s text field given all read size = from_field s.due s text field given all size read

-- ---- a whole text

begun : LeadTo start [] []
begun = record { bytes = refl; valid = (record { none = refl; no_version = refl; no_connection = refl; no_session = refl }, omega arith, tt) }

-- the bytes of whole fields lead to their state
pub reached : (text : List ℕ) (s : RepliesState) (given : List SessionBytes) (rest : List ℕ) (begins : Begins replies_fields text s given rest) → AreBytes text → LeadTo s (concat begins.parts) given
reached text s given rest begins all =
    runs_keep replies_fields AreBytes LeadTo fields_keep begins.parts start s [] 0 [] given refl
    (byte_parts begins.parts (bytes_front (concat begins.parts) rest (subst AreBytes begins.text_is all))) begun begins.runs

pub end_due : (due : RepliesDue) → is_last due ≡ true → due ≡ Nothing
end_due Nothing is = refl
end_due due is = cc

-- whole fields that lead to the end spell a replies file
pub whole_spells : (text : List ℕ) (s : RepliesState) (given : List SessionBytes) → AreBytes text → IsWhole replies_fields text s given → SpellsReplies text s.version given
unfolding spelling
whole_spells text s given all whole =
    let read : IsReadTo Nothing s (concat whole.begins.parts) given = subst (λ (d : RepliesDue). IsReadTo d s (concat whole.begins.parts) given) (end_due s.due whole.end_is) (reached text s given [] whole.begins all) in
    let text_is : text ≡ concat whole.begins.parts = whole.begins.text_is ∙ append-nil (concat whole.begins.parts) in
    record {
      valid = record { known = read.valid.known; ordered = read.valid.ordered };
      spelled = text_is ∙ read.bytes ∙ append_assoc (replies_magic s.version) (flat_map (spelled s.version) given) (69 ∷ []);
      short = rw text_is (whole.begins.short);
    }

spells_of : (text : List ℕ) (found : Verdict) (version : ℕ) (items : List SessionBytes) → AreBytes text → IsOutcome replies_fields good Bad text found → found ≡ Good version items → SpellsReplies text version items
spells_of text found version items all (inl whole) is =
    let s : RepliesState = whole.0 in
    let given : List SessionBytes = whole.1.0 in
    let found_is : found ≡ Good s.version given = whole.1.2 in
    let version_is : s.version ≡ version = cc in
    let items_is : given ≡ items = cc in
    subst (λ (l : List SessionBytes). SpellsReplies text version l) items_is (subst (λ (v : ℕ). SpellsReplies text v given) version_is (whole_spells text s given all whole.1.1))
spells_of text found version items all (inr (inl cut)) is = let bad = cut.1 in cc
spells_of text found version items all (inr (inr fault)) is = let bad = fault.1.2 in cc

-- a good text is a spelling
pub good_spells : (text : List ℕ) (version : ℕ) (items : List SessionBytes) → AreBytes text → verdict text ≡ Good version items → SpellsReplies text version items
good_spells text version items all is = spells_of text (verdict text) version items all (outcome replies_fields lawful good Bad text) is
