-- A field of a replies file that is wrong is a wrong byte or number of specs/RepliesFaults.antt.
use Rattle.std.proofs.Common.{◌≡◌, ◌⊎◌, inl, inr, ℕ, ◌+◌, ◌<◌, ◌≤◌, ◌^◌, true, false, List, [], ◌∷◌, ◌++◌, length}
use Rattle.std.proofs.Common.{get_or, refl, sym, ◌∙◌, ap, subst, arith, append_assoc, length-append}
use Rattle.std.specs.Prelude.{◌==◌, ◌&&◌, ◌||◌, nat_lt, if◌then◌else◌, flat_map, ⊤}
use Rattle.std.specs.List.{concat}
use Rattle.std.specs.Int.{to_be_bytes, from_be_bytes, w32, w64}
use Rattle.std.proofs.lemmas.Bool.Decides.{nat_tests}
use Rattle.zy_base.specs.declared.file_fault.FileFault.{FileFault}
use Rattle.zy_read.specs.declared.magic.MagicStep.{MagicStep}
use Rattle.zy_read.specs.declared.magic.MagicStep.TheVariants as Steps
use Rattle.zy_read.specs.Magic.{magic_step}
use Rattle.format_laws.specs.BadMagic.{IsBadMagic}
use Rattle.zy_read.specs.Bytes.{AreBytes}
use Rattle.zy_read.specs.Fields.{Judged}
use Rattle.zy_read.specs.Fields.Judged.{Wrong}
use Rattle.zy_read.specs.FieldReading.{width_of}
use Rattle.zy_read.specs.Runs.{IsMisjudged}
use Rattle.zy_read.proofs.MagicFieldLemmas.{one_byte}
use Rattle.format_laws.proofs.MagicLemmas.{bad_magic}
use Rattle.zy_read.proofs.ByteLemmas.{byte_at, bytes_front, bytes_back}
use Rattle.zy_capture.specs.declared.session_bytes.SessionBytes.{SessionBytes}
use Rattle.zy_capture.specs.declared.replies_due.RepliesDue.{RepliesDue}
use Rattle.zy_capture.specs.declared.replies_due.RepliesDue.TheVariants.{Magic, Tag, Connection, Session, Length}
use Rattle.zy_capture.specs.declared.replies_due.RepliesDue.TheVariants.{Output, Nothing}
use Rattle.zy_capture.specs.declared.replies_state.RepliesState.{RepliesState}
use Rattle.zy_capture.specs.Capture.{connection_limit}
use Rattle.zy_capture.specs.Replies.{letters, replies_magic, spelled, spelling, IsNextSession, IsRepliesFile}
use Rattle.zy_capture.specs.Replies.{replies_limit, front_text, connections_after, sessions_after}
use Rattle.format_laws.specs.Faults.{IsWrongForm}
use Rattle.format_laws.specs.RepliesFaults.{IsWrongReplies}
use Rattle.zy_capture.specs.RepliesSteps.{shape, after_magic, tag, may_come, due_session, connection, session, judged}
use Rattle.zy_capture.specs.RepliesSteps.{is_last, replies_fields}
use Rattle.zy_capture.proofs.ByteLemmas.{chosen}
use Rattle.zy_capture.proofs.RepliesWholeLemmas.{IsReadTo, AreSoFar, four_is, reached}

-- ---- tests

-- a connection that is not taken is not lawful
no_connection : (conn connections version : ℕ) → (nat_lt conn connection_limit && (conn == connections || (version == 2 && conn + 1 == connections))) ≡ false
    → (conn < connection_limit) × ((conn ≡ connections) ⊎ ((version ≡ 2) × (conn + 1 ≡ connections))) → ⊥
no_connection conn connections version is lawful = grind (arith, nat_tests)

-- nor is a session that is not
no_session : (version connections sessions conn number : ℕ) → (number == (if conn == connections then 0 else sessions) && nat_lt number (2 ^ 31)) ≡ false
    → IsNextSession version connections sessions conn number × (number < 2 ^ 31) → ⊥
no_session version connections sessions conn number is lawful = grind (arith, nat_tests)

four_fits : (field : List ℕ) → AreBytes field → length field ≡ 4 → from_be_bytes w32 field < 2 ^ 32
four_fits field all size =
    let each = byte_at field all in
    omega (arith, each 0, each 1, each 2, each 3)

-- ---- a field that is wrong

-- a field that is wrong means that the text is
abbrev Faults : List ℕ → Judged RepliesState SessionBytes FileFault → Type 0
Faults text (Wrong fault) = IsWrongForm IsWrongReplies text fault
Faults text judged = ⊤

-- a byte of the magic
from_magic : (s : RepliesState) (text : List ℕ) (at : ℕ) (step : MagicStep) → (step ≡ Steps.Wrong → IsBadMagic letters text at) → Faults text (after_magic s at step)
from_magic s text at (Steps.Next part) bad = tt
from_magic s text at (Steps.Whole version) bad = tt
from_magic s text at Steps.Wrong bad = inl (bad refl)

-- the records so far are those of a replies file
file_of : (s : RepliesState) (given : List SessionBytes) → AreSoFar s given → IsRepliesFile s.version given
file_of s given keeps = record { known = keeps.known; ordered = keeps.ordered }

from_tag : (s : RepliesState) (text front rest : List ℕ) (given : List SessionBytes) (byte : ℕ) → text ≡ front ++ byte ∷ rest → length front + 1 ≤ replies_limit → IsReadTo Tag s front given → Faults text (tag s (length front) byte)
from_tag s text front rest given byte whole room read =
    chosen (Faults text) (byte == 82) _ _ (λ one. tt)
    (λ not_record. chosen (Faults text) (byte == 69) _ _ (λ two. tt)
    (λ not_end. inr (inl (record {
      version = s.version;
      items = given;
      byte = byte;
      rest = rest;
      front = record { valid = file_of s given read.valid; whole = whole ∙ ap (λ (l : List ℕ). l ++ byte ∷ rest) read.bytes; place = ap (λ (l : List ℕ). length l) read.bytes };
      no_record = λ e. grind (arith, nat_tests);
      no_end = λ e. grind (arith, nat_tests);
      within = omega (arith, room);
    }))))

-- the text after the records, up to a number that is wrong
number_text : (text before front field rest middle : List ℕ) → text ≡ front ++ (field ++ rest) → front ≡ before ++ 82 ∷ middle → AreBytes field → length field ≡ 4 → text ≡ before ++ 82 ∷ (middle ++ (to_be_bytes w32 (from_be_bytes w32 field) ++ rest))
number_text text before front field rest middle whole is all size =
    whole ∙ ap (λ (l : List ℕ). l ++ (field ++ rest)) is ∙ append_assoc before (82 ∷ middle) (field ++ rest)
    ∙ ap (λ (l : List ℕ). before ++ 82 ∷ l) (ap (λ (l : List ℕ). middle ++ (l ++ rest)) (sym (four_is field all size)))

from_connection : (s : RepliesState) (text front field rest : List ℕ) (given : List SessionBytes) → text ≡ front ++ (field ++ rest) → AreBytes field → length field ≡ 4 → length front + length field ≤ replies_limit → IsReadTo Connection s front given → Faults text (connection s (length front) (from_be_bytes w32 field))
from_connection s text front field rest given whole all size room read =
    let n : ℕ = from_be_bytes w32 field in
    let place : length front ≡ length (front_text s.version given) + 1 = ap (λ (l : List ℕ). length l) read.bytes ∙ length-append (front_text s.version given) (82 ∷ []) in
    chosen (Faults text) (may_come s n) _ _
    (λ may. chosen (Faults text) (s.version == 2) _ _ (λ two. tt) (λ one. tt))
    (λ wrong. inr (inr (inl (record {
      version = s.version;
      items = given;
      tag_at = length (front_text s.version given);
      number = n;
      rest = rest;
      front = record { valid = file_of s given read.valid; whole = number_text text (front_text s.version given) front field rest [] whole read.bytes all size; place = refl };
      place = place;
      wrong = λ lawful. no_connection n (connections_after 0 given) s.version (ap (λ (k : ℕ). nat_lt n connection_limit && (n == k || (s.version == 2 && n + 1 == k))) (sym read.valid.connections_are) ∙ wrong) lawful;
      fits = four_fits field all size;
      within = omega (arith, size, room);
    }))))

from_session : (conn : ℕ) (s : RepliesState) (text front field rest : List ℕ) (given : List SessionBytes) → text ≡ front ++ (field ++ rest) → AreBytes field → length field ≡ 4 → length front + length field ≤ replies_limit → IsReadTo (Session conn) s front given → Faults text (session conn s (length front) (from_be_bytes w32 field))
from_session conn s text front field rest given whole all size room read =
    let n : ℕ = from_be_bytes w32 field in
    let keeps : AreSoFar s given = read.valid.0 in
    let place : length front ≡ length (front_text s.version given) + 5 = ap (λ (l : List ℕ). length l) read.bytes ∙ length-append (front_text s.version given) (82 ∷ to_be_bytes w32 conn) in
    chosen (Faults text) (n == due_session s conn && nat_lt n (2 ^ 31)) _ _ (λ right. tt)
    (λ wrong. inr (inr (inr (inl (record {
      version = s.version;
      second = read.valid.2;
      items = given;
      tag_at = length (front_text s.version given);
      conn = conn;
      number = n;
      rest = rest;
      front = record { valid = file_of s given keeps; whole = number_text text (front_text s.version given) front field rest (to_be_bytes w32 conn) whole read.bytes all size; place = refl };
      place = place;
      lawful = subst (λ (k : ℕ). (conn < connection_limit) × ((conn ≡ k) ⊎ ((s.version ≡ 2) × (conn + 1 ≡ k)))) keeps.connections_are read.valid.1;
      wrong = λ lawful. no_session s.version s.connections s.sessions conn n wrong
          (subst (λ (k : ℕ). IsNextSession s.version s.connections k conn n) (sym keeps.sessions_are) (subst (λ (k : ℕ). IsNextSession s.version k (sessions_after 0 given) conn n) (sym keeps.connections_are) lawful.0), lawful.1);
      fits = four_fits field all size;
      within = omega (arith, size, room);
    })))))

from_end : (s : RepliesState) (text front rest : List ℕ) (given : List SessionBytes) (byte : ℕ) → text ≡ front ++ byte ∷ rest → length front ≤ replies_limit → IsReadTo Nothing s front given → IsWrongReplies text (length front)
unfolding spelling
from_end s text front rest given byte whole short read =
    let spelled_is : front ≡ spelling s.version given = read.bytes ∙ append_assoc (replies_magic s.version) (flat_map (spelled s.version) given) (69 ∷ []) in
    inr (inr (inr (inr (record {
      version = s.version;
      items = given;
      byte = byte;
      rest = rest;
      valid = file_of s given read.valid;
      whole = whole ∙ ap (λ (l : List ℕ). l ++ byte ∷ rest) spelled_is;
      place = ap (λ (l : List ℕ). length l) spelled_is;
      within = short;
    }))))

-- a field before the end is within the limit
few : (due : RepliesDue) (count : ℕ) → is_last due ≡ false → (is_last due ≡ true) ⊎ (count ≤ replies_limit) → count ≤ replies_limit
few due count before (inl end_is) = cc
few due count before (inr short) = short

from_field : (due : RepliesDue) (s : RepliesState) (text front field rest : List ℕ) (given : List SessionBytes) → text ≡ front ++ (field ++ rest) → AreBytes field → length field ≡ width_of (shape due) → length front ≤ replies_limit → (is_last due ≡ true) ⊎ (length front + length field ≤ replies_limit) → IsReadTo due s front given
    → Faults text (judged due s (length front) field)
from_field (Magic part) s text front field rest given whole all size short room read =
    from_magic s text (length front) (magic_step part letters (length front) (get_or field 0 0))
    (bad_magic part letters text front rest (get_or field 0 0) refl (whole ∙ ap (λ (l : List ℕ). front ++ (l ++ rest)) (one_byte field size)) read.bytes read.valid.1 read.valid.2)
from_field Tag s text front field rest given whole all size short room read =
    from_tag s text front rest given (get_or field 0 0) (whole ∙ ap (λ (l : List ℕ). front ++ (l ++ rest)) (one_byte field size)) (let fits = few Tag (length front + length field) refl room in omega (arith, size, fits)) read
from_field Connection s text front field rest given whole all size short room read = from_connection s text front field rest given whole all size (few Connection (length front + length field) refl room) read
from_field (Session conn) s text front field rest given whole all size short room read = from_session conn s text front field rest given whole all size (few (Session conn) (length front + length field) refl room) read
from_field (Length conn number) s text front field rest given whole all size short room read =
    chosen (Faults text) (from_be_bytes w64 field == 0) _ _ (λ empty. tt) (λ some. tt)
from_field (Output conn number others) s text front field rest given whole all size short room read = tt
from_field Nothing s text front field rest given whole all size short room read =
    from_end s text front rest given (get_or field 0 0) (whole ∙ ap (λ (l : List ℕ). front ++ (l ++ rest)) (one_byte field size)) short read

-- a text with a field that is wrong
pub misjudged_wrong : (text : List ℕ) (s : RepliesState) (fault : FileFault) → AreBytes text → IsMisjudged replies_fields text s fault → IsWrongForm IsWrongReplies text fault
misjudged_wrong text s fault all has =
    let front : List ℕ = concat has.begins.parts in
    let later : AreBytes (has.field ++ has.rest) = bytes_back front (has.field ++ has.rest) (subst AreBytes has.begins.text_is all) in
    subst (Faults text) has.wrong
    (from_field s.due s text front has.field has.rest has.given has.begins.text_is (bytes_front has.field has.rest later) has.size has.begins.short has.room (reached text s has.given (has.field ++ has.rest) has.begins all))
