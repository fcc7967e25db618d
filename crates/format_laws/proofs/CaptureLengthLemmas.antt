-- How many bytes a replies file has, and how many bytes and sessions the streams of a capture have.
use Rattle.std.proofs.Common.{◌≡◌, ℕ, ◌+◌, ◌*◌, ◌<◌, ◌≤◌, Bool, true, false, List, [], ◌∷◌, ◌++◌, length}
use Rattle.std.proofs.Common.{length-append, ap, ◌∙◌, sym, arith}
use Rattle.std.specs.Prelude.{flat_map, ◌==◌, if◌then◌else◌}
use Rattle.std.specs.List.{AllByRecursion, sum_by}
use Rattle.std.specs.Int.{to_be_bytes, w32, w64}
use Rattle.std.proofs.lemmas.List.{length-set, length-replicate}
use Rattle.std.proofs.lemmas.List.Sums.{sum_by-cons, sum_by_push, sum_by-set}
use Rattle.std.proofs.lemmas.List.Folds.{sum_by-replicate}
use Rattle.zy_capture.specs.declared.record.Record.{Record}
use Rattle.zy_capture.specs.declared.record.Record.TheVariants as Kinds
use Rattle.zy_capture.specs.Outputs.{AllOutputs}
use Rattle.zy_capture.specs.Replies.{replies_magic, session_text, output_text, numbered_from, connection_text}
use Rattle.zy_capture.specs.Replies.{replies_bytes}
use Rattle.zy_capture.specs.Capture as Captures
use Rattle.zy_capture.specs.Streams.{sessions_of, no_bytes, last_grown, with_record, with_records}

-- ---- replies files

-- texts that are numbered have no more bytes together than each has
numbered_few : {X : Type 0} (text : ℕ → X → List ℕ) (most : X → ℕ) → ((number : ℕ) (x : X) → length (text number x) ≤ most x) → (number : ℕ) (xs : List X) → length (numbered_from text number xs) ≤ sum_by most xs
numbered_few text most each number [] = omega arith
numbered_few text most each number (x ∷ xs) =
    let one = length-append (text number x) (numbered_from text (number + 1) xs) in
    let sum = sum_by-cons most x xs in
    omega (arith, one, sum, each number x, numbered_few text most each (number + 1) xs)

-- the bytes of a record: at most 17, and those of the output
abbrev pub record_most : List ℕ → ℕ
record_most bytes = 17 + length bytes

session_few : (b : Bool) (session : ℕ) → length (if b then to_be_bytes w32 session else []) ≤ 4
session_few true session = omega arith
session_few false session = omega arith

output_few : (version conn session : ℕ) (bytes : List ℕ) → length (output_text version conn session bytes) ≤ record_most bytes
output_few version conn session bytes =
    let one = length-append (to_be_bytes w32 conn) (session_text version session ++ (to_be_bytes w64 (length bytes) ++ bytes)) in
    let two = length-append (session_text version session) (to_be_bytes w64 (length bytes) ++ bytes) in
    let three = length-append (to_be_bytes w64 (length bytes)) bytes in
    let four : length (session_text version session) ≤ 4 = session_few (version == 2) session in
    omega (arith, one, two, three, four)

pub replies_few : (outputs : AllOutputs) → length (replies_bytes outputs) ≤ 9 + sum_by (λ sessions. sum_by record_most sessions) outputs.sessions
unfolding replies_bytes
replies_few outputs =
    let records = numbered_from (connection_text outputs.version) 0 outputs.sessions in
    let all : length records ≤ sum_by (λ sessions. sum_by record_most sessions) outputs.sessions =
    numbered_few (connection_text outputs.version) (λ sessions. sum_by record_most sessions) (λ conn sessions. numbered_few (output_text outputs.version conn) record_most (output_few outputs.version conn) 0 sessions) 0 outputs.sessions in
    let whole = length-append (replies_magic outputs.version) (records ++ 69 ∷ []) in
    let end = length-append records (69 ∷ []) in
    let front : length (replies_magic outputs.version) ≤ 8 = omega arith in
    omega (arith, all, whole, end, front)

-- ---- streams

grown_bytes : (sessions : List (List ℕ)) (bytes : List ℕ) → sum_by length (last_grown sessions bytes) ≤ sum_by length sessions + length bytes
grown_bytes [] bytes = omega arith
grown_bytes (session ∷ []) bytes = let size = length-append session bytes in omega (arith, size)
grown_bytes (session ∷ next ∷ sessions) bytes =
    let one = sum_by-cons length session (last_grown (next ∷ sessions) bytes) in
    let other = sum_by-cons length session (next ∷ sessions) in
    omega (arith, one, other, grown_bytes (next ∷ sessions) bytes)

grown_count : (sessions : List (List ℕ)) (bytes : List ℕ) → length (last_grown sessions bytes) ≤ length sessions + length bytes
grown_count [] bytes = omega arith
grown_count (session ∷ []) bytes = omega arith
grown_count (session ∷ next ∷ sessions) bytes = omega (arith, grown_count (next ∷ sessions) bytes)

length-last_record : (connections : List (List (List ℕ))) (item : Record) → length (with_record connections item) ≡ length connections
length-last_record connections (Kinds.Segment s) = length-set connections s.conn (last_grown (sessions_of connections s.conn) s.bytes)
length-last_record connections (Kinds.Close conn) = length-set connections conn (sessions_of connections conn ++ [] ∷ [])

-- what counts in a connection grows by at most the bytes of each record
module _ (weight : List (List ℕ) → ℕ) (grows : (sessions : List (List ℕ)) (bytes : List ℕ) → weight (last_grown sessions bytes) ≤ weight sessions + length bytes)
    (closes : (sessions : List (List ℕ)) → weight (sessions ++ [] ∷ []) ≤ weight sessions + 1) where
  one_record : (version count : ℕ) (connections : List (List (List ℕ))) (item : Record) → count ≡ length connections → Captures.IsRecordOf version count item → sum_by weight (with_record connections item) ≤ sum_by weight connections + length (Captures.spelled item)
  one_record version count connections (Kinds.Segment s) all is =
      let after = last_grown (sessions_of connections s.conn) s.bytes in
      let within : s.conn < length connections = (let less = is.0 in omega (arith, less, all)) in
      let sum = sum_by-set weight connections s.conn after [] within in
      let more = grows (sessions_of connections s.conn) s.bytes in
      let text = length-append (to_be_bytes w32 s.conn) (to_be_bytes w32 (length s.bytes) ++ s.bytes) in
      let rest = length-append (to_be_bytes w32 (length s.bytes)) s.bytes in
      omega (arith, sum, more, text, rest)
  one_record version count connections (Kinds.Close conn) all is =
      let within : conn < length connections = (let less = is.1 in omega (arith, less, all)) in
      let sum = sum_by-set weight connections conn (sessions_of connections conn ++ [] ∷ []) [] within in
      let more = closes (sessions_of connections conn) in
      omega (arith, sum, more)

  all_records : (version count : ℕ) (connections : List (List (List ℕ))) (items : List Record) → count ≡ length connections → AllByRecursion (Captures.IsRecordOf version count) items
      → sum_by weight (with_records connections items) ≤ sum_by weight connections + length (flat_map Captures.spelled items)
  all_records version count connections [] all lawful = omega arith
  all_records version count connections (item ∷ items) all lawful =
      let one = one_record version count connections item all lawful.0 in
      let rest = all_records version count (with_record connections item) items (all ∙ sym (length-last_record connections item)) lawful.1 in
      let text = length-append (Captures.spelled item) (flat_map Captures.spelled items) in
      omega (arith, one, rest, text)

-- the records have fewer bytes than the capture
records_few : (text : List ℕ) (version count : ℕ) (items : List Record) → Captures.Spells text version count items → length (flat_map Captures.spelled items) ≤ length text
unfolding Captures.spelling
records_few text version count items spells =
    let records = flat_map Captures.spelled items in
    let front = Captures.capture_magic version in
    let whole = length-append front (to_be_bytes w32 count ++ (records ++ 69 ∷ [])) in
    let body = length-append (to_be_bytes w32 count) (records ++ 69 ∷ []) in
    let end = length-append records (69 ∷ []) in
    let size = ap length spells.spelled in
    omega (arith, whole, body, end, size)

-- all streams together have no more bytes than the capture
pub streams_few : (text : List ℕ) (version count : ℕ) (items : List Record) → Captures.Spells text version count items → sum_by (λ sessions. sum_by length sessions) (with_records (no_bytes count) items) ≤ length text
streams_few text version count items spells =
    let all = all_records (λ sessions. sum_by length sessions) grown_bytes (λ sessions. omega (arith, sum_by_push length sessions [])) version count (no_bytes count) items (sym (length-replicate count ([] ∷ []))) spells.valid.lawful in
    let none : sum_by (λ sessions. sum_by length sessions) (no_bytes count) ≡ count * 0 = sum_by-replicate (λ (sessions : List (List ℕ)). sum_by (length {A = ℕ}) sessions) count ([] ∷ []) in
    omega (arith, all, none, records_few text version count items spells)

-- and no more sessions than connections and bytes
pub sessions_few : (text : List ℕ) (version count : ℕ) (items : List Record) → Captures.Spells text version count items → sum_by length (with_records (no_bytes count) items) ≤ count + length text
sessions_few text version count items spells =
    let all = all_records length grown_count (λ sessions. omega (arith, length-append sessions ([] ∷ []))) version count (no_bytes count) items (sym (length-replicate count ([] ∷ []))) spells.valid.lawful in
    let one : sum_by length (no_bytes count) ≡ count * 1 = sum_by-replicate (length {A = List ℕ}) count ([] ∷ []) in
    omega (arith, all, one, records_few text version count items spells)
