-- If a file has bytes alone, so do the frames, the payloads of its packets, their streams and their capture.
use Rattle.std.proofs.Common.{◌≡◌, ℕ, zero, suc, ◌+◌, ◌-◌, ◌<◌, ◌≤◌, List, [], ◌∷◌, ◌++◌, length, take, drop, map, flat_map, refl, subst, arith}
use Rattle.std.specs.Prelude.{Option, Some, None, Bool, true, false, nat_lt, nat_le, if◌then◌else◌, ◌==◌, ◌&&◌, slice_range, ⊤}
use Rattle.std.specs.List.{AllByRecursion}
use Rattle.std.specs.Int.{to_be_bytes, w32}
use Rattle.std.proofs.lemmas.Bool.Decides.{nat_tests}
use Rattle.zy_capture.specs.declared.record.Record.{Record}
use Rattle.zy_capture.specs.declared.record.Record.TheVariants as Kinds
use Rattle.zy_capture.specs.Capture.{capture_magic, spelled, spelling, segment_limit}
use Rattle.zy_read.specs.Bytes.{AreBytes}
use Rattle.zy_read.specs.Fields.Judged.{Then, Gives, Wrong}
use Rattle.zy_read.proofs.RunLemmas.{After, byte_parts}
use Rattle.zy_read.proofs.ByteLemmas.{bytes_append, bytes_take, bytes_drop}
use Rattle.zy_pcap.specs.declared.pcap_fault.PcapFault.{PcapFault}
use Rattle.zy_pcap.specs.declared.pcap_state.PcapState.{PcapState}
use Rattle.zy_pcap.specs.declared.due.Due.{Due}
use Rattle.zy_pcap.specs.declared.due.Due.TheVariants as Dues
use Rattle.zy_pcap.specs.declared.judged.Judged.{Judged}
use Rattle.zy_pcap.specs.declared.judged.Judged.TheVariants.{Passed, Refused, Taken}
use Rattle.zy_pcap.specs.Steps.{DueJudged, due_does, major, minor, ordered_number, file_limit, frame_limit}
use Rattle.zy_pcap.specs.Frame.{judge}
use Rattle.zy_pcap.specs.Packet.{Packet, packet_in}
use Rattle.zy_pcap.specs.Session.{Session, session_stream}
use Rattle.zy_pcap.specs.Flow.{Flows, sessions_in, streams_of_flow, streams_of_flows, flows_of}
use Rattle.zy_pcap.specs.Packets.{FileState, FieldJudged, frame_fault, packets_with, record_settled, file_does, packets}
use Rattle.zy_pcap.specs.Packets.FoundPackets.{Packets}
use Rattle.zy_pcap.specs.Made.{segments_of, session_records, connection_records, records_from, capture_of, pcap_capture}
use Rattle.zy_pcap.proofs.CountLemmas.{stream_small}
use Rattle.zy_pcap.proofs.CostLemmas.{packets_cost, sessions_cost, flows_cost, flows_few}
use Rattle.zy_pcap.proofs.LengthLemmas.{flat_append}
use Rattle.zy_pcap.proofs.FitLemmas.{chosen}
use Rattle.zy_pcap.proofs.WholeLemmas.{IsFile, file_of, file_text, file_keeps}

-- ---- lists

range_small : (xs : List ℕ) (from to : ℕ) → AreBytes xs → AreBytes (slice_range xs from to)
range_small xs from to small = bytes_take (to - from) (drop from xs) (bytes_drop from xs small)

-- ---- packets

-- the payload has bytes alone
abbrev IsOfBytes : Packet → Type 0
IsOfBytes packet = AreBytes packet.payload

abbrev AreOfBytes : List Packet → Type 0
AreOfBytes given = AllByRecursion IsOfBytes given

one_more : (given : List Packet) (packet : Packet) → AreOfBytes given → AreBytes packet.payload → AreOfBytes (given ++ packet ∷ [])
one_more [] packet small last = (last, tt)
one_more (x ∷ given) packet small last = (small.0, one_more given packet small.1 last)

-- ---- a field

-- the frame that a field gives has bytes alone
abbrev GivesBytes : DueJudged → Type 0
GivesBytes (Gives next frame) = AreBytes frame
GivesBytes judged = ⊤

does_small : (due : Due) (s : PcapState) (at : ℕ) (field : List ℕ) → AreBytes field → GivesBytes (due_does due s at field)
does_small Dues.Magic s at field small =
    let number : ℕ = ordered_number s.is_big field in
    chosen GivesBytes (number == 0xa1b2c3d4) _ _ (λ is. tt) (λ other. chosen GivesBytes (number == 0xd4c3b2a1) _ _ (λ is. tt) (λ no. tt))
does_small Dues.Version s at field small =
    let number : ℕ = ordered_number s.is_big field in
    chosen GivesBytes (major s.is_big number == 2 && minor s.is_big number == 4) _ _ (λ is. tt) (λ no. tt)
does_small Dues.LinkType s at field small = chosen GivesBytes (ordered_number s.is_big field == 1) _ _ (λ is. tt) (λ no. tt)
does_small Dues.Begin s at field small = chosen GivesBytes (nat_le file_limit at) _ _ (λ full. tt) (λ room. tt)
does_small Dues.Captured s at field small = chosen GivesBytes (nat_lt frame_limit (ordered_number s.is_big field)) _ _ (λ no. tt) (λ is. tt)
does_small (Dues.Original size) s at field small = chosen GivesBytes (size == 0) _ _ (λ none. tt) (λ some. tt)
does_small (Dues.Frame others) s at field small = small
does_small due s at field small = tt

-- ---- a whole file

-- the packets so far have bytes alone
abbrev ReadSmall : FileState → ℕ → Type 0
ReadSmall s n = AreOfBytes s.packets

-- so they have after a whole field
abbrev SmallAfter : List ℕ → List ⊤ → FieldJudged → Type 0
SmallAfter text gave judged = After (λ s l given. ReadSmall s (length l)) text gave judged

with_small : (frame : List ℕ) (given : List Packet) (found : Judged) → AreBytes frame → AreOfBytes given → AreOfBytes (packets_with frame given found)
with_small frame given (Taken segment) small before = one_more given (packet_in frame segment) before (range_small frame segment.begin (segment.begin + segment.size) small)
with_small frame given Passed small before = before
with_small frame given (Refused fault) small before = before

settled_small : (fault : Option PcapFault) (next : FileState) (text : List ℕ) (gave : List ⊤) → AreOfBytes next.packets → SmallAfter text gave (record_settled fault next)
settled_small None next text gave small = small
settled_small (Some fault) next text gave small = tt

judged_small : (port : ℕ) (s : FileState) (judged : DueJudged) (text : List ℕ) (gave : List ⊤) → GivesBytes judged → AreOfBytes s.packets → SmallAfter text gave (file_does port s judged)
judged_small port s (Then next) text gave small before = before
judged_small port s (Wrong fault) text gave small before = tt
judged_small port s (Gives next frame) text gave small before =
    let found : Judged = judge port s.records.begun frame in
    settled_small (frame_fault s.records.begun frame s.packets found) (record { records = next; packets = packets_with frame s.packets found }) text gave (with_small frame s.packets found small before)

packets_small : (port : ℕ) (bytes : List ℕ) (given : List Packet) → AreBytes bytes → packets port bytes ≡ Packets given → AreOfBytes given
packets_small port bytes given small is =
    let file : IsFile port bytes given = file_of port bytes given is in
    subst AreOfBytes file.same (file_keeps port bytes given file AreBytes ReadSmall
    (λ s text field gave bytes before size. judged_small port s (due_does s.records.due s.records (length text) field) (text ++ field) gave (does_small s.records.due s.records (length text) field bytes) before)
    (byte_parts file.whole.begins.parts (subst AreBytes (file_text port bytes given file) small)) tt)

-- ---- the flows

-- how many numbers are no bytes
abbrev others : List ℕ → ℕ
others [] = 0
others (byte ∷ bytes) = (if nat_lt byte 256 then 0 else 1) + others bytes

abbrev others_in : Packet → ℕ
others_in packet = others packet.payload

below : (byte : ℕ) → byte < 256 → nat_lt byte 256 ≡ true
below byte low = grind (arith, nat_tests)

no_others : (bytes : List ℕ) → AreBytes bytes → others bytes ≤ 0
no_others [] small = omega arith
no_others (byte ∷ bytes) small = rw (below byte small.0) (omega (arith, no_others bytes small.1))

byte_by : (byte : ℕ) (test : Bool) → nat_lt byte 256 ≡ test → (if test then 0 else 1) ≤ 0 → byte < 256
byte_by byte true is none = grind (arith, nat_tests)
byte_by byte false is none = absurd (omega (arith, none))

all_bytes : (bytes : List ℕ) → others bytes ≤ 0 → AreBytes bytes
all_bytes [] none = tt
all_bytes (byte ∷ bytes) none =
    (byte_by byte (nat_lt byte 256) refl (omega (arith, none)), all_bytes bytes (omega (arith, none)))

no_others_in : (given : List Packet) → AreOfBytes given → packets_cost (λ (packet : Packet). 0 + others_in packet) given ≤ 0
no_others_in [] small = omega arith
no_others_in (packet ∷ given) small = omega (arith, no_others packet.payload small.0, no_others_in given small.1)

all_of_bytes : (given : List Packet) → packets_cost others_in given ≤ 0 → AreOfBytes given
all_of_bytes [] none = tt
all_of_bytes (packet ∷ given) none = (all_bytes packet.payload (omega (arith, none)), all_of_bytes given (omega (arith, none)))

-- ---- the capture

number_bytes : (n : ℕ) → AreBytes (to_be_bytes w32 n)
number_bytes n = (omega arith, (omega arith, (omega arith, (omega arith, tt))))

segment_small : (conn : ℕ) (part : List ℕ) → AreBytes part → AreBytes (spelled (Kinds.Segment (record { conn = conn; bytes = part })))
segment_small conn part small =
    (omega arith, bytes_append (to_be_bytes w32 conn) (to_be_bytes w32 (length part) ++ part) (number_bytes conn) (bytes_append (to_be_bytes w32 (length part)) part (number_bytes (length part)) small))

close_small : (conn : ℕ) → AreBytes (spelled (Kinds.Close conn))
close_small conn = (omega arith, number_bytes conn)

segments_small : (conn most : ℕ) (bytes : List ℕ) → AreBytes bytes → AreBytes (flat_map spelled (segments_of conn most bytes))
segments_small conn zero bytes small = tt
segments_small conn (suc most) [] small = tt
segments_small conn (suc most) (byte ∷ bytes) small =
    let part : List ℕ = take segment_limit (byte ∷ bytes) in
    let rest : List ℕ = drop segment_limit (byte ∷ bytes) in
    bytes_append (spelled (Kinds.Segment (record { conn = conn; bytes = part }))) (flat_map spelled (segments_of conn most rest))
    (segment_small conn part (bytes_take segment_limit (byte ∷ bytes) small)) (segments_small conn most rest (bytes_drop segment_limit (byte ∷ bytes) small))

flat_small : (xs ys : List Record) → AreBytes (flat_map spelled xs) → AreBytes (flat_map spelled ys) → AreBytes (flat_map spelled (xs ++ ys))
flat_small xs ys one two = rw (flat_append xs ys) (bytes_append (flat_map spelled xs) (flat_map spelled ys) one two)

session_small : (conn : ℕ) (session : Session) → packets_cost others_in session.packets ≤ 0 → AreBytes (flat_map spelled (session_records conn (session_stream session)))
session_small conn session none =
    segments_small conn (length (session_stream session)) (session_stream session) (stream_small session.first session.packets (all_of_bytes session.packets none))

connection_small : (conn : ℕ) (sessions : List Session) → sessions_cost 0 others_in sessions ≤ 0 → AreBytes (flat_map spelled (connection_records conn (map session_stream sessions)))
connection_small conn [] none = tt
connection_small conn (session ∷ []) none = session_small conn session (omega (arith, none))
connection_small conn (session ∷ next ∷ sessions) none =
    let rest : List Record = connection_records conn (map session_stream (next ∷ sessions)) in
    flat_small (session_records conn (session_stream session)) (Kinds.Close conn ∷ rest) (session_small conn session (omega (arith, none)))
    (bytes_append (spelled (Kinds.Close conn)) (flat_map spelled rest) (close_small conn) (connection_small conn (next ∷ sessions) (omega (arith, none))))

records_small : (conn : ℕ) (flows : Flows) → flows_cost 0 others_in flows ≤ 0 → AreBytes (flat_map spelled (records_from conn (streams_of_flows flows)))
records_small conn [] none = tt
records_small conn (flow ∷ flows) none =
    flat_small (connection_records conn (streams_of_flow flow)) (records_from (conn + 1) (streams_of_flows flows)) (connection_small conn (sessions_in flow) (omega (arith, none))) (records_small (conn + 1) flows (omega (arith, none)))

magic_small : AreBytes (capture_magic 2)
magic_small = (omega arith, (omega arith, (omega arith, (omega arith, (omega arith, (omega arith, (omega arith, (omega arith, tt))))))))

spelling_small : (count : ℕ) (items : List Record) → AreBytes (flat_map spelled items) → AreBytes (spelling 2 count items)
unfolding spelling
spelling_small count items small =
    bytes_append (capture_magic 2) (to_be_bytes w32 count ++ (flat_map spelled items ++ 69 ∷ [])) magic_small
    (bytes_append (to_be_bytes w32 count) (flat_map spelled items ++ 69 ∷ []) (number_bytes count) (bytes_append (flat_map spelled items) (69 ∷ []) small (omega arith, tt)))

made_small : (given : List Packet) → AreOfBytes given → AreBytes (pcap_capture given)
unfolding capture_of
made_small given small =
    let flows : Flows = flows_of given in
    let none : flows_cost 0 others_in flows ≤ 0 = omega (arith, flows_few 0 others_in given, no_others_in given small) in
    spelling_small (length (streams_of_flows flows)) (records_from 0 (streams_of_flows flows)) (records_small 0 flows none)

-- the capture of a file's packets has bytes alone
pub capture_small : (port : ℕ) (bytes : List ℕ) (given : List Packet) → packets port bytes ≡ Packets given → AreBytes bytes → AreBytes (pcap_capture given)
capture_small port bytes given found small = made_small given (packets_small port bytes given small found)
