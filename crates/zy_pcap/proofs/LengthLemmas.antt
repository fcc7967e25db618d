-- The capture of some packets is not longer than what each packet adds to it: its payload, and the heads of its segments
-- and of a close record.
use Rattle.std.proofs.Common.{◌≡◌, ℕ, zero, suc, ◌+◌, ◌*◌, ◌/◌, ◌≤◌, List, [], ◌∷◌, ◌++◌, length, take, drop, map, flat_map, length-append, length-drop, take-append-drop, append_assoc, refl, sym, ap, ◌∙◌, arith}
use Rattle.zy_capture.specs.declared.record.Record.{Record}
use Rattle.zy_capture.specs.declared.record.Record.TheVariants as Kinds
use Rattle.zy_capture.specs.Capture.{spelled, spelling, segment_limit}
use Rattle.zy_pcap.specs.Packet.{Packet}
use Rattle.zy_pcap.specs.Session.{Session, session_stream}
use Rattle.zy_pcap.specs.Flow.{Flows, sessions_in, streams_of_flow, streams_of_flows, flows_of}
use Rattle.zy_pcap.specs.Made.{segments_of, session_records, connection_records, records_from, capture_of, pcap_capture}
use Rattle.zy_pcap.specs.Sizes.{payload_bytes}
use Rattle.zy_pcap.proofs.CountLemmas.{stream_few}
use Rattle.zy_pcap.proofs.CostLemmas.{packets_cost, sessions_cost, flows_cost, flows_few}

-- the most segments that a packet adds
abbrev pub segments_for : Packet → ℕ
segments_for packet = length packet.payload / 65535 + 1

-- the most bytes that it adds to the segments of its session
abbrev pub segment_bytes : Packet → ℕ
segment_bytes packet = length packet.payload + 9 * segments_for packet

-- ---- records

pub flat_append : (xs ys : List Record) → flat_map spelled (xs ++ ys) ≡ flat_map spelled xs ++ flat_map spelled ys
flat_append [] ys = refl
flat_append (x ∷ xs) ys = ap (λ (l : List ℕ). spelled x ++ l) (flat_append xs ys) ∙ sym (append_assoc (spelled x) (flat_map spelled xs) (flat_map spelled ys))

flat_length : (xs ys : List Record) → length (flat_map spelled (xs ++ ys)) ≡ length (flat_map spelled xs) + length (flat_map spelled ys)
flat_length xs ys = ap (λ (l : List ℕ). length l) (flat_append xs ys) ∙ length-append (flat_map spelled xs) (flat_map spelled ys)

segment_length : (conn : ℕ) (part : List ℕ) → length (spelled (Kinds.Segment (record { conn = conn; bytes = part }))) ≡ 9 + length part
segment_length conn part = omega arith

cut_length : (n : ℕ) (bytes : List ℕ) → length (take n bytes) + length (drop n bytes) ≡ length bytes
cut_length n bytes = sym (length-append (take n bytes) (drop n bytes)) ∙ ap (λ (l : List ℕ). length l) (take-append-drop n bytes)

rest_few : (bytes : List ℕ) (n : ℕ) → length bytes ≤ 65535 * suc n → length (drop segment_limit bytes) ≤ 65535 * n
rest_few bytes n few = omega (arith, few, length-drop segment_limit bytes)

segment_on : (conn n : ℕ) (bytes : List ℕ) (more : List Record) → length (flat_map spelled more) ≤ length (drop segment_limit bytes) + 9 * n
    → length (flat_map spelled (Kinds.Segment (record { conn = conn; bytes = take segment_limit bytes }) ∷ more)) ≤ length bytes + 9 * suc n
segment_on conn n bytes more few =
    let head : Record = Kinds.Segment (record { conn = conn; bytes = take segment_limit bytes }) in
    let both : length (flat_map spelled (head ∷ more)) ≡ length (spelled head) + length (flat_map spelled more) = length-append (spelled head) (flat_map spelled more) in
    omega (arith, both, segment_length conn (take segment_limit bytes), cut_length segment_limit bytes, few)

segments_few : (conn most : ℕ) (bytes : List ℕ) (n : ℕ) → length bytes ≤ 65535 * n → length (flat_map spelled (segments_of conn most bytes)) ≤ length bytes + 9 * n
segments_few conn zero bytes n few = omega arith
segments_few conn (suc most) [] n few = omega arith
segments_few conn (suc most) (byte ∷ bytes) zero few = absurd (omega (arith, few))
segments_few conn (suc most) (byte ∷ bytes) (suc n) few =
    let rest : List ℕ = drop segment_limit (byte ∷ bytes) in
    segment_on conn n (byte ∷ bytes) (segments_of conn most rest) (segments_few conn most rest n (rest_few (byte ∷ bytes) n few))

-- ---- sessions

-- the payloads have room in the segments that the packets add
payloads_fit : (packets : List Packet) → payload_bytes packets ≤ 65535 * packets_cost segments_for packets
payloads_fit [] = omega arith
payloads_fit (packet ∷ packets) = omega (arith, payloads_fit packets)

added : (packets : List Packet) → payload_bytes packets + 9 * packets_cost segments_for packets ≡ packets_cost segment_bytes packets
added [] = omega arith
added (packet ∷ packets) = omega (arith, added packets)

session_few : (conn : ℕ) (session : Session) → length (flat_map spelled (session_records conn (session_stream session))) ≤ packets_cost segment_bytes session.packets
session_few conn session =
    let few : length (session_stream session) ≤ payload_bytes session.packets = stream_few session.first session.packets in
    let most : length (session_stream session) ≤ 65535 * packets_cost segments_for session.packets = omega (arith, few, payloads_fit session.packets) in
    omega (arith, few, added session.packets, segments_few conn (length (session_stream session)) (session_stream session) (packets_cost segments_for session.packets) most)

close_on : (conn : ℕ) (more : List Record) → length (flat_map spelled (Kinds.Close conn ∷ more)) ≡ 5 + length (flat_map spelled more)
close_on conn more = omega arith

connection_few : (conn : ℕ) (sessions : List Session) → length (flat_map spelled (connection_records conn (map session_stream sessions))) ≤ sessions_cost 5 segment_bytes sessions
connection_few conn [] = omega arith
connection_few conn (session ∷ []) = omega (arith, session_few conn session)
connection_few conn (session ∷ next ∷ sessions) =
    let rest : List Record = connection_records conn (map session_stream (next ∷ sessions)) in
    omega (arith, flat_length (session_records conn (session_stream session)) (Kinds.Close conn ∷ rest), close_on conn rest, session_few conn session, connection_few conn (next ∷ sessions))

-- ---- the capture

records_few : (conn : ℕ) (flows : Flows) → length (flat_map spelled (records_from conn (streams_of_flows flows))) ≤ flows_cost 5 segment_bytes flows
records_few conn [] = omega arith
records_few conn (flow ∷ flows) =
    omega (arith, flat_length (connection_records conn (streams_of_flow flow)) (records_from (conn + 1) (streams_of_flows flows)), connection_few conn (sessions_in flow), records_few (conn + 1) flows)

spelling_length : (count : ℕ) (items : List Record) → length (spelling 2 count items) ≡ 13 + length (flat_map spelled items)
unfolding spelling
spelling_length count items = omega (arith, length-append (flat_map spelled items) (69 ∷ []))

-- what a packet adds to a capture
abbrev pub capture_bytes : Packet → ℕ
capture_bytes packet = 5 + segment_bytes packet

pub capture_few : (packets : List Packet) → length (pcap_capture packets) ≤ 13 + packets_cost capture_bytes packets
unfolding capture_of
capture_few packets =
    omega (arith, spelling_length (length (streams_of_flows (flows_of packets))) (records_from 0 (streams_of_flows (flows_of packets))), records_few 0 (flows_of packets), flows_few 5 segment_bytes packets)
