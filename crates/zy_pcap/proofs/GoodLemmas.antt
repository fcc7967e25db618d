-- The capture of recorded packets is one: its count is that of connections that there may be, and its records are lawful.
use Rattle.std.proofs.Common.{◌≡◌, ℕ, zero, suc, ◌+◌, ◌-◌, ◌*◌, ◌<◌, ◌≤◌, List, [], ◌∷◌, ◌++◌, length, drop, replicate, length-append, refl, ap, ◌∙◌, inr, inl, arith}
use Rattle.std.specs.Prelude.{Option, Some, None, Bool, true, false, nat_lt, slice_index_or}
use Rattle.std.specs.List.{AllByRecursion}
use Rattle.std.proofs.lemmas.Bool.{cases_lt}
use Rattle.std.proofs.lemmas.Bool.Decides.{nat_tests}
use Rattle.std.proofs.lemmas.List.{length-take, length-map, length-set, length-replicate}
use Rattle.zy_capture.specs.declared.record.Record.{Record}
use Rattle.zy_capture.specs.declared.record.Record.TheVariants as Kinds
use Rattle.zy_capture.specs.Capture.{IsRecordOf, Spells, segment_limit, capture_limit}
use Rattle.zy_pcap.specs.declared.slot.Slot.{Slot}
use Rattle.zy_pcap.specs.declared.slot.Slot.TheVariants.{Known, New, Full}
use Rattle.zy_pcap.specs.Packet.{Packet}
use Rattle.zy_pcap.specs.Kept.{IsNumber}
use Rattle.zy_pcap.specs.Flow.{Flows, Keys, group_of_flow, is_same_flow, slot_from, slot_of, flow_keys, put_at, grown_flow, joined_at, flows_with, flow_at, sessions_in, flows_after, flows_of, streams_of_flows, streams_of_flow}
use Rattle.zy_pcap.specs.Made.{segments_of, session_records, connection_records, records_from, capture_of, pcap_capture}

-- ---- connection numbers

here_by : (keys : Keys) (key other : List ℕ) (number left : ℕ) (same : Bool) → slice_index_or keys number None ≡ Some other → is_same_flow other key ≡ same → number < 4096 → IsNumber (slot_from keys key (number + 128) left)
    → IsNumber (slot_from keys key number (suc left))
here_by keys key other number left true there is low rest = rw (there, slot_from) (rw is low)
here_by keys key other number left false there is low rest = rw (there, slot_from) (rw is rest)

number_by : (keys : Keys) (key : List ℕ) (number left : ℕ) (found : Option (List ℕ)) → slice_index_or keys number None ≡ found → number < 4096 → IsNumber (slot_from keys key (number + 128) left) → IsNumber (slot_from keys key number (suc left))
number_by keys key number left None is low rest = rw (is, slot_from) low
number_by keys key number left (Some other) is low rest = here_by keys key other number left (is_same_flow other key) is refl low rest

number_within : (keys : Keys) (key : List ℕ) (number left : ℕ) → number + 128 * left < 4224 → IsNumber (slot_from keys key number left)
number_within keys key number zero low = tt
number_within keys key number (suc left) low =
    number_by keys key number left (slice_index_or keys number None) refl (omega (arith, low)) (number_within keys key (number + 128) left (omega (arith, low)))

slot_within : (keys : Keys) (key : List ℕ) → IsNumber (slot_of keys key)
unfolding slot_of
slot_within keys key = number_within keys key (group_of_flow key) 32 (omega arith)

-- ---- the count

put_few : {X : Type 0} (xs : List (Option X)) (place : ℕ) (x : X) → length xs ≤ 4096 → place < 4096 → length (put_at xs place x) ≤ 4096
put_few xs place x few low =
    elim (cases_lt place (length xs)) [
      | inl within ↦ (let test : nat_lt place (length xs) ≡ true = grind (arith, nat_tests) in
          rw test (omega (arith, few, length-set xs place (Some x))))
      | inr above ↦ (let test : nat_lt place (length xs) ≡ false = grind (arith, nat_tests) in
          let size : length (xs ++ (replicate (place - length xs) None ++ Some x ∷ [])) ≡ place + 1 =
          length-append xs (replicate (place - length xs) None ++ Some x ∷ [])
          ∙ ap (λ (n : ℕ). length xs + n) (length-append (replicate (place - length xs) None) (Some x ∷ []) ∙ ap (λ (n : ℕ). n + 1) (length-replicate (place - length xs) None))
          ∙ omega (arith, above) in
          rw test (omega (arith, size, low)))
    ]

joined_few : (slot : Slot) (flows : Flows) (packet : Packet) → IsNumber slot → length flows ≤ 4096 → length (joined_at slot flows packet) ≤ 4096
joined_few (Known number) flows packet low few = put_few flows number (grown_flow (sessions_in (flow_at flows number)) packet) few low
joined_few (New number) flows packet low few = put_few flows number (grown_flow [] packet) few low
joined_few Full flows packet low few = few

after_few : (flows : Flows) (packets : List Packet) → length flows ≤ 4096 → length (flows_after flows packets) ≤ 4096
after_few flows [] few = few
after_few flows (packet ∷ packets) few = after_few (flows_with flows packet) packets (joined_few (slot_of (flow_keys flows) packet.flow) flows packet (slot_within (flow_keys flows) packet.flow) few)

flows_few : (packets : List Packet) → length (flows_of packets) ≤ 4096
unfolding flows_of
flows_few packets = after_few [] packets (omega arith)

-- ---- the records

all_append : (P : Record → Type 0) (xs ys : List Record) → AllByRecursion P xs → AllByRecursion P ys → AllByRecursion P (xs ++ ys)
all_append P [] ys one two = two
all_append P (x ∷ xs) ys one two = (one.0, all_append P xs ys one.1 two)

segments_lawful : (count conn most : ℕ) (bytes : List ℕ) → conn < count → AllByRecursion (IsRecordOf 2 count) (segments_of conn most bytes)
segments_lawful count conn zero bytes low = tt
segments_lawful count conn (suc most) [] low = tt
segments_lawful count conn (suc most) (byte ∷ bytes) low =
    ((low, omega (arith, length-take segment_limit (byte ∷ bytes))), segments_lawful count conn most (drop segment_limit (byte ∷ bytes)) low)

connection_lawful : (count conn : ℕ) (sessions : List (List ℕ)) → conn < count → AllByRecursion (IsRecordOf 2 count) (connection_records conn sessions)
connection_lawful count conn [] low = tt
connection_lawful count conn (session ∷ []) low = segments_lawful count conn (length session) session low
connection_lawful count conn (session ∷ next ∷ sessions) low =
    all_append (IsRecordOf 2 count) (session_records conn session) (Kinds.Close conn ∷ connection_records conn (next ∷ sessions)) (segments_lawful count conn (length session) session low)
    ((refl, low), connection_lawful count conn (next ∷ sessions) low)

records_lawful : (count conn : ℕ) (streams : List (List (List ℕ))) → conn + length streams ≤ count → AllByRecursion (IsRecordOf 2 count) (records_from conn streams)
records_lawful count conn [] within = tt
records_lawful count conn (sessions ∷ streams) within =
    all_append (IsRecordOf 2 count) (connection_records conn sessions) (records_from (conn + 1) streams) (connection_lawful count conn sessions (omega (arith, within)))
    (records_lawful count (conn + 1) streams (omega (arith, within)))

-- ---- the capture

pub capture_spells : (packets : List Packet) → length (pcap_capture packets) ≤ capture_limit
    → Spells (pcap_capture packets) 2 (length (streams_of_flows (flows_of packets))) (records_from 0 (streams_of_flows (flows_of packets)))
unfolding capture_of
capture_spells packets short =
    let streams : List (List (List ℕ)) = streams_of_flows (flows_of packets) in
    record {
      valid = record { known = inr refl; few = omega (arith, flows_few packets, length-map (flows_of packets) streams_of_flow); lawful = records_lawful (length streams) 0 streams (omega arith) };
      spelled = refl;
      short = short;
    }
