-- A file has its header and, for each packet, its headers and its payload; and it is not longer than a file may be.
use Rattle.std.proofs.Common.{◌≡◌, ℕ, ◌+◌, ◌<◌, ◌≤◌, List, [], ◌∷◌, ◌++◌, length, length-append, sym, ap, subst}
use Rattle.std.proofs.Common.{arith}
use Rattle.std.specs.Prelude.{Option, Some, None, true, false, nat_lt, nat_le, ◌==◌, ◌&&◌, ⊤}
use Rattle.std.proofs.lemmas.Bool.Decides.{nat_tests}
use Rattle.zy_read.proofs.RunLemmas.{After, any_parts}
use Rattle.zy_pcap.specs.declared.pcap_fault.PcapFault.{PcapFault}
use Rattle.zy_pcap.specs.declared.due.Due.{Due}
use Rattle.zy_pcap.specs.declared.due.Due.TheVariants as Dues
use Rattle.zy_pcap.specs.declared.judged.Judged.{Judged}
use Rattle.zy_pcap.specs.declared.judged.Judged.TheVariants.{Passed, Refused, Taken}
use Rattle.zy_pcap.specs.Steps.{DueJudged, then_due, due_width, magic_does, version_does, link_does, begin_does}
use Rattle.zy_pcap.specs.Steps.{captured_does, original_does, due_does, is_begin, major, minor, ordered_number}
use Rattle.zy_pcap.specs.Steps.{file_limit, frame_limit}
use Rattle.zy_pcap.specs.Frame.{judge}
use Rattle.zy_pcap.specs.Packet.{Packet, packet_in}
use Rattle.zy_pcap.specs.Packets.{FileState, FieldJudged, frame_fault, packets_with, record_settled, record_ended}
use Rattle.zy_pcap.specs.Packets.{file_does, packets}
use Rattle.zy_pcap.specs.Packets.FoundPackets.{Packets}
use Rattle.zy_pcap.specs.Made.{pcap_capture}
use Rattle.zy_pcap.specs.Sizes.{file_header, record_bytes}
use Rattle.zy_pcap.proofs.CostLemmas.{packets_cost, packets_append}
use Rattle.zy_pcap.proofs.LengthLemmas.{capture_bytes, capture_few}
use Rattle.zy_pcap.proofs.FitLemmas.{FitsIn, chosen, not_less, judge_fits}
use Rattle.zy_pcap.proofs.WholeLemmas.{IsFile, file_of, file_text, file_keeps}

-- ---- what the bytes that were read hold

-- what the packets add to a capture is less than their records
abbrev Saves : List Packet → Type 0
Saves given = packets_cost capture_bytes given ≤ record_bytes given

-- the header, and the packets before a record that was begun
abbrev Before : FileState → Type 0
Before s = 24 + record_bytes s.packets ≤ s.records.begun

-- by what is expected: the packets, and the part that was begun, are within these bytes
abbrev Within : Due → FileState → ℕ → Type 0
Within Dues.Magic s n = record_bytes s.packets ≤ 0
Within Dues.Version s n = (record_bytes s.packets ≤ 0) × (4 ≤ n)
Within Dues.Settings s n = (record_bytes s.packets ≤ 0) × (8 ≤ n)
Within Dues.MostCaptured s n = (record_bytes s.packets ≤ 0) × (16 ≤ n)
Within Dues.LinkType s n = (record_bytes s.packets ≤ 0) × (20 ≤ n)
Within Dues.Begin s n = 24 + record_bytes s.packets ≤ n
Within Dues.Time s n = Before s × (s.records.begun + 1 ≤ n)
Within Dues.Captured s n = Before s × (s.records.begun + 8 ≤ n)
Within (Dues.Original size) s n = Before s × (s.records.begun + 12 ≤ n) × (size ≤ frame_limit)
Within (Dues.Frame others) s n = Before s × (s.records.begun + 16 ≤ n) × (others + 1 ≤ frame_limit)

abbrev Stands : FileState → ℕ → Type 0
Stands s n = Within s.records.due s n × Saves s.packets

-- ---- the end of a record

record_append : (xs ys : List Packet) → record_bytes (xs ++ ys) ≡ record_bytes xs + record_bytes ys
record_append [] ys = omega arith
record_append (x ∷ xs) ys = omega (arith, record_append xs ys)

with_few : (frame : List ℕ) (given : List Packet) (found : Judged) → FitsIn frame found → length frame ≤ frame_limit → Saves given
    → (record_bytes (packets_with frame given found) ≤ record_bytes given + 16 + length frame) × Saves (packets_with frame given found)
with_few frame given (Taken segment) fits short saves =
    let packet : Packet = packet_in frame segment in
    (omega (arith, record_append given (packet ∷ []), fits), omega (arith, record_append given (packet ∷ []), packets_append capture_bytes given (packet ∷ []), fits, short, saves))
with_few frame given Passed fits short saves = (omega arith, saves)
with_few frame given (Refused fault) fits short saves = (omega arith, saves)

-- it stands after a whole field
abbrev StandsAfter : List ℕ → List ⊤ → FieldJudged → Type 0
StandsAfter text gave judged = After (λ s l given. Stands s (length l)) text gave judged

settled_stands : (fault : Option PcapFault) (next : FileState) (text : List ℕ) (gave : List ⊤) → Stands next (length text) → StandsAfter text gave (record_settled fault next)
settled_stands None next text gave stands = stands
settled_stands (Some fault) next text gave stands = tt

ended_stands : (port : ℕ) (s : FileState) (frame text : List ℕ) (gave : List ⊤) → Before s → s.records.begun + 16 + length frame ≤ length text → length frame ≤ frame_limit → Saves s.packets
    → StandsAfter text gave (record_ended s (then_due s.records Dues.Begin) frame (judge port s.records.begun frame))
ended_stands port s frame text gave first long short saves =
    let found : Judged = judge port s.records.begun frame in
    let few = with_few frame s.packets found (judge_fits port s.records.begun frame) short saves in
    settled_stands (frame_fault s.records.begun frame s.packets found) (record { records = then_due s.records Dues.Begin; packets = packets_with frame s.packets found }) text gave
    (omega (arith, few.0, first, long), few.1)

-- ---- a field

module _ (port : ℕ) (s : FileState) (text : List ℕ) (gave : List ⊤) (saves : Saves s.packets) where
  -- it stands after what a field of the records does
  abbrev Does : DueJudged → Type 0
  Does judged = StandsAfter text gave (file_does port s judged)

  magic_stands : (number : ℕ) → record_bytes s.packets ≤ 0 → 4 ≤ length text → Does (magic_does s.records number)
  magic_stands number none long =
      chosen Does (number == 0xa1b2c3d4) _ _ (λ is. ((none, long), saves)) (λ other. chosen Does (number == 0xd4c3b2a1) _ _ (λ is. ((none, long), saves)) (λ no. tt))

  version_stands : (number : ℕ) → record_bytes s.packets ≤ 0 → 8 ≤ length text → Does (version_does s.records number)
  version_stands number none long =
      chosen Does (major s.records.is_big number == 2 && minor s.records.is_big number == 4) _ _ (λ is. ((none, long), saves)) (λ no. tt)

  link_stands : (number : ℕ) → record_bytes s.packets ≤ 0 → 24 ≤ length text → Does (link_does s.records number)
  link_stands number none long = chosen Does (number == 1) _ _ (λ is. (omega (arith, none, long), saves)) (λ no. tt)

  begin_stands : (at : ℕ) → 24 + record_bytes s.packets ≤ at → at + 1 ≤ length text → Does (begin_does s.records at)
  begin_stands at first long = chosen Does (nat_le file_limit at) _ _ (λ full. tt) (λ room. ((first, long), saves))

  captured_stands : (number : ℕ) → Before s → s.records.begun + 12 ≤ length text → Does (captured_does s.records number)
  captured_stands number first long = chosen Does (nat_lt frame_limit number) _ _ (λ no. tt) (λ is. ((first, long, not_less frame_limit number is), saves))

  positive : (size : ℕ) → (size == 0) ≡ false → 0 < size
  positive size is = grind (arith, nat_tests)

  original_stands : (size : ℕ) → Before s → s.records.begun + 16 ≤ length text → size ≤ frame_limit → Does (original_does s.records size)
  original_stands size first long short =
      chosen Does (size == 0) _ _ (λ none. ended_stands port s [] text gave first (omega (arith, long)) (omega arith) saves)
      (λ some. ((first, long, omega (arith, short, positive size some)), saves))

  -- after a whole field, which is the last part of the bytes
  field_stands : (due : Due) (at : ℕ) (field : List ℕ) → at + length field ≡ length text → length field ≡ due_width due → Within due s at → Does (due_does due s.records at field)
  field_stands Dues.Magic at field all size within = magic_stands (ordered_number s.records.is_big field) within (omega (arith, all, size))
  field_stands Dues.Version at field all size within = version_stands (ordered_number s.records.is_big field) within.0 (omega (arith, all, size, within.1))
  field_stands Dues.Settings at field all size within = ((within.0, omega (arith, all, size, within.1)), saves)
  field_stands Dues.MostCaptured at field all size within = ((within.0, omega (arith, all, size, within.1)), saves)
  field_stands Dues.LinkType at field all size within = link_stands (ordered_number s.records.is_big field) within.0 (omega (arith, all, size, within.1))
  field_stands Dues.Begin at field all size within = begin_stands at within (omega (arith, all, size))
  field_stands Dues.Time at field all size within = ((within.0, omega (arith, all, size, within.1)), saves)
  field_stands Dues.Captured at field all size within = captured_stands (ordered_number s.records.is_big field) within.0 (omega (arith, all, size, within.1))
  field_stands (Dues.Original original) at field all size within = original_stands original within.0 (omega (arith, all, size, within.1)) within.2
  field_stands (Dues.Frame others) at field all size within = ended_stands port s field text gave within.0 (omega (arith, all, within.1)) (omega (arith, size, within.2)) saves

-- ---- a whole file

-- the packets are within a file of this many bytes
pub record Holds (given : List Packet) (n : ℕ) : Type 0 where
  pub short : n ≤ file_limit
  pub records : file_header + record_bytes given ≤ n
  pub saves : packets_cost capture_bytes given ≤ record_bytes given

end_held : (due : Due) (s : FileState) (n : ℕ) → is_begin due ≡ true → Within due s n → file_header + record_bytes s.packets ≤ n
end_held Dues.Begin s n is within = omega (arith, within)
end_held due s n is within = cc

pub file_holds : (port : ℕ) (bytes : List ℕ) (given : List Packet) → packets port bytes ≡ Packets given → Holds given (length bytes)
file_holds port bytes given is =
    let file : IsFile port bytes given = file_of port bytes given is in
    let stands : Stands file.s (length bytes) =
    file_keeps port bytes given file (λ part. ⊤) Stands
    (λ s text field gave any stands size. field_stands port s (text ++ field) gave stands.1 s.records.due (length text) field (sym (length-append text field)) size stands.0)
    (any_parts file.whole.begins.parts) (omega arith, omega arith) in
    subst (λ (l : List Packet). Holds l (length bytes)) file.same (record {
      short = omega (arith, ap (λ (l : List ℕ). length l) (file_text port bytes given file), file.whole.begins.short);
      records = end_held file.s.records.due file.s (length bytes) file.whole.end_is stands.0;
      saves = stands.1;
    })

pub file_short : (port : ℕ) (bytes : List ℕ) (given : List Packet) → packets port bytes ≡ Packets given → length bytes ≤ file_limit
file_short port bytes given found = (file_holds port bytes given found).short

-- the capture is not longer than the file
pub capture_within : (port : ℕ) (bytes : List ℕ) (given : List Packet) → packets port bytes ≡ Packets given → length (pcap_capture given) ≤ length bytes
capture_within port bytes given found =
    let holds = file_holds port bytes given found in
    omega (arith, holds.records, holds.saves, capture_few given)
