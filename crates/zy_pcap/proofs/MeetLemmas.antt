-- Sessions: what is kept of one after a packet came.
use Rattle.std.proofs.Common.{◌≡◌, ℕ, ◌+◌, ◌-◌, ◌^◌, ◌<◌, ◌≤◌, List, [], ◌∷◌, ◌++◌, length, drop, refl, sym, ap, ◌∙◌, arith}
use Rattle.std.specs.Prelude.{Option, None, false, Result, Ok, Err, ⊤}
use Rattle.std.proofs.lemmas.List.{drop_all}
use Rattle.zy_read.specs.declared.not_taken.NotTaken.{NotTaken}
use Rattle.zy_read.specs.declared.not_taken.NotTaken.TheVariants.{Fault, NoMemory}
use Rattle.zy_pcap.specs.declared.pcap_fault.PcapFault.{PcapFault}
use Rattle.zy_pcap.specs.declared.pcap_fault.PcapFault.TheVariants.{FlowLength}
use Rattle.zy_pcap.specs.declared.judged.Segment.{Segment}
use Rattle.zy_pcap.specs.declared.kept_session.KeptSession.{KeptSession}
use Rattle.zy_pcap.specs.Packet.{Packet, packet_with}
use Rattle.zy_pcap.specs.Session.{Session, number_after, first_number, reaches, byte_of, byte_or_other, byte_at, session_begun_by}
use Rattle.zy_pcap.specs.Held.{HeldParts, byte_held, covered, HoldsSame, HoldsBoth}
use Rattle.zy_pcap.specs.Kept.{KeepsSession, Adds, MeetsSession, apart, session_next}
use Rattle.zy_pcap.proofs.CoverLemmas.{first_none, first_assoc}
use Rattle.zy_pcap.proofs.SessionLemmas.{start, near_ends, before_ends, far_reaches, byte_near, byte_before, none_covered}

-- ---- one further packet

byte_at_last : (first : Packet) (packets : List Packet) (packet : Packet) (at : ℕ) → byte_at first (packets ++ packet ∷ []) at ≡ byte_or_other (byte_at first packets at) (byte_of first packet at)
byte_at_last first [] packet at = first_none (byte_of first packet at)
byte_at_last first (other ∷ packets) packet at =
    ap (byte_or_other (byte_of first other at)) (byte_at_last first packets packet at)
    ∙ sym (first_assoc (byte_of first other at) (byte_at first packets at) (byte_of first packet at))

-- what was added is what the packet has
added_keeps : (old new : KeptSession) (session : Session) (packet : Packet) (more : ℕ → Option ℕ) → KeepsSession old session → new.sequence ≡ old.sequence → new.is_syn ≡ old.is_syn
    → HoldsBoth (byte_held old.bytes) (byte_held new.bytes) more → ((at : ℕ) → at < 2 ^ 31 → byte_of session.first packet at ≡ more at) → KeepsSession new (session_next packet session)
added_keeps old new session packet more keeps sequence syn both same = record {
  sequence = sequence ∙ keeps.sequence;
  syn = syn ∙ keeps.syn;
  bytes = λ at low. both at ∙ ap (λ (b : Option ℕ). byte_or_other b (more at)) (keeps.bytes at low)
      ∙ ap (byte_or_other (byte_at session.first session.packets at)) (sym (same at low))
      ∙ sym (byte_at_last session.first session.packets packet at);
}

-- nothing was changed
pub same_keeps : (old new : KeptSession) (session : Session) → KeepsSession old session → new.sequence ≡ old.sequence → new.is_syn ≡ old.is_syn → HoldsSame (byte_held old.bytes) (byte_held new.bytes) → KeepsSession new session
same_keeps old new session keeps sequence syn same = record {
  sequence = sequence ∙ keeps.sequence;
  syn = syn ∙ keeps.syn;
  bytes = λ at low. same at ∙ keeps.bytes at low;
}

-- where a packet begins, by what was kept
abbrev start_by : KeptSession → Segment → ℕ
start_by kept segment = apart (number_after kept.sequence kept.is_syn) (number_after segment.sequence segment.is_syn)

start_is : (kept : KeptSession) (session : Session) (segment : Segment) (payload : List ℕ) → KeepsSession kept session → start session.first (packet_with segment payload) ≡ start_by kept segment
start_is kept session segment payload keeps = rw (keeps.sequence, keeps.syn) refl

pub meets_near : (old new : KeptSession) (segment : Segment) (payload : List ℕ) (at offset : ℕ) (result : Result ⊤ (NotTaken PcapFault)) → offset ≡ start_by old segment → offset + length payload ≤ 2 ^ 30
    → Adds old new offset payload result → MeetsSession (packet_with segment payload) at old new result
meets_near old new segment payload at offset (Ok u) same near adds = λ session keeps.
    let packet : Packet = packet_with segment payload in
    let is : start session.first packet ≡ offset = start_is old session segment payload keeps ∙ sym same in (
      rw (near_ends session.first packet (length payload) (omega (arith, is, near))) refl,
      added_keeps old new session packet (covered payload offset) keeps adds.0 adds.1 adds.2 (λ d within. byte_near session.first packet d (omega (arith, is, near)) ∙ ap (λ (n : ℕ). covered payload n d) is),
    )
meets_near old new segment payload at offset (Err (Fault fault)) same near adds = absurd adds
meets_near old new segment payload at offset (Err NoMemory) same near adds = λ session keeps. same_keeps old new session keeps adds.0 adds.1 adds.2

pub meets_before : (old new : KeptSession) (segment : Segment) (payload bytes : List ℕ) (at offset : ℕ) (result : Result ⊤ (NotTaken PcapFault)) → offset ≡ start_by old segment → 2 ^ 31 ≤ offset → length payload < 65536 → bytes ≡ drop (2 ^ 32 - offset) payload
    → Adds old new 0 bytes result → MeetsSession (packet_with segment payload) at old new result
meets_before old new segment payload bytes at offset (Ok u) same before few cut adds = λ session keeps.
    let packet : Packet = packet_with segment payload in
    let is : start session.first packet ≡ offset = start_is old session segment payload keeps ∙ sym same in (
      rw (before_ends session.first packet (length payload) (omega (arith, is, before)) (omega (arith, few))) refl,
      added_keeps old new session packet (covered bytes 0) keeps adds.0 adds.1 adds.2 (λ d low. byte_before session.first packet d low (omega (arith, is, before)) (omega (arith, few)) ∙ ap (λ (n : ℕ). covered (drop (2 ^ 32 - n) payload) 0 d) is ∙ ap (λ (l : List ℕ). covered l 0 d) (sym cut)),
    )
meets_before old new segment payload bytes at offset (Err (Fault fault)) same before few cut adds = absurd adds
meets_before old new segment payload bytes at offset (Err NoMemory) same before few cut adds = λ session keeps. same_keeps old new session keeps adds.0 adds.1 adds.2

-- there is nothing to keep: all of the payload comes before the session
pub meets_nothing : (old : KeptSession) (segment : Segment) (payload : List ℕ) (at offset : ℕ) → offset ≡ start_by old segment → 2 ^ 31 ≤ offset → length payload < 65536 → length payload ≤ 2 ^ 32 - offset → MeetsSession (packet_with segment payload) at old old (Ok tt)
meets_nothing old segment payload at offset same before few all =
    let none : drop (2 ^ 32 - offset) payload ≡ [] = drop_all (2 ^ 32 - offset) payload all in
    meets_before old old segment payload [] at offset (Ok tt) same before few (sym none) (refl, refl, λ d. sym (ap (byte_or_other (byte_held old.bytes d)) (none_covered 0 d) ∙ first_none (byte_held old.bytes d)))

-- there is no payload
pub meets_empty : (old : KeptSession) (segment : Segment) (payload : List ℕ) (at : ℕ) → length payload ≡ 0 → MeetsSession (packet_with segment payload) at old old (Ok tt)
meets_empty old segment (byte ∷ payload) at none = absurd (omega (arith, none))
meets_empty old segment [] at none = λ session keeps.
    (refl, added_keeps old old session (packet_with segment []) (covered [] 0) keeps refl refl (λ d. sym (ap (byte_or_other (byte_held old.bytes d)) (none_covered 0 d) ∙ first_none (byte_held old.bytes d))) (λ d low. sym (none_covered 0 d)))

pub meets_far : (old : KeptSession) (segment : Segment) (payload : List ℕ) (at offset : ℕ) → offset ≡ start_by old segment → offset < 2 ^ 31 → 0 < length payload → 2 ^ 30 < offset + length payload → MeetsSession (packet_with segment payload) at old old (Err (Fault (FlowLength at)))
meets_far old segment payload at offset same low some far = λ session keeps.
    let is : start session.first (packet_with segment payload) ≡ offset = start_is old session segment payload keeps ∙ sym same in
    (rw (far_reaches session.first (packet_with segment payload) (length payload) (omega (arith, is, low)) some (omega (arith, is, far))) refl, keeps)

-- ---- the first packet

apart_same : (n : ℕ) → n ≤ 2 ^ 32 → apart n n ≡ 0
apart_same n few = (let whole : n + (2 ^ 32 - n) ≡ 2 ^ 32 = omega (arith, few) in rw whole refl)

start_zero : (packet : Packet) → start packet packet ≡ 0
start_zero packet = apart_same (first_number packet) (omega arith)

pub begun_keeps : (segment : Segment) (payload : List ℕ) (old new : HeldParts) → length payload < 65536 → ((at : ℕ) → byte_held old at ≡ None) → HoldsBoth (byte_held old) (byte_held new) (covered payload 0)
    → KeepsSession (record { sequence = segment.sequence; is_syn = segment.is_syn; bytes = new }) (session_begun_by (packet_with segment payload))
begun_keeps segment payload old new few none both =
    let packet : Packet = packet_with segment payload in
    let zero_is : start packet packet ≡ 0 = start_zero packet in
    record {
      sequence = refl;
      syn = refl;
      bytes = λ at low. both at ∙ ap (λ (b : Option ℕ). byte_or_other b (covered payload 0 at)) (none at)
          ∙ ap (λ (n : ℕ). covered payload n at) (sym zero_is) ∙ sym (byte_near packet packet at (omega (arith, zero_is, few)))
          ∙ sym (first_none (byte_of packet packet at));
    }

-- a packet that begins a session reaches no refused offset
pub begun_ends : (packet : Packet) → length packet.payload < 65536 → reaches packet packet ≡ false
begun_ends packet few = near_ends packet packet (length packet.payload) (omega (arith, start_zero packet, few))
