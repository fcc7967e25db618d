-- Flows: what is kept of one flow, and of all, after a packet came.
use Rattle.std.proofs.Common.{◌≡◌, ℕ, zero, suc, ◌-◌, ◌<◌, ◌≤◌, List, [], ◌∷◌, ◌++◌, length, map, get_or, set, replicate, refl, sym, ap, ◌∙◌, subst, inl, inr, arith}
use Rattle.std.specs.Prelude.{Option, Some, None, Bool, true, false, not, nat_lt, slice_get, slice_set, Result, Ok, Err, ⊤}
use Rattle.std.proofs.lemmas.Bool.{cases_lt}
use Rattle.std.proofs.lemmas.Bool.Decides.{nat_tests}
use Rattle.zy_read.specs.declared.not_taken.NotTaken.{NotTaken}
use Rattle.zy_read.specs.declared.not_taken.NotTaken.TheVariants.{Fault, NoMemory}
use Rattle.zy_pcap.specs.declared.pcap_fault.PcapFault.{PcapFault}
use Rattle.zy_pcap.specs.declared.pcap_fault.PcapFault.TheVariants.{FlowCount}
use Rattle.zy_pcap.specs.declared.judged.Segment.{Segment}
use Rattle.zy_pcap.specs.declared.slot.Slot.{Slot}
use Rattle.zy_pcap.specs.declared.slot.Slot.TheVariants.{Known, New, Full}
use Rattle.zy_pcap.specs.declared.kept_session.KeptSession.{KeptSession}
use Rattle.zy_pcap.specs.declared.kept_flow.KeptFlow.{KeptFlow}
use Rattle.zy_pcap.specs.Packet.{Packet, packet_with}
use Rattle.zy_pcap.specs.Session.{Session, session_begun_by, begins, current, first_by, sessions_by, with_packet}
use Rattle.zy_pcap.specs.Flow.{Flow, Flows, Keys, put_at, grown_flow, slot_of, key_in, flow_keys, flow_at, length_fault, flow_fault, flows_with}
use Rattle.zy_pcap.specs.Pairs.{BothOrNone, AllPairs}
use Rattle.zy_pcap.specs.Kept.{KeepsSession, KeepsFlow, KeepsFlows, kept_key, kept_keys, is_ended_by, continues_by, continues, session_fault, session_next, MeetsSession, MeetsSessions, MeetsFlows, BeginsSession, MeetsFlow, BeginsFlow}
use Rattle.zy_pcap.proofs.PairLemmas.{pairs_length, pairs_get, pairs_set, pairs_append}
use Rattle.zy_pcap.proofs.MeetLemmas.{begun_ends}

-- ---- one flow

current_keeps : (kept : List KeptSession) (sessions : List Session) → AllPairs KeepsSession kept sessions → BothOrNone KeepsSession (slice_get kept (length kept - 1)) (current sessions)
current_keeps kept sessions pairs =
    subst (λ (n : ℕ). BothOrNone KeepsSession (slice_get kept (length kept - 1)) (slice_get sessions (n - 1))) (pairs_length KeepsSession kept sessions pairs)
    (pairs_get KeepsSession kept sessions (length kept - 1) pairs)

ends_is : (kept : KeptSession) (session : Session) (segment : Segment) (payload : List ℕ) → KeepsSession kept session → is_ended_by kept segment ≡ begins session.first (packet_with segment payload)
ends_is kept session segment payload keeps = rw (keeps.sequence, keeps.syn) refl

-- the session of a packet that begins none
is_some_keeps : (last : KeptSession) (found : Option Session) → BothOrNone KeepsSession (Some last) found → (session : Session) × ((found ≡ Some session) × KeepsSession last session)
is_some_keeps last None both = absurd both
is_some_keeps last (Some session) both = (session, (refl, both))

not_true : (b : Bool) → not b ≡ true → b ≡ false
not_true true is = cc
not_true false is = refl

not_false : (b : Bool) → not b ≡ false → b ≡ true
not_false true is = refl
not_false false is = cc

not_ends : (last : KeptSession) (segment : Segment) → continues_by (Some last) segment ≡ true → is_ended_by last segment ≡ false
not_ends last segment goes = not_true (is_ended_by last segment) goes

fault_goes : (sessions : List Session) (session : Session) (packet : Packet) (at : ℕ) → current sessions ≡ Some session → begins session.first packet ≡ false → length_fault sessions packet at ≡ session_fault packet at session
fault_goes sessions session packet at is goes = rw (is, goes) refl

next_goes : (sessions : List Session) (session : Session) (packet : Packet) → current sessions ≡ Some session → begins session.first packet ≡ false → with_packet sessions packet ≡ slice_set sessions (length sessions - 1) (session_next packet session)
next_goes sessions session packet is goes = rw (is, goes) refl

-- the sessions of a packet that begins none
record Goes (kept : List KeptSession) (last : KeptSession) (packet : Packet) (at : ℕ) (sessions : List Session) : Type 0 where
  session : Session
  keeps : KeepsSession last session
  fault : length_fault sessions packet at ≡ session_fault packet at session
  next : with_packet sessions packet ≡ slice_set sessions (length kept - 1) (session_next packet session)

goes : (kept : List KeptSession) (last : KeptSession) (segment : Segment) (payload : List ℕ) (at : ℕ) (sessions : List Session) → slice_get kept (length kept - 1) ≡ Some last → continues_by (Some last) segment ≡ true → AllPairs KeepsSession kept sessions
    → Goes kept last (packet_with segment payload) at sessions
goes kept last segment payload at sessions is goes_on pairs =
    let packet : Packet = packet_with segment payload in
    let found = is_some_keeps last (current sessions) (subst (λ (o : Option KeptSession). BothOrNone KeepsSession o (current sessions)) is (current_keeps kept sessions pairs)) in
    let begins_none : begins found.0.first packet ≡ false = sym (ends_is last found.0 segment payload found.1.1) ∙ not_ends last segment goes_on in
    record {
      session = found.0;
      keeps = found.1.1;
      fault = fault_goes sessions found.0 packet at found.1.0 begins_none;
      next = next_goes sessions found.0 packet found.1.0 begins_none ∙ ap (λ (n : ℕ). slice_set sessions (n - 1) (session_next packet found.0)) (sym (pairs_length KeepsSession kept sessions pairs));
    }

-- a session that is kept otherwise
set_kept : (kept : List KeptSession) (sessions : List Session) (i : ℕ) (last new : KeptSession) → slice_get kept i ≡ Some last → AllPairs KeepsSession kept sessions → ((session : Session) → KeepsSession last session → KeepsSession new session)
    → AllPairs KeepsSession (set kept i new) sessions
set_kept [] sessions i last new is pairs other = cc
set_kept (k ∷ kept) [] i last new is pairs other = absurd pairs
set_kept (k ∷ kept) (session ∷ sessions) zero last new is pairs other =
    (let same : k ≡ last = cc in (other session (subst (λ (x : KeptSession). KeepsSession x session) same pairs.0), pairs.1))
set_kept (k ∷ kept) (session ∷ sessions) (suc i) last new is pairs other = (pairs.0, set_kept kept sessions i last new is pairs.1 other)

flow_last : (kept : List KeptSession) (last new : KeptSession) (segment : Segment) (payload : List ℕ) (at : ℕ) (result : Result ⊤ (NotTaken PcapFault)) → slice_get kept (length kept - 1) ≡ Some last → continues_by (Some last) segment ≡ true
    → MeetsSession (packet_with segment payload) at last new result → MeetsSessions (packet_with segment payload) at kept (set kept (length kept - 1) new) result
flow_last kept last new segment payload at (Ok u) is goes_on meets = λ sessions pairs.
    let packet : Packet = packet_with segment payload in
    let g = goes kept last segment payload at sessions is goes_on pairs in
    let met = meets g.session g.keeps in
    (g.fault ∙ met.0, rw (g.next) (pairs_set KeepsSession kept sessions (length kept - 1) new (session_next packet g.session) pairs met.1))
flow_last kept last new segment payload at (Err (Fault fault)) is goes_on meets = λ sessions pairs.
    let g = goes kept last segment payload at sessions is goes_on pairs in
    let met = meets g.session g.keeps in
    (g.fault ∙ met.0, set_kept kept sessions (length kept - 1) last new is pairs (λ (session : Session) (keeps : KeepsSession last session). (meets session keeps).1))
flow_last kept last new segment payload at (Err NoMemory) is goes_on meets = λ sessions pairs.
    set_kept kept sessions (length kept - 1) last new is pairs (λ (session : Session) (keeps : KeepsSession last session). meets session keeps)

-- a packet that goes on with the current session
pub flow_goes : (kept : List KeptSession) (i : ℕ) (last new : KeptSession) (segment : Segment) (payload : List ℕ) (at : ℕ) (result : Result ⊤ (NotTaken PcapFault)) → i ≡ length kept - 1 → slice_get kept i ≡ Some last → continues kept segment ≡ true
    → MeetsSession (packet_with segment payload) at last new result → MeetsSessions (packet_with segment payload) at kept (set kept i new) result
flow_goes kept i last new segment payload at result same is goes_on meets =
    let there : slice_get kept (length kept - 1) ≡ Some last = ap (slice_get kept) (sym same) ∙ is in
    let on : continues_by (Some last) segment ≡ true = ap (λ (o : Option KeptSession). continues_by o segment) (sym there) ∙ goes_on in
    rw same (flow_last kept last new segment payload at result there on meets)

-- a packet that begins a session
begins_by : (kept : Option KeptSession) (found : Option Session) (segment : Segment) (payload : List ℕ) → continues_by kept segment ≡ false → BothOrNone KeepsSession kept found → first_by found (packet_with segment payload) ≡ packet_with segment payload
begins_by None None segment payload ends_it both = refl
begins_by None (Some session) segment payload ends_it both = absurd both
begins_by (Some last) None segment payload ends_it both = absurd both
begins_by (Some last) (Some session) segment payload ends_it both =
    let is : begins session.first (packet_with segment payload) ≡ true = sym (ends_is last session segment payload both) ∙ not_false (is_ended_by last segment) ends_it in rw is refl

next_by : (kept : Option KeptSession) (found : Option Session) (sessions : List Session) (segment : Segment) (payload : List ℕ) → continues_by kept segment ≡ false → BothOrNone KeepsSession kept found
    → sessions_by found sessions (packet_with segment payload) ≡ sessions ++ session_begun_by (packet_with segment payload) ∷ []
next_by None None sessions segment payload ends_it both = refl
next_by None (Some session) sessions segment payload ends_it both = absurd both
next_by (Some last) None sessions segment payload ends_it both = absurd both
next_by (Some last) (Some session) sessions segment payload ends_it both =
    let is : begins session.first (packet_with segment payload) ≡ true = sym (ends_is last session segment payload both) ∙ not_false (is_ended_by last segment) ends_it in rw is refl

pub flow_begins : (kept new : List KeptSession) (segment : Segment) (payload : List ℕ) (at : ℕ) (result : Result ⊤ (NotTaken PcapFault)) → continues_by (slice_get kept (length kept - 1)) segment ≡ false → length payload < 65536
    → BeginsSession (packet_with segment payload) kept new result → MeetsSessions (packet_with segment payload) at kept new result
flow_begins kept new segment payload at (Ok u) ends_it few begun = λ sessions pairs.
    let packet : Packet = packet_with segment payload in
    let both = current_keeps kept sessions pairs in
    let first : first_by (current sessions) packet ≡ packet = begins_by (slice_get kept (length kept - 1)) (current sessions) segment payload ends_it both in
    let next : with_packet sessions packet ≡ sessions ++ session_begun_by packet ∷ [] = next_by (slice_get kept (length kept - 1)) (current sessions) sessions segment payload ends_it both in (
      rw (first, begun_ends packet few) refl,
      rw (begun.1.0, next) (pairs_append KeepsSession kept (begun.0 ∷ []) sessions (session_begun_by packet ∷ []) pairs (begun.1.1, tt)),
    )
flow_begins kept new segment payload at (Err (Fault fault)) ends_it few begun = absurd begun
flow_begins kept new segment payload at (Err NoMemory) ends_it few begun = λ sessions pairs. rw begun pairs

-- ---- all flows

key_pair : (kept : Option KeptFlow) (flow : Option Flow) → BothOrNone KeepsFlow kept flow → kept_key kept ≡ key_in flow
key_pair None None both = refl
key_pair None (Some flow) both = absurd both
key_pair (Some kept) None both = absurd both
key_pair (Some kept) (Some flow) both = ap (λ (key : List ℕ). Some key) both.key

keys_same : (kept : List (Option KeptFlow)) (flows : Flows) → KeepsFlows kept flows → kept_keys kept ≡ flow_keys flows
keys_same [] [] pairs = refl
keys_same [] (flow ∷ flows) pairs = absurd pairs
keys_same (k ∷ kept) [] pairs = absurd pairs
keys_same (k ∷ kept) (flow ∷ flows) pairs =
    ap (λ (key : Option (List ℕ)). key ∷ kept_keys kept) (key_pair k flow pairs.0) ∙ ap (λ (keys : Keys). key_in flow ∷ keys) (keys_same kept flows pairs.1)

pairs_at : (kept : List (Option KeptFlow)) (flows : Flows) (number : ℕ) → KeepsFlows kept flows → BothOrNone KeepsFlow (get_or kept number None) (get_or flows number None)
pairs_at [] [] number pairs = tt
pairs_at [] (flow ∷ flows) number pairs = absurd pairs
pairs_at (k ∷ kept) [] number pairs = absurd pairs
pairs_at (k ∷ kept) (flow ∷ flows) zero pairs = pairs.0
pairs_at (k ∷ kept) (flow ∷ flows) (suc number) pairs = pairs_at kept flows number pairs.1

-- the flow that has a number
pub key_there : (kept : List (Option KeptFlow)) (number : ℕ) (key : List ℕ) → get_or (map kept_key kept) number None ≡ Some key → (flow : KeptFlow) × ((get_or kept number None ≡ Some flow) × (flow.key ≡ key) × (number < length kept))
key_there [] number key is = cc
key_there (None ∷ kept) zero key is = cc
key_there (Some flow ∷ kept) zero key is = (flow, (refl, cc, omega arith))
key_there (k ∷ kept) (suc number) key is =
    let found = key_there kept number key is in (found.0, (found.1.0, found.1.1, omega (arith, found.1.2)))

is_some_flow : (kept : KeptFlow) (found : Option Flow) → BothOrNone KeepsFlow (Some kept) found → (flow : Flow) × ((found ≡ Some flow) × KeepsFlow kept flow)
is_some_flow kept None both = absurd both
is_some_flow kept (Some flow) both = (flow, (refl, both))

fault_known : (flows : Flows) (flow : Flow) (packet : Packet) (number at : ℕ) → slot_of (flow_keys flows) packet.flow ≡ Known number → flow_at flows number ≡ Some flow → flow_fault flows packet at ≡ length_fault flow.sessions packet at
fault_known flows flow packet number at slot is = rw (slot, is) refl

next_known : (flows : Flows) (flow : Flow) (packet : Packet) (number : ℕ) → slot_of (flow_keys flows) packet.flow ≡ Known number → flow_at flows number ≡ Some flow → flows_with flows packet ≡ put_at flows number (grown_flow flow.sessions packet)
next_known flows flow packet number slot is = rw (slot, is) refl

-- the flows, where that of the packet is known
record Knows (kept : List (Option KeptFlow)) (flow : KeptFlow) (packet : Packet) (number at : ℕ) (flows : Flows) : Type 0 where
  known : Flow
  keeps : KeepsFlow flow known
  fault : flow_fault flows packet at ≡ length_fault known.sessions packet at
  next : flows_with flows packet ≡ slice_set flows number (Some (grown_flow known.sessions packet))

put_within : {X : Type 0} (xs : List (Option X)) (place : ℕ) (x : X) → place < length xs → put_at xs place x ≡ slice_set xs place (Some x)
put_within xs place x within = (let yes : nat_lt place (length xs) ≡ true = grind (arith, nat_tests) in rw yes refl)

knows : (kept : List (Option KeptFlow)) (flow : KeptFlow) (packet : Packet) (number at : ℕ) (flows : Flows) → slot_of (kept_keys kept) packet.flow ≡ Known number → get_or kept number None ≡ Some flow → number < length kept → KeepsFlows kept flows → Knows kept flow packet number at flows
knows kept flow packet number at flows slot is within pairs =
    let slot_is : slot_of (flow_keys flows) packet.flow ≡ Known number = ap (λ (keys : Keys). slot_of keys packet.flow) (sym (keys_same kept flows pairs)) ∙ slot in
    let found = is_some_flow flow (get_or flows number None) (subst (λ (o : Option KeptFlow). BothOrNone KeepsFlow o (get_or flows number None)) is (pairs_at kept flows number pairs)) in
    let inside : number < length flows = omega (arith, within, pairs_length (BothOrNone KeepsFlow) kept flows pairs) in
    record {
      known = found.0;
      keeps = found.1.1;
      fault = fault_known flows found.0 packet number at slot_is found.1.0;
      next = next_known flows found.0 packet number slot_is found.1.0 ∙ put_within flows number (grown_flow found.0.sessions packet) inside;
    }

both_same : (kept : Option KeptFlow) (known : Option Flow) (flow next : KeptFlow) → kept ≡ Some flow → BothOrNone KeepsFlow kept known → ((other : Flow) → KeepsFlow flow other → KeepsFlow next other) → BothOrNone KeepsFlow (Some next) known
both_same None known flow next is both other = cc
both_same (Some k) None flow next is both other = absurd both
both_same (Some k) (Some known) flow next is both other = (let same : k ≡ flow = cc in other known (subst (λ (x : KeptFlow). KeepsFlow x known) same both))

-- a flow that is kept otherwise
put_same : (kept : List (Option KeptFlow)) (flows : Flows) (flow next : KeptFlow) (number : ℕ) → get_or kept number None ≡ Some flow → KeepsFlows kept flows → ((other : Flow) → KeepsFlow flow other → KeepsFlow next other) → KeepsFlows (slice_set kept number (Some next)) flows
put_same [] flows flow next number is pairs other = cc
put_same (k ∷ kept) [] flow next number is pairs other = absurd pairs
put_same (k ∷ kept) (known ∷ flows) flow next zero is pairs other = (both_same k known flow next is pairs.0 other, pairs.1)
put_same (k ∷ kept) (known ∷ flows) flow next (suc number) is pairs other = (pairs.0, put_same kept flows flow next number is pairs.1 other)

pub flows_known : (kept new : List (Option KeptFlow)) (flow : KeptFlow) (packet : Packet) (number at : ℕ) (result : Result ⊤ (NotTaken PcapFault)) → slot_of (kept_keys kept) packet.flow ≡ Known number → get_or kept number None ≡ Some flow → flow.key ≡ packet.flow → number < length kept
    → MeetsFlow number packet at kept new result → MeetsFlows packet at kept new result
flows_known kept new flow packet number at (Ok u) slot is key within goes_on = λ flows pairs.
    let k = knows kept flow packet number at flows slot is within pairs in
    let gone = goes_on flow is in
    let met = gone.1.2 k.known.sessions k.keeps.sessions in (
      k.fault ∙ met.0,
      rw (gone.1.0, k.next) (pairs_set (BothOrNone KeepsFlow) kept flows number (Some gone.0) (Some (grown_flow k.known.sessions packet)) pairs (record { key = gone.1.1 ∙ key; sessions = met.1 })),
    )
flows_known kept new flow packet number at (Err (Fault fault)) slot is key within goes_on = λ flows pairs.
    let k = knows kept flow packet number at flows slot is within pairs in
    let gone = goes_on flow is in
    let met = gone.1.2 k.known.sessions k.keeps.sessions in
    (k.fault ∙ met.0, rw (gone.1.0) (put_same kept flows flow gone.0 number is pairs (λ (other : Flow) (keeps : KeepsFlow flow other). record { key = gone.1.1 ∙ keeps.key; sessions = (gone.1.2 other.sessions keeps.sessions).1 })))
flows_known kept new flow packet number at (Err NoMemory) slot is key within goes_on = λ flows pairs.
    let gone = goes_on flow is in
    rw (gone.1.0) (put_same kept flows flow gone.0 number is pairs (λ (other : Flow) (keeps : KeepsFlow flow other). record { key = gone.1.1 ∙ keeps.key; sessions = gone.1.2 other.sessions keeps.sessions }))

pairs_none : (count : ℕ) → AllPairs (BothOrNone KeepsFlow) (replicate count None) (replicate count None)
pairs_none zero = tt
pairs_none (suc count) = (tt, pairs_none count)

put_beyond : {X : Type 0} (xs : List (Option X)) (place : ℕ) (x : X) → length xs ≤ place → put_at xs place x ≡ xs ++ (replicate (place - length xs) None ++ Some x ∷ [])
put_beyond xs place x beyond = (let no : nat_lt place (length xs) ≡ false = grind (arith, nat_tests) in rw no refl)

pairs_put : (kept : List (Option KeptFlow)) (flows : Flows) (number : ℕ) (k : KeptFlow) (flow : Flow) → KeepsFlows kept flows → KeepsFlow k flow → KeepsFlows (put_at kept number k) (put_at flows number flow)
pairs_put kept flows number k flow pairs here =
    let same : length kept ≡ length flows = pairs_length (BothOrNone KeepsFlow) kept flows pairs in
    elim (cases_lt number (length kept)) [
      | inl within ↦ rw (put_within kept number k within, put_within flows number flow (omega (arith, within, same))) (pairs_set (BothOrNone KeepsFlow) kept flows number (Some k) (Some flow) pairs here)
      | inr beyond ↦ rw (put_beyond kept number k beyond, put_beyond flows number flow (omega (arith, beyond, same)), ← same)
          (pairs_append (BothOrNone KeepsFlow) kept (replicate (number - length kept) None ++ Some k ∷ []) flows (replicate (number - length kept) None ++ Some flow ∷ []) pairs
          (pairs_append (BothOrNone KeepsFlow) (replicate (number - length kept) None) (Some k ∷ []) (replicate (number - length kept) None) (Some flow ∷ []) (pairs_none (number - length kept)) (here, tt)))
    ]

slot_same : (kept : List (Option KeptFlow)) (flows : Flows) (packet : Packet) (slot : Slot) → KeepsFlows kept flows → slot_of (kept_keys kept) packet.flow ≡ slot → slot_of (flow_keys flows) packet.flow ≡ slot
slot_same kept flows packet slot pairs is = ap (λ (keys : Keys). slot_of keys packet.flow) (sym (keys_same kept flows pairs)) ∙ is

pub flows_new : (kept new : List (Option KeptFlow)) (packet : Packet) (number at : ℕ) (result : Result ⊤ (NotTaken PcapFault)) → slot_of (kept_keys kept) packet.flow ≡ New number → BeginsFlow number packet kept new result → MeetsFlows packet at kept new result
flows_new kept new packet number at (Ok u) slot begun = λ flows pairs.
    let is : slot_of (flow_keys flows) packet.flow ≡ New number = slot_same kept flows packet (New number) pairs slot in
    (rw is refl, rw (begun.1.0, is) (pairs_put kept flows number begun.0 (grown_flow [] packet) pairs begun.1.1))
flows_new kept new packet number at (Err (Fault fault)) slot begun = absurd begun
flows_new kept new packet number at (Err NoMemory) slot begun = λ flows pairs. rw begun pairs

pub flows_full : (kept : List (Option KeptFlow)) (packet : Packet) (at : ℕ) → slot_of (kept_keys kept) packet.flow ≡ Full → MeetsFlows packet at kept kept (Err (Fault (FlowCount at)))
flows_full kept packet at slot = λ flows pairs.
    let is : slot_of (flow_keys flows) packet.flow ≡ Full = slot_same kept flows packet Full pairs slot in
    (rw is refl, pairs)
