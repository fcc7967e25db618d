-- Costs: if a session costs one number and a packet another, the flows of some packets cost at most both numbers for each
-- packet.
use Rattle.std.proofs.Common.{◌≡◌, ℕ, zero, suc, ◌+◌, ◌-◌, ◌≤◌, List, [], ◌∷◌, ◌++◌, length, replicate, refl, ap, inl, inr, arith}
use Rattle.std.specs.Prelude.{Option, Some, None, Bool, true, false, nat_lt, slice_get, slice_set, slice_index_or}
use Rattle.std.proofs.lemmas.Bool.{cases_lt}
use Rattle.std.proofs.lemmas.Bool.Decides.{nat_tests}
use Rattle.zy_pcap.specs.declared.slot.Slot.{Slot}
use Rattle.zy_pcap.specs.declared.slot.Slot.TheVariants.{Known, New, Full}
use Rattle.zy_pcap.specs.Packet.{Packet}
use Rattle.zy_pcap.specs.Session.{Session, session_begun_by, begins, current, sessions_by, with_packet}
use Rattle.zy_pcap.specs.Flow.{Flow, Flows, flow_at, sessions_in, slot_of, flow_keys, put_at, grown_flow, joined_at, flows_with, flows_after, flows_of}

-- ---- costs

abbrev pub packets_cost : (Packet → ℕ) → List Packet → ℕ
packets_cost w [] = 0
packets_cost w (packet ∷ packets) = w packet + packets_cost w packets

abbrev pub session_cost : ℕ → (Packet → ℕ) → Session → ℕ
session_cost c w session = c + packets_cost w session.packets

abbrev pub sessions_cost : ℕ → (Packet → ℕ) → List Session → ℕ
sessions_cost c w [] = 0
sessions_cost c w (session ∷ sessions) = session_cost c w session + sessions_cost c w sessions

abbrev pub flow_cost : ℕ → (Packet → ℕ) → Option Flow → ℕ
flow_cost c w flow = sessions_cost c w (sessions_in flow)

abbrev pub flows_cost : ℕ → (Packet → ℕ) → Flows → ℕ
flows_cost c w [] = 0
flows_cost c w (flow ∷ flows) = flow_cost c w flow + flows_cost c w flows

pub packets_append : (w : Packet → ℕ) (xs ys : List Packet) → packets_cost w (xs ++ ys) ≡ packets_cost w xs + packets_cost w ys
packets_append w [] ys = omega arith
packets_append w (x ∷ xs) ys = omega (arith, packets_append w xs ys)

module _ (c : ℕ) (w : Packet → ℕ) where
  -- ---- sessions

  sessions_append : (xs ys : List Session) → sessions_cost c w (xs ++ ys) ≡ sessions_cost c w xs + sessions_cost c w ys
  sessions_append [] ys = omega arith
  sessions_append (x ∷ xs) ys = omega (arith, sessions_append xs ys)

  session_set : (sessions : List Session) (i : ℕ) (old new : Session) → slice_get sessions i ≡ Some old
      → sessions_cost c w (slice_set sessions i new) + session_cost c w old ≡ sessions_cost c w sessions + session_cost c w new
  session_set [] i old new is = cc
  session_set (session ∷ sessions) zero old new is =
      let same : session ≡ old = cc in
      let cost : session_cost c w session ≡ session_cost c w old = ap (session_cost c w) same in
      omega (arith, cost)
  session_set (session ∷ sessions) (suc i) old new is = omega (arith, session_set sessions i old new is)

  begun_cost : (sessions : List Session) (packet : Packet) → sessions_cost c w (sessions ++ session_begun_by packet ∷ []) ≤ sessions_cost c w sessions + (c + w packet)
  begun_cost sessions packet = omega (arith, sessions_append sessions (session_begun_by packet ∷ []))

  next_cost : (sessions : List Session) (session : Session) (packet : Packet) → current sessions ≡ Some session
      → sessions_cost c w (slice_set sessions (length sessions - 1) (record session { packets = session.packets ++ packet ∷ [] })) ≤ sessions_cost c w sessions + (c + w packet)
  next_cost sessions session packet is =
      omega (arith, session_set sessions (length sessions - 1) session (record session { packets = session.packets ++ packet ∷ [] }) is, packets_append w session.packets (packet ∷ []))

  some_cost : (sessions : List Session) (session : Session) (packet : Packet) (test : Bool) → current sessions ≡ Some session → begins session.first packet ≡ test
      → sessions_cost c w (sessions_by (Some session) sessions packet) ≤ sessions_cost c w sessions + (c + w packet)
  some_cost sessions session packet true is begins_it = rw begins_it (begun_cost sessions packet)
  some_cost sessions session packet false is begins_it = rw begins_it (next_cost sessions session packet is)

  sessions_by_cost : (sessions : List Session) (packet : Packet) (found : Option Session) → current sessions ≡ found → sessions_cost c w (sessions_by found sessions packet) ≤ sessions_cost c w sessions + (c + w packet)
  sessions_by_cost sessions packet None is = begun_cost sessions packet
  sessions_by_cost sessions packet (Some session) is = some_cost sessions session packet (begins session.first packet) is refl

  with_cost : (sessions : List Session) (packet : Packet) → sessions_cost c w (with_packet sessions packet) ≤ sessions_cost c w sessions + (c + w packet)
  with_cost sessions packet = sessions_by_cost sessions packet (current sessions) refl

  -- ---- flows

  flows_append : (xs ys : Flows) → flows_cost c w (xs ++ ys) ≡ flows_cost c w xs + flows_cost c w ys
  flows_append [] ys = omega arith
  flows_append (x ∷ xs) ys = omega (arith, flows_append xs ys)

  flow_set : (flows : Flows) (i : ℕ) (new : Option Flow) → flows_cost c w (slice_set flows i new) + flow_cost c w (slice_index_or flows i None) ≤ flows_cost c w flows + flow_cost c w new
  flow_set [] i new = omega arith
  flow_set (flow ∷ flows) zero new = omega arith
  flow_set (flow ∷ flows) (suc i) new = omega (arith, flow_set flows i new)

  none_cost : (n : ℕ) → flows_cost c w (replicate n None) ≤ 0
  none_cost zero = omega arith
  none_cost (suc n) = omega (arith, none_cost n)

  past_cost : (flows : Flows) (i : ℕ) → length flows ≤ i → flow_cost c w (slice_index_or flows i None) ≤ 0
  past_cost [] i low = omega arith
  past_cost (flow ∷ flows) zero low = absurd (omega (arith, low))
  past_cost (flow ∷ flows) (suc i) low = past_cost flows i (omega (arith, low))

  put_cost : (flows : Flows) (place : ℕ) (flow : Flow) → flows_cost c w (put_at flows place flow) + flow_cost c w (slice_index_or flows place None) ≤ flows_cost c w flows + sessions_cost c w flow.sessions
  put_cost flows place flow =
      elim (cases_lt place (length flows)) [
        | inl within ↦ (let test : nat_lt place (length flows) ≡ true = grind (arith, nat_tests) in
            rw test (flow_set flows place (Some flow)))
        | inr above ↦ (let test : nat_lt place (length flows) ≡ false = grind (arith, nat_tests) in
            rw test (omega (
              arith,
              flows_append flows (replicate (place - length flows) None ++ Some flow ∷ []),
              flows_append (replicate (place - length flows) None) (Some flow ∷ []),
              none_cost (place - length flows),
              past_cost flows place (omega (arith, above)),
            )))
      ]

  joined_by : (slot : Slot) (flows : Flows) (packet : Packet) → flows_cost c w (joined_at slot flows packet) ≤ flows_cost c w flows + (c + w packet)
  joined_by (Known number) flows packet =
      omega (arith, put_cost flows number (grown_flow (sessions_in (flow_at flows number)) packet), with_cost (sessions_in (flow_at flows number)) packet)
  joined_by (New number) flows packet = omega (arith, put_cost flows number (grown_flow [] packet), with_cost [] packet)
  joined_by Full flows packet = omega arith

  after_cost : (flows : Flows) (packets : List Packet) → flows_cost c w (flows_after flows packets) ≤ flows_cost c w flows + packets_cost (λ (packet : Packet). c + w packet) packets
  after_cost flows [] = omega arith
  after_cost flows (packet ∷ packets) =
      omega (arith, joined_by (slot_of (flow_keys flows) packet.flow) flows packet, after_cost (flows_with flows packet) packets)

  pub flows_few : (packets : List Packet) → flows_cost c w (flows_of packets) ≤ packets_cost (λ (packet : Packet). c + w packet) packets
  unfolding flows_of
  flows_few packets = omega (arith, after_cost [] packets)
