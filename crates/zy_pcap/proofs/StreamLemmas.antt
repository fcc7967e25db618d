-- Streams: those that are kept are those of the packets.
use Rattle.std.proofs.Common.{◌≡◌, ℕ, zero, suc, ◌+◌, ◌^◌, ◌<◌, List, [], ◌∷◌, length, map, refl, ap, ◌∙◌, arith}
use Rattle.std.specs.Prelude.{Option, Some, None}
use Rattle.zy_pcap.specs.declared.kept_session.KeptSession.{KeptSession}
use Rattle.zy_pcap.specs.declared.kept_flow.KeptFlow.{KeptFlow}
use Rattle.zy_pcap.specs.Session.{Session, byte_at, longest_from, longest, session_stream}
use Rattle.zy_pcap.specs.Flow.{Flow, Flows, streams_of_flow, streams_of_flows}
use Rattle.zy_pcap.specs.Pairs.{BothOrNone, AllPairs}
use Rattle.zy_pcap.specs.Held.{byte_held}
use Rattle.zy_pcap.specs.Kept.{KeepsSession, KeepsFlow, KeepsFlows}
use Rattle.zy_pcap.specs.Streams.{kept_stream, streams_by, kept_streams}

same_by : (f g : ℕ → Option ℕ) (at count : ℕ) (byte : Option ℕ) → f at ≡ byte → g at ≡ byte → longest_from f (at + 1) count ≡ longest_from g (at + 1) count → longest_from f at (suc count) ≡ longest_from g at (suc count)
same_by f g at count None one two rest = rw (one, longest_from) (rw (two, longest_from) refl)
same_by f g at count (Some byte) one two rest = rw (one, longest_from) (rw (two, longest_from) (ap (λ (l : List ℕ). byte ∷ l) rest))

-- the same bytes from an offset on, up to one that is none or to the limit
pub longest_same : (f g : ℕ → Option ℕ) (at count : ℕ) → ((d : ℕ) → d < at + count → f d ≡ g d) → longest_from f at count ≡ longest_from g at count
longest_same f g at zero same = refl
longest_same f g at (suc count) same =
    same_by f g at count (g at) (same at (omega arith)) refl (longest_same f g (at + 1) count (λ d low. same d (omega (arith, low))))

stream_same : (kept : KeptSession) (session : Session) → KeepsSession kept session → kept_stream kept ≡ session_stream session
unfolding longest
stream_same kept session keeps = longest_same (byte_held kept.bytes) (byte_at session.first session.packets) 0 (2 ^ 31) (λ d low. keeps.bytes d (omega (arith, low)))

sessions_same : (kept : List KeptSession) (sessions : List Session) → AllPairs KeepsSession kept sessions → map kept_stream kept ≡ map session_stream sessions
sessions_same [] [] pairs = refl
sessions_same [] (session ∷ sessions) pairs = absurd pairs
sessions_same (k ∷ kept) [] pairs = absurd pairs
sessions_same (k ∷ kept) (session ∷ sessions) pairs =
    ap (λ (s : List ℕ). s ∷ map kept_stream kept) (stream_same k session pairs.0) ∙ ap (λ (l : List (List ℕ)). session_stream session ∷ l) (sessions_same kept sessions pairs.1)

flow_same : (kept : Option KeptFlow) (flow : Option Flow) → BothOrNone KeepsFlow kept flow → streams_by kept ≡ streams_of_flow flow
flow_same None None both = refl
flow_same None (Some flow) both = absurd both
flow_same (Some kept) None both = absurd both
flow_same (Some kept) (Some flow) both = sessions_same kept.sessions.items flow.sessions both.sessions

pub streams_same : (kept : List (Option KeptFlow)) (flows : Flows) → KeepsFlows kept flows → kept_streams kept ≡ streams_of_flows flows
unfolding kept_streams
streams_same [] [] pairs = refl
streams_same [] (flow ∷ flows) pairs = absurd pairs
streams_same (k ∷ kept) [] pairs = absurd pairs
streams_same (k ∷ kept) (flow ∷ flows) pairs =
    ap (λ (s : List (List ℕ)). s ∷ kept_streams kept) (flow_same k flow pairs.0) ∙ ap (λ (l : List (List (List ℕ))). streams_of_flow flow ∷ l) (streams_same kept flows pairs.1)

pub streams_length : (kept : List (Option KeptFlow)) → length (kept_streams kept) ≡ length kept
unfolding kept_streams
streams_length [] = refl
streams_length (k ∷ kept) = ap suc (streams_length kept)
