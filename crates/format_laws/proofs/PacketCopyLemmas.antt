-- Streams: those that are kept are those of the packets.
use Rattle.zy_pcap.proofs.StreamLemmas.{longest_same}
use Rattle.std.proofs.Common.{◌≡◌, ℕ, ◌^◌, List, [], ◌∷◌, ◌++◌, refl, sym, ap, ◌∙◌}
use Rattle.std.specs.Prelude.{Option, Some, None, IsSome}
use Rattle.zy_pcap.specs.Session.{longest, byte_of, byte_at, byte_or_other}
use Rattle.zy_pcap.specs.Packet.{Packet}
use Rattle.format_laws.specs.Copies.{stream_of_packets, IsCovered, Agree}
use Rattle.zy_pcap.proofs.CoverLemmas.{first_assoc}

-- the same byte at each offset
pub same_longest : (f g : ℕ → Option ℕ) → ((d : ℕ) → f d ≡ g d) → longest f ≡ longest g
unfolding longest
same_longest f g same = longest_same f g 0 (2 ^ 31) (λ d low. same d)

-- the byte of some packets and then others
byte_append : (first : Packet) (xs ys : List Packet) (at : ℕ) → byte_at first (xs ++ ys) at ≡ byte_or_other (byte_at first xs at) (byte_at first ys at)
byte_append first [] ys at = refl
byte_append first (x ∷ xs) ys at =
    ap (byte_or_other (byte_of first x at)) (byte_append first xs ys at) ∙ sym (first_assoc (byte_of first x at) (byte_at first xs at) (byte_at first ys at))

-- ---- copies

none_there : IsSome (let none : Option ℕ = None in none) → ⊥
none_there is = cc

covered_by : (was more rest : Option ℕ) → (IsSome more → IsSome was) → byte_or_other was (byte_or_other more rest) ≡ byte_or_other was rest
covered_by (Some b) more rest covered = refl
covered_by None None rest covered = refl
covered_by None (Some b) rest covered = absurd (none_there (covered refl))

pub covered_same : (first packet : Packet) (before after : List Packet) → IsCovered first before packet → stream_of_packets first (before ++ packet ∷ after) ≡ stream_of_packets first (before ++ after)
covered_same first packet before after covered =
    same_longest (byte_at first (before ++ packet ∷ after)) (byte_at first (before ++ after))
    (λ at. byte_append first before (packet ∷ after) at ∙ covered_by (byte_at first before at) (byte_of first packet at) (byte_at first after at) (covered at) ∙ sym (byte_append first before after at))

some_first : (a b c : Option ℕ) → IsSome b → IsSome (byte_or_other a (byte_or_other b c))
some_first (Some x) b c is = refl
some_first None (Some y) c is = refl
some_first None None c is = absurd (none_there is)

-- a packet covers its copies
copy_covered : (first packet : Packet) (before between : List Packet) → IsCovered first (before ++ packet ∷ between) packet
copy_covered first packet before between at is =
    rw (byte_append first before (packet ∷ between) at) (some_first (byte_at first before at) (byte_of first packet at) (byte_at first between at) is)

pub copy_same : (first packet : Packet) (before between after : List Packet) → stream_of_packets first ((before ++ packet ∷ between) ++ packet ∷ after) ≡ stream_of_packets first ((before ++ packet ∷ between) ++ after)
copy_same first packet before between after = covered_same first packet (before ++ packet ∷ between) after (copy_covered first packet before between)

-- ---- order

swapped : (a b rest : Option ℕ) → ((x y : ℕ) → a ≡ Some x → b ≡ Some y → x ≡ y) → byte_or_other a (byte_or_other b rest) ≡ byte_or_other b (byte_or_other a rest)
swapped None b rest agree = refl
swapped (Some x) None rest agree = refl
swapped (Some x) (Some y) rest agree = ap (λ (n : ℕ). Some n) (agree x y refl refl)

pub order_same : (first one other : Packet) (before after : List Packet) → Agree first one other → stream_of_packets first (before ++ one ∷ other ∷ after) ≡ stream_of_packets first (before ++ other ∷ one ∷ after)
order_same first one other before after agree =
    same_longest (byte_at first (before ++ one ∷ other ∷ after)) (byte_at first (before ++ other ∷ one ∷ after))
    (λ at. byte_append first before (one ∷ other ∷ after) at
    ∙ ap (byte_or_other (byte_at first before at)) (swapped (byte_of first one at) (byte_of first other at) (byte_at first after at) (agree at))
    ∙ sym (byte_append first before (other ∷ one ∷ after) at))
