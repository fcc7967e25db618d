-- A stream is not longer than the payloads of its packets, and has bytes alone if they do.
use Rattle.std.proofs.Common.{◌≡◌, ℕ, zero, suc, ◌+◌, ◌^◌, ◌<◌, ◌≤◌, List, [], ◌∷◌, length, refl, inl, inr, arith}
use Rattle.std.specs.Prelude.{Option, Some, None, Bool, true, false, if◌then◌else◌, ◌==◌, ⊤}
use Rattle.std.specs.List.{AllByRecursion}
use Rattle.std.proofs.lemmas.Bool.{cases_eq}
use Rattle.std.proofs.lemmas.Bool.Decides.{nat_tests}
use Rattle.zy_read.specs.Bytes.{AreBytes}
use Rattle.zy_pcap.specs.Packet.{Packet}
use Rattle.zy_pcap.specs.Session.{offset, byte_from, byte_of, byte_at, byte_or_other, longest_from, longest}
use Rattle.zy_pcap.specs.Sizes.{payload_bytes}

-- ---- how many offsets have a byte

abbrev one_if : Option ℕ → ℕ
one_if None = 0
one_if (Some byte) = 1

-- of `n` offsets from one on
abbrev count : (ℕ → Option ℕ) → ℕ → ℕ → ℕ
count f at zero = 0
count f at (suc n) = one_if (f at) + count f (at + 1) n

longest_by : (f : ℕ → Option ℕ) (at n : ℕ) (byte : Option ℕ) → f at ≡ byte → length (longest_from f (at + 1) n) ≤ count f (at + 1) n → length (longest_from f at (suc n)) ≤ count f at (suc n)
longest_by f at n None is rest = rw (is, longest_from) (omega arith)
longest_by f at n (Some byte) is rest = rw (is, longest_from) (omega (arith, rest))

longest_few : (f : ℕ → Option ℕ) (at n : ℕ) → length (longest_from f at n) ≤ count f at n
longest_few f at zero = omega arith
longest_few f at (suc n) = longest_by f at n (f at) refl (longest_few f (at + 1) n)

none_few : (f : ℕ → Option ℕ) (at n : ℕ) → ((d : ℕ) → f d ≡ None) → count f at n ≤ 0
none_few f at zero none = omega arith
none_few f at (suc n) none = rw (none at) (omega (arith, none_few f (at + 1) n none))

-- where one has a byte, one of two others has one
both_few : (h f g : ℕ → Option ℕ) (at n : ℕ) → ((d : ℕ) → one_if (h d) ≤ one_if (f d) + one_if (g d)) → count h at n ≤ count f at n + count g at n
both_few h f g at zero most = omega arith
both_few h f g at (suc n) most = omega (arith, most at, both_few h f g (at + 1) n most)

one_first : (a b : Option ℕ) → one_if (byte_or_other a b) ≤ one_if a + one_if b
one_first None b = omega arith
one_first (Some x) b = omega arith

-- ---- the bytes of a packet

-- a byte at one offset
abbrev single : ℕ → ℕ → ℕ → Option ℕ
single there byte at = if there == at then Some byte else None

one_single : (test : Bool) (byte : ℕ) → one_if (if test then Some byte else None) ≤ 1
one_single true byte = omega arith
one_single false byte = omega arith

one_choice : (test : Bool) (byte : ℕ) (rest : Option ℕ) → one_if (if test then Some byte else rest) ≤ one_if (if test then Some byte else None) + one_if rest
one_choice true byte rest = omega arith
one_choice false byte rest = omega arith

past : (there byte at n : ℕ) → there < at → count (single there byte) at n ≤ 0
past there byte at zero low = omega arith
past there byte at (suc n) low =
    let other : (there == at) ≡ false = grind (arith, nat_tests) in
    rw other (omega (arith, past there byte (at + 1) n (omega (arith, low))))

single_few : (there byte at n : ℕ) → count (single there byte) at n ≤ 1
single_few there byte at zero = omega arith
single_few there byte at (suc n) =
    elim (cases_eq there at) [
      | inl here ↦ omega (arith, one_single (there == at) byte, past there byte (at + 1) n (omega (arith, here)))
      | inr apart ↦ (let other : (there == at) ≡ false = grind (arith, nat_tests) in
          rw other (omega (arith, single_few there byte (at + 1) n)))
    ]

bytes_few : (first packet : Packet) (index : ℕ) (bytes : List ℕ) (at n : ℕ) → count (byte_from first packet index bytes) at n ≤ length bytes
bytes_few first packet index [] at n = none_few (byte_from first packet index []) at n (λ d. refl)
bytes_few first packet index (byte ∷ bytes) at n =
    let most = both_few (byte_from first packet index (byte ∷ bytes)) (single (offset first packet index) byte) (byte_from first packet (index + 1) bytes) at n
    (λ d. one_choice (offset first packet index == d) byte (byte_from first packet (index + 1) bytes d)) in
    omega (arith, most, single_few (offset first packet index) byte at n, bytes_few first packet (index + 1) bytes at n)

-- ---- the stream

packets_few : (first : Packet) (packets : List Packet) (at n : ℕ) → count (byte_at first packets) at n ≤ payload_bytes packets
packets_few first [] at n = none_few (byte_at first []) at n (λ d. refl)
packets_few first (packet ∷ packets) at n =
    let most = both_few (byte_at first (packet ∷ packets)) (byte_of first packet) (byte_at first packets) at n (λ d. one_first (byte_of first packet d) (byte_at first packets d)) in
    let one : count (byte_of first packet) at n ≤ length packet.payload = bytes_few first packet 0 packet.payload at n in
    omega (arith, most, one, packets_few first packets at n)

stream_most : (first : Packet) (packets : List Packet) (n : ℕ) → length (longest_from (byte_at first packets) 0 n) ≤ payload_bytes packets
stream_most first packets n = omega (arith, longest_few (byte_at first packets) 0 n, packets_few first packets 0 n)

pub stream_few : (first : Packet) (packets : List Packet) → length (longest (byte_at first packets)) ≤ payload_bytes packets
unfolding longest
stream_few first packets = stream_most first packets (2 ^ 31)

-- ---- bytes alone

-- it is a byte, if it is there
abbrev IsSmall : Option ℕ → Type 0
IsSmall None = ⊤
IsSmall (Some byte) = byte < 256

small_choice : (test : Bool) (byte : ℕ) (rest : Option ℕ) → byte < 256 → IsSmall rest → IsSmall (if test then Some byte else rest)
small_choice true byte rest small others = small
small_choice false byte rest small others = others

small_first : (a b : Option ℕ) → IsSmall a → IsSmall b → IsSmall (byte_or_other a b)
small_first None b one other = other
small_first (Some x) b one other = one

bytes_small : (first packet : Packet) (index : ℕ) (bytes : List ℕ) (at : ℕ) → AreBytes bytes → IsSmall (byte_from first packet index bytes at)
bytes_small first packet index [] at small = tt
bytes_small first packet index (byte ∷ bytes) at small =
    small_choice (offset first packet index == at) byte (byte_from first packet (index + 1) bytes at) small.0 (bytes_small first packet (index + 1) bytes at small.1)

packets_small : (first : Packet) (packets : List Packet) (at : ℕ) → AllByRecursion (λ (packet : Packet). AreBytes packet.payload) packets → IsSmall (byte_at first packets at)
packets_small first [] at small = tt
packets_small first (packet ∷ packets) at small =
    small_first (byte_of first packet at) (byte_at first packets at) (bytes_small first packet 0 packet.payload at small.0) (packets_small first packets at small.1)

longest_small_by : (f : ℕ → Option ℕ) (at n : ℕ) (byte : Option ℕ) → f at ≡ byte → IsSmall byte → AreBytes (longest_from f (at + 1) n) → AreBytes (longest_from f at (suc n))
longest_small_by f at n None is small rest = rw (is, longest_from) tt
longest_small_by f at n (Some byte) is small rest = rw (is, longest_from) (small, rest)

longest_small : (f : ℕ → Option ℕ) (at n : ℕ) → ((d : ℕ) → IsSmall (f d)) → AreBytes (longest_from f at n)
longest_small f at zero small = tt
longest_small f at (suc n) small = longest_small_by f at n (f at) refl (small at) (longest_small f (at + 1) n small)

pub stream_small : (first : Packet) (packets : List Packet) → AllByRecursion (λ (packet : Packet). AreBytes packet.payload) packets → AreBytes (longest (byte_at first packets))
unfolding longest
stream_small first packets small = longest_small (byte_at first packets) 0 (2 ^ 31) (λ d. packets_small first packets d small)
