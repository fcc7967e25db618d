-- Sessions: offsets without wrapping, and the bytes of a session with one further packet.
use Rattle.std.proofs.Common.{◌≡◌, ℕ, zero, suc, ◌+◌, ◌-◌, ◌^◌, ◌<◌, ◌≤◌, List, [], ◌∷◌, length, drop, refl, sym, ap, ◌∙◌, inl, inr, arith}
use Rattle.std.specs.Prelude.{Some, None, Bool, true, false, ◌⊎◌, ◌||◌, if◌then◌else◌, ◌==◌}
use Rattle.std.proofs.lemmas.Bool.{cases_lt, cases_eq}
use Rattle.std.proofs.lemmas.Bool.Decides.{nat_tests}
use Rattle.zy_pcap.specs.Packet.{Packet}
use Rattle.zy_pcap.specs.Session.{first_number, offset, is_far, reaches_with, byte_from, byte_of}
use Rattle.zy_pcap.specs.Held.{covered}
use Rattle.zy_pcap.specs.Kept.{apart}
use Rattle.zy_pcap.proofs.CoverLemmas.{covered_in, covered_below, covered_above}

-- ---- offsets

-- the offset of a packet's first payload byte
abbrev pub start : Packet → Packet → ℕ
start first packet = apart (first_number first) (first_number packet)

offset_on : (first packet : Packet) (index : ℕ) → start first packet + index < 2 ^ 32 → offset first packet index ≡ start first packet + index
offset_on first packet index room = omega (arith, room)

offset_wraps : (first packet : Packet) (index : ℕ) → 2 ^ 32 ≤ start first packet + index → index < 2 ^ 32 → offset first packet index ≡ start first packet + index - 2 ^ 32
offset_wraps first packet index beyond few = omega (arith, beyond, few)

-- ---- refused offsets

or_true : (b : Bool) → (b || true) ≡ true
or_true true = refl
or_true false = refl

far_is : (at : ℕ) → 2 ^ 30 ≤ at → at < 2 ^ 31 → is_far at ≡ true
far_is at low high = grind (arith, nat_tests)

near_is : (at : ℕ) → (at < 2 ^ 30) ⊎ (2 ^ 31 ≤ at) → is_far at ≡ false
near_is at (inl below) = grind (arith, nat_tests)
near_is at (inr above) = grind (arith, nat_tests)

pub near_ends : (first packet : Packet) (count : ℕ) → start first packet + count ≤ 2 ^ 30 → reaches_with first packet count ≡ false
near_ends first packet zero near = refl
near_ends first packet (suc count) near =
    rw (near_ends first packet count (omega (arith, near)), offset_on first packet count (omega (arith, near)), near_is (start first packet + count) (inl (omega (arith, near)))) refl

pub before_ends : (first packet : Packet) (count : ℕ) → 2 ^ 31 ≤ start first packet → count ≤ 65536 → reaches_with first packet count ≡ false
before_ends first packet zero before few = refl
before_ends first packet (suc count) before few =
    let rest : reaches_with first packet count ≡ false = before_ends first packet count before (omega (arith, few)) in
    elim (cases_lt (start first packet + count) (2 ^ 32)) [
      | inl on ↦ rw (rest, offset_on first packet count on, near_is (start first packet + count) (inr (omega (arith, before)))) refl
      | inr wraps ↦ rw (rest, offset_wraps first packet count wraps (omega (arith, few)), near_is (start first packet + count - 2 ^ 32) (inl (omega (arith, few)))) refl
    ]

reaches_at : (first packet : Packet) (count index : ℕ) → index < count → is_far (offset first packet index) ≡ true → reaches_with first packet count ≡ true
reaches_at first packet zero index within far = absurd (omega (arith, within))
reaches_at first packet (suc count) index within far =
    elim (cases_lt index count) [
      | inl earlier ↦ rw (reaches_at first packet count index earlier far) refl
      | inr last ↦ (let same : index ≡ count = omega (arith, within, last) in
          let here : is_far (offset first packet count) ≡ true = rw (← same) far in
          rw here (or_true (reaches_with first packet count)))
    ]

pub far_reaches : (first packet : Packet) (count : ℕ) → start first packet < 2 ^ 31 → 0 < count → 2 ^ 30 < start first packet + count → reaches_with first packet count ≡ true
far_reaches first packet count within some far =
    elim (cases_lt (start first packet) (2 ^ 30)) [
      | inl near ↦ (let index : ℕ = 2 ^ 30 - start first packet in
          let there : offset first packet index ≡ 2 ^ 30 = offset_on first packet index (omega (arith, near)) ∙ omega (arith, near) in
          reaches_at first packet count index (omega (arith, near, far)) (rw there refl))
      | inr already ↦ reaches_at first packet count 0 some (rw (offset_on first packet 0 (omega (arith, within))) (far_is (start first packet + 0) (omega (arith, already)) (omega (arith, within))))
    ]

-- ---- the bytes of a packet

pub none_covered : (from at : ℕ) → covered [] from at ≡ None
none_covered from at = elim (cases_lt at from) [ inl below ↦ covered_below [] from at below | inr low ↦ covered_above [] from at (omega (arith, low)) ]

drop_none : (n : ℕ) → drop n [] ≡ (let none : List ℕ = [] in none)
drop_none zero = refl
drop_none (suc n) = refl

covered_cons : (byte : ℕ) (bytes : List ℕ) (from at : ℕ) → covered (byte ∷ bytes) from at ≡ (if from == at then Some byte else covered bytes (from + 1) at)
covered_cons byte bytes from at =
    elim (cases_eq from at) [
      | inl here ↦ (let none : at - from ≡ 0 = omega (arith, here) in rw (covered_in (byte ∷ bytes) from at (omega (arith, here)) (omega (arith, here)), none, here) (grind (arith, nat_tests)))
      | inr other ↦ elim (cases_lt at from) [
        | inl below ↦ rw (covered_below (byte ∷ bytes) from at below, covered_below bytes (from + 1) at (omega (arith, below))) (grind (arith, nat_tests))
        | inr low ↦ elim (cases_lt at (from + suc (length bytes))) [
          | inl high ↦ (let one : at - from ≡ suc (at - (from + 1)) = omega (arith, low, other) in
              rw (covered_in (byte ∷ bytes) from at low high, covered_in bytes (from + 1) at (omega (arith, low, other)) (omega (arith, high)), one) (grind (arith, nat_tests)))
          | inr above ↦ rw (covered_above (byte ∷ bytes) from at above, covered_above bytes (from + 1) at (omega (arith, above))) (grind (arith, nat_tests))
        ]
      ]
    ]

bytes_on : (first packet : Packet) (index : ℕ) (bytes : List ℕ) (at : ℕ) → start first packet + index + length bytes ≤ 2 ^ 32 → byte_from first packet index bytes at ≡ covered bytes (start first packet + index) at
bytes_on first packet index [] at room = sym (none_covered (start first packet + index) at)
bytes_on first packet index (byte ∷ bytes) at room =
    let next : start first packet + (index + 1) ≡ start first packet + index + 1 = omega arith in
    rw (offset_on first packet index (omega (arith, room)), bytes_on first packet (index + 1) bytes at (omega (arith, room)), next) (sym (covered_cons byte bytes (start first packet + index) at))

bytes_wrapped : (first packet : Packet) (index : ℕ) (bytes : List ℕ) (at : ℕ) → 2 ^ 32 ≤ start first packet + index → index + length bytes ≤ 65536 → byte_from first packet index bytes at ≡ covered bytes (start first packet + index - 2 ^ 32) at
bytes_wrapped first packet index [] at wraps few = sym (none_covered (start first packet + index - 2 ^ 32) at)
bytes_wrapped first packet index (byte ∷ bytes) at wraps few =
    let next : start first packet + (index + 1) - 2 ^ 32 ≡ start first packet + index - 2 ^ 32 + 1 = omega (arith, wraps) in
    rw (offset_wraps first packet index wraps (omega (arith, few)), bytes_wrapped first packet (index + 1) bytes at (omega (arith, wraps)) (omega (arith, few)), next) (sym (covered_cons byte bytes (start first packet + index - 2 ^ 32) at))

bytes_before : (first packet : Packet) (index : ℕ) (bytes : List ℕ) (at : ℕ) → at < 2 ^ 31 → 2 ^ 31 ≤ start first packet → start first packet + index ≤ 2 ^ 32 → index + length bytes ≤ 65536
    → byte_from first packet index bytes at ≡ covered (drop (2 ^ 32 - (start first packet + index)) bytes) 0 at
bytes_before first packet index [] at low before on few =
    rw (drop_none (2 ^ 32 - (start first packet + index))) (sym (none_covered 0 at))
bytes_before first packet index (byte ∷ bytes) at low before on few =
    elim (cases_eq (start first packet + index) (2 ^ 32)) [
      | inl now ↦ (let none : 2 ^ 32 - (start first packet + index) ≡ 0 = omega (arith, now) in
          let from : start first packet + index - 2 ^ 32 ≡ 0 = omega (arith, now) in
          rw (bytes_wrapped first packet index (byte ∷ bytes) at (omega (arith, now)) few, none, from) refl)
      | inr later ↦ (let one : 2 ^ 32 - (start first packet + index) ≡ suc (2 ^ 32 - (start first packet + (index + 1))) = omega (arith, on, later) in
          let other : ((start first packet + index) == at) ≡ false = grind (arith, nat_tests) in
          rw (offset_on first packet index (omega (arith, on, later)), other, one) (bytes_before first packet (index + 1) bytes at low before (omega (arith, on, later)) (omega (arith, few))))
    ]

-- a packet's bytes, where it begins in the session
pub byte_near : (first packet : Packet) (at : ℕ) → start first packet + length packet.payload ≤ 2 ^ 32 → byte_of first packet at ≡ covered packet.payload (start first packet) at
byte_near first packet at room =
    let same : start first packet + 0 ≡ start first packet = omega arith in
    bytes_on first packet 0 packet.payload at (omega (arith, room)) ∙ ap (λ (n : ℕ). covered packet.payload n at) same

-- where it begins before
pub byte_before : (first packet : Packet) (at : ℕ) → at < 2 ^ 31 → 2 ^ 31 ≤ start first packet → length packet.payload ≤ 65536 → byte_of first packet at ≡ covered (drop (2 ^ 32 - start first packet) packet.payload) 0 at
byte_before first packet at low before few =
    let same : start first packet + 0 ≡ start first packet = omega arith in
    bytes_before first packet 0 packet.payload at low before (omega arith) (omega (arith, few))
    ∙ ap (λ (n : ℕ). covered (drop (2 ^ 32 - n) packet.payload) 0 at) same
