-- A packet fits into its frame: with its payload the frame has the headers of Ethernet, IP and TCP.
use Rattle.std.proofs.Common.{◌≡◌, ℕ, ◌+◌, ◌-◌, ◌≤◌, List, length, drop, refl, arith}
use Rattle.std.specs.Prelude.{Bool, true, false, not, nat_lt, slice_index, slice_range, if◌then◌else◌, ◌==◌, ◌&&◌, ◌%◌, ◌/◌, ◌^◌, ⊤}
use Rattle.std.proofs.lemmas.Bool.Decides.{nat_tests}
use Rattle.std.proofs.lemmas.List.{length-take}
use Rattle.zy_pcap.specs.declared.pcap_fault.PcapFault.TheVariants.{Ipv6, Vlan, Fragment, Short, Missing}
use Rattle.zy_pcap.specs.declared.judged.Judged.{Judged}
use Rattle.zy_pcap.specs.declared.judged.Judged.TheVariants.{Passed, Refused, Taken}
use Rattle.zy_pcap.specs.Frame.{short_at, ip, ip_size, tcp, tcp_size, total, payload_size, is_syn, segment_in, judge_payload, judge_tcp, judge_ip, judge_ipv6, judge_type, judge}

-- a fact of either way that a test goes
pub chosen : {S : Type 0} (P : S → Type 0) (test : Bool) (x y : S) → (test ≡ true → P x) → (test ≡ false → P y) → P (if test then x else y)
chosen P test x y first second =
    elim test as (λ (t : Bool). (t ≡ true → P x) → (t ≡ false → P y) → P (if t then x else y)) [ true ↦ λ one two. one refl | false ↦ λ one two. two refl ] first second

pub not_less : (a b : ℕ) → nat_lt a b ≡ false → b ≤ a
not_less a b is = grind (arith, nat_tests)

pub equal_by : (a b : ℕ) → (a == b) ≡ true → a ≡ b
equal_by a b is = grind (arith, nat_tests)

-- a packet that is taken fits
abbrev pub FitsIn : List ℕ → Judged → Type 0
FitsIn frame (Taken segment) = 54 + length (slice_range frame segment.begin (segment.begin + segment.size)) ≤ length frame
FitsIn frame judged = ⊤

-- ---- the payload

range_few : (frame : List ℕ) (begin size : ℕ) → length (slice_range frame begin (begin + size)) ≤ size
range_few frame begin size = omega (arith, length-take (begin + size - begin) (drop begin frame))

syn_fits : (frame : List ℕ) (begin size head : ℕ) → size ≡ 0 → 20 ≤ head → 14 + head + 20 ≤ length frame → 54 + length (slice_range frame begin (begin + size)) ≤ length frame
syn_fits frame begin size head none some long = omega (arith, range_few frame begin size, none, some, long)

whole_fits : (frame : List ℕ) (begin whole head rest : ℕ) → 20 ≤ head → 20 ≤ rest → head + rest ≤ whole → 14 + whole ≤ length frame
    → 54 + length (slice_range frame begin (begin + (whole - (head + rest)))) ≤ length frame
whole_fits frame begin whole head rest one two within long = omega (arith, range_few frame begin (whole - (head + rest)), one, two, within, long)

payload_fits : (at : ℕ) (frame : List ℕ) → 20 ≤ ip_size frame → tcp frame + 20 ≤ length frame → FitsIn frame (judge_payload at frame)
payload_fits at frame head long =
    chosen (FitsIn frame) (nat_lt (tcp_size frame) 20) (Refused (Short at))
    (if nat_lt (total frame) (ip_size frame + tcp_size frame) then Refused (Short at)
    else if payload_size frame == 0 then (if is_syn frame then Taken (segment_in frame) else Passed)
    else if nat_lt (length frame) (ip + total frame) then Refused (Missing at)
    else Taken (segment_in frame))
    (λ short. tt) (λ rest.
    chosen (FitsIn frame) (nat_lt (total frame) (ip_size frame + tcp_size frame)) (Refused (Short at))
    (if payload_size frame == 0 then (if is_syn frame then Taken (segment_in frame) else Passed)
    else if nat_lt (length frame) (ip + total frame) then Refused (Missing at)
    else Taken (segment_in frame))
    (λ short. tt) (λ within.
    chosen (FitsIn frame) (payload_size frame == 0) (if is_syn frame then Taken (segment_in frame) else Passed)
    (if nat_lt (length frame) (ip + total frame) then Refused (Missing at) else Taken (segment_in frame))
    (λ none. chosen (FitsIn frame) (is_syn frame) (Taken (segment_in frame)) Passed
    (λ syn. syn_fits frame (segment_in frame).begin (payload_size frame) (ip_size frame) (equal_by (payload_size frame) 0 none) head long) (λ other. tt))
    (λ some. chosen (FitsIn frame) (nat_lt (length frame) (ip + total frame)) (Refused (Missing at)) (Taken (segment_in frame))
    (λ missing. tt)
    (λ whole. whole_fits frame (segment_in frame).begin (total frame) (ip_size frame) (tcp_size frame) head (not_less (tcp_size frame) 20 rest)
    (not_less (total frame) (ip_size frame + tcp_size frame) within) (not_less (length frame) (ip + total frame) whole)))))

-- ---- the headers

tcp_fits : (port at : ℕ) (frame : List ℕ) → 20 ≤ ip_size frame → FitsIn frame (judge_tcp port at frame)
tcp_fits port at frame head =
    chosen (FitsIn frame) (nat_lt (total frame) (ip_size frame + 20)) (Refused (Short at))
    (if nat_lt (length frame) (tcp frame + 20) then Refused (Short at)
    else if short_at frame (tcp frame + 2) == port then judge_payload at frame else Passed)
    (λ short. tt) (λ some.
    chosen (FitsIn frame) (nat_lt (length frame) (tcp frame + 20)) (Refused (Short at))
    (if short_at frame (tcp frame + 2) == port then judge_payload at frame else Passed)
    (λ short. tt) (λ long.
    chosen (FitsIn frame) (short_at frame (tcp frame + 2) == port) (judge_payload at frame) Passed
    (λ here. payload_fits at frame head (not_less (length frame) (tcp frame + 20) long)) (λ other. tt)))

ip_fits : (port at : ℕ) (frame : List ℕ) → FitsIn frame (judge_ip port at frame)
ip_fits port at frame =
    chosen (FitsIn frame) (nat_lt (length frame) (ip + 20)) (Refused (Short at))
    (if not (slice_index frame ip / 16 == 4) then Refused (Short at)
    else if nat_lt (ip_size frame) 20 then Refused (Short at)
    else if not (slice_index frame (ip + 9) == 6) then Passed
    else if not (short_at frame (ip + 6) % 2 ^ 14 == 0) then Refused (Fragment at)
    else judge_tcp port at frame)
    (λ short. tt) (λ a.
    chosen (FitsIn frame) (not (slice_index frame ip / 16 == 4)) (Refused (Short at))
    (if nat_lt (ip_size frame) 20 then Refused (Short at)
    else if not (slice_index frame (ip + 9) == 6) then Passed
    else if not (short_at frame (ip + 6) % 2 ^ 14 == 0) then Refused (Fragment at)
    else judge_tcp port at frame)
    (λ short. tt) (λ b.
    chosen (FitsIn frame) (nat_lt (ip_size frame) 20) (Refused (Short at))
    (if not (slice_index frame (ip + 9) == 6) then Passed
    else if not (short_at frame (ip + 6) % 2 ^ 14 == 0) then Refused (Fragment at)
    else judge_tcp port at frame)
    (λ short. tt) (λ head.
    chosen (FitsIn frame) (not (slice_index frame (ip + 9) == 6)) Passed
    (if not (short_at frame (ip + 6) % 2 ^ 14 == 0) then Refused (Fragment at) else judge_tcp port at frame)
    (λ other. tt) (λ c.
    chosen (FitsIn frame) (not (short_at frame (ip + 6) % 2 ^ 14 == 0)) (Refused (Fragment at)) (judge_tcp port at frame)
    (λ part. tt) (λ d. tcp_fits port at frame (not_less (ip_size frame) 20 head))))))

ipv6_fits : (port at : ℕ) (frame : List ℕ) → FitsIn frame (judge_ipv6 port at frame)
ipv6_fits port at frame =
    chosen (FitsIn frame) (nat_lt (length frame) 58) Passed (if slice_index frame 20 == 6 && short_at frame 56 == port then Refused (Ipv6 at) else Passed)
    (λ short. tt) (λ long.
    chosen (FitsIn frame) (slice_index frame 20 == 6 && short_at frame 56 == port) (Refused (Ipv6 at)) Passed (λ here. tt) (λ other. tt))

type_fits : (type port at : ℕ) (frame : List ℕ) → FitsIn frame (judge_type type port at frame)
type_fits type port at frame =
    chosen (FitsIn frame) (type == 0x86dd) (judge_ipv6 port at frame) (if type == 0x8100 then Refused (Vlan at) else if type == 0x0800 then judge_ip port at frame else Passed)
    (λ six. ipv6_fits port at frame) (λ a.
    chosen (FitsIn frame) (type == 0x8100) (Refused (Vlan at)) (if type == 0x0800 then judge_ip port at frame else Passed)
    (λ vlan. tt) (λ b. chosen (FitsIn frame) (type == 0x0800) (judge_ip port at frame) Passed (λ four. ip_fits port at frame) (λ other. tt)))

pub judge_fits : (port at : ℕ) (frame : List ℕ) → FitsIn frame (judge port at frame)
unfolding judge
judge_fits port at frame =
    chosen (FitsIn frame) (nat_lt (length frame) ip) (Refused (Short at)) (judge_type (short_at frame 12) port at frame)
    (λ short. tt) (λ long. type_fits (short_at frame 12) port at frame)
