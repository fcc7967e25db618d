-- The meaning of a frame: RFC 894, RFC 791 and RFC 9293, the headers of Ethernet, IPv4 and TCP,
-- docs/FORMATS.md, "Recorded packets". The checks are made in the order in which they are listed
-- here.
use Rattle.std.specs.Prelude.{ℕ, ◌+◌, ◌-◌, ◌*◌, ◌/◌, ◌%◌, ◌^◌, ◌==◌, nat_lt, if◌then◌else◌, Bool, not, ◌&&◌, List, []}
use Rattle.std.specs.Prelude.{◌∷◌, ◌++◌, length, take, drop, slice_index}
use Rattle.std.specs.Int.{from_be_bytes, w16, w32}
use Rattle.zy_pcap.specs.declared.pcap_fault.PcapFault.TheVariants.{Ipv6, Vlan, Fragment, Short, Missing}
use Rattle.zy_pcap.specs.declared.judged.Segment.{Segment}
use Rattle.zy_pcap.specs.declared.judged.Judged.{Judged}
use Rattle.zy_pcap.specs.declared.judged.Judged.TheVariants.{Passed, Refused, Taken}

-- ---- numbers

-- the number of two bytes at a place
abbrev pub short_at : List ℕ → ℕ → ℕ
short_at frame at = from_be_bytes w16 (slice_index frame at ∷ slice_index frame (at + 1) ∷ [])

-- the number of four bytes at a place
abbrev pub number_at : List ℕ → ℕ → ℕ
number_at frame at =
    from_be_bytes w32 (slice_index frame at ∷ slice_index frame (at + 1) ∷ slice_index frame (at + 2)
    ∷ slice_index frame (at + 3) ∷ [])

-- ---- places

-- the place of the IP header
abbrev pub ip : ℕ
ip = 14

-- the length of the IP header
abbrev pub ip_size : List ℕ → ℕ
ip_size frame = slice_index frame ip % 16 * 4

-- the place of the TCP header
abbrev pub tcp : List ℕ → ℕ
tcp frame = ip + ip_size frame

-- the length of the TCP header
abbrev pub tcp_size : List ℕ → ℕ
tcp_size frame = slice_index frame (tcp frame + 12) / 16 * 4

-- the length of the IP packet
abbrev pub total : List ℕ → ℕ
total frame = short_at frame (ip + 2)

-- the number of the payload's bytes
abbrev pub payload_size : List ℕ → ℕ
payload_size frame = total frame - (ip_size frame + tcp_size frame)

-- the flag with which a connection begins
abbrev pub is_syn : List ℕ → Bool
is_syn frame = slice_index frame (tcp frame + 13) / 2 % 2 == 1

-- ---- what a frame is

-- source address, destination address, source port, destination port
abbrev pub flow_at : List ℕ → List ℕ
flow_at frame = take 8 (drop 26 frame) ++ take 4 (drop (tcp frame) frame)

-- the packet of a frame
abbrev pub segment_in : List ℕ → Segment
segment_in frame =
    record {
      flow = flow_at frame;
      sequence = number_at frame (tcp frame + 4);
      is_syn = is_syn frame;
      begin = if payload_size frame == 0 then 0 else tcp frame + tcp_size frame;
      size = payload_size frame;
    }

-- what a packet to the port is, by the lengths of its headers and its payload
abbrev pub judge_payload : ℕ → List ℕ → Judged
judge_payload at frame =
    if nat_lt (tcp_size frame) 20 then Refused (Short at)
    else if nat_lt (total frame) (ip_size frame + tcp_size frame) then Refused (Short at)
    else if payload_size frame == 0 then (if is_syn frame then Taken (segment_in frame) else Passed)
    else if nat_lt (length frame) (ip + total frame) then Refused (Missing at)
    else Taken (segment_in frame)

-- what an IP packet that has TCP and is no fragment is, by its port
abbrev pub judge_tcp : ℕ → ℕ → List ℕ → Judged
judge_tcp port at frame =
    if nat_lt (total frame) (ip_size frame + 20) then Refused (Short at)
    else if nat_lt (length frame) (tcp frame + 20) then Refused (Short at)
    else if short_at frame (tcp frame + 2) == port then judge_payload at frame else Passed

-- what an IP packet is, by its header
abbrev pub judge_ip : ℕ → ℕ → List ℕ → Judged
judge_ip port at frame =
    if nat_lt (length frame) (ip + 20) then Refused (Short at)
    else if not (slice_index frame ip / 16 == 4) then Refused (Short at)
    else if nat_lt (ip_size frame) 20 then Refused (Short at)
    else if not (slice_index frame (ip + 9) == 6) then Passed
    else if not (short_at frame (ip + 6) % 2 ^ 14 == 0) then Refused (Fragment at)
    else judge_tcp port at frame

-- what an IPv6 packet is: one that goes to the port by TCP is a fault
abbrev pub judge_ipv6 : ℕ → ℕ → List ℕ → Judged
judge_ipv6 port at frame =
    if nat_lt (length frame) 58 then Passed
    else if slice_index frame 20 == 6 && short_at frame 56 == port then Refused (Ipv6 at)
    else Passed

-- what a frame is, by its type
abbrev pub judge_type : ℕ → ℕ → ℕ → List ℕ → Judged
judge_type type port at frame =
    if type == 0x86dd then judge_ipv6 port at frame
    else if type == 0x8100 then Refused (Vlan at)
    else if type == 0x0800 then judge_ip port at frame
    else Passed

-- what the frame of a record at a place is, for packets to the port
unfoldable pub judge : ℕ → ℕ → List ℕ → Judged
judge port at frame =
    if nat_lt (length frame) ip then Refused (Short at) else judge_type (short_at frame 12) port at frame
