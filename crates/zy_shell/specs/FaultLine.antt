-- The lines of an input's faults, after the program's name.
use Rattle.std.specs.Prelude.{ℕ, List, codes}
use Rattle.zy_base.specs.declared.file_fault.FileFault.{FileFault}
use Rattle.zy_base.specs.declared.file_fault.FileFault.TheVariants as Files
use Rattle.zy_capture.specs.declared.capture_fault.CaptureFault.{CaptureFault}
use Rattle.zy_capture.specs.declared.capture_fault.CaptureFault.TheVariants.{BadMagic, ConnCount, BadTag, ConnRange}
use Rattle.zy_capture.specs.declared.capture_fault.CaptureFault.TheVariants.{SegmentLength, Truncated, Trailing}
use Rattle.zy_capture.specs.declared.capture_fault.CaptureFault.TheVariants.{TooLong}
use Rattle.zy_pcap.specs.declared.pcap_fault.PcapFault.{PcapFault}
use Rattle.zy_pcap.specs.declared.pcap_fault.PcapFault.TheVariants as Packets
use Rattle.zy_input.specs.declared.stop.Refusal.{Refusal}
use Rattle.zy_input.specs.declared.stop.Refusal.TheVariants.{Capture, Journal, Replies, Items, Pcap}
use Rattle.zy_shell.specs.Line.{line_with, line_with_two}

-- how the line of a fault of a capture begins
abbrev pub fault_text : CaptureFault → List ℕ
fault_text (BadMagic at) = codes "capture: bad-magic at "
fault_text (ConnCount number) = codes "capture: conn-count "
fault_text (BadTag at byte) = codes "capture: bad-tag at "
fault_text (ConnRange at number) = codes "capture: conn-range at "
fault_text (SegmentLength at number) = codes "capture: segment-length at "
fault_text (Truncated at) = codes "capture: truncated at "
fault_text (Trailing at) = codes "capture: trailing at "
fault_text TooLong = codes "capture: too-long\n"

-- what is between its two numbers, if it has two
abbrev pub fault_middle : CaptureFault → List ℕ
fault_middle (BadTag at byte) = codes " byte "
fault_middle fault = codes " number "

-- the line of a fault of a capture
abbrev pub fault_line : CaptureFault → List ℕ
fault_line (BadMagic at) = line_with (fault_text (BadMagic at)) at
fault_line (ConnCount number) = line_with (fault_text (ConnCount number)) number
fault_line (BadTag at byte) = line_with_two (fault_text (BadTag at byte)) at (fault_middle (BadTag at byte)) byte
fault_line (ConnRange at number) =
    line_with_two (fault_text (ConnRange at number)) at (fault_middle (ConnRange at number)) number
fault_line (SegmentLength at number) =
    line_with_two (fault_text (SegmentLength at number)) at (fault_middle (SegmentLength at number)) number
fault_line (Truncated at) = line_with (fault_text (Truncated at)) at
fault_line (Trailing at) = line_with (fault_text (Trailing at)) at
fault_line TooLong = fault_text TooLong

-- how the line of a fault of a journal begins
abbrev pub journal_text : FileFault → List ℕ
journal_text (Files.Form at) = codes "journal: form at "
journal_text (Files.Truncated at) = codes "journal: truncated at "
journal_text Files.TooLong = codes "journal: too-long\n"

-- how the line of a fault of a replies file begins
abbrev pub replies_text : FileFault → List ℕ
replies_text (Files.Form at) = codes "replies: form at "
replies_text (Files.Truncated at) = codes "replies: truncated at "
replies_text Files.TooLong = codes "replies: too-long\n"

-- how the line of a fault of an items file begins
abbrev pub items_text : FileFault → List ℕ
items_text (Files.Form at) = codes "items: form at "
items_text (Files.Truncated at) = codes "items: truncated at "
items_text Files.TooLong = codes "items: too-long\n"

-- the line of a fault of a file, which begins with this text
abbrev pub file_line : List ℕ → FileFault → List ℕ
file_line text (Files.Form at) = line_with text at
file_line text (Files.Truncated at) = line_with text at
file_line text Files.TooLong = text

-- the number of a fault of recorded packets
abbrev pub pcap_number : PcapFault → ℕ
pcap_number (Packets.Magic at) = 9
pcap_number (Packets.Version major minor) = 10
pcap_number (Packets.LinkType number) = 11
pcap_number (Packets.RecordLength at number) = 12
pcap_number (Packets.Ipv6 at) = 13
pcap_number (Packets.Vlan at) = 14
pcap_number (Packets.Fragment at) = 15
pcap_number (Packets.Short at) = 16
pcap_number (Packets.Missing at) = 17
pcap_number (Packets.FlowCount at) = 18
pcap_number (Packets.FlowLength at) = 19
pcap_number (Packets.PcapTruncated at) = 20
pcap_number Packets.PcapTooLong = 21

-- how the line of a fault of recorded packets begins
abbrev pub pcap_text : List ℕ
pcap_text = codes "pcap: fault "

-- the line of a refusal
abbrev pub refusal_line : Refusal → List ℕ
refusal_line (Capture fault) = fault_line fault
refusal_line (Journal fault) = file_line (journal_text fault) fault
refusal_line (Replies fault) = file_line (replies_text fault) fault
refusal_line (Items fault) = file_line (items_text fault) fault
refusal_line (Pcap fault) = line_with pcap_text (pcap_number fault)
