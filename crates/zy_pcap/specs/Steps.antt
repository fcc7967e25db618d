-- The fields of recorded packets up to the end of each record, how many bytes each has, and what a whole one does:
-- docs/FORMATS.md, "Recorded packets", after the pcap file format of tcpdump's pcap-savefile page.
use Rattle.std.specs.Prelude.{ℕ, ◌+◌, ◌-◌, ◌/◌, ◌%◌, ◌==◌, nat_lt, nat_le, if◌then◌else◌, Bool, true, false, ◌&&◌}
use Rattle.std.specs.Prelude.{List, []}
use Rattle.std.specs.Int.{from_be_bytes, from_le_bytes, w32}
use Rattle.zy_read.specs.Fields.{Judged, Fields, Place}
use Rattle.zy_read.specs.Fields.Judged.{Then, Gives, Wrong}
use Rattle.zy_pcap.specs.declared.pcap_fault.PcapFault.{PcapFault}
use Rattle.zy_pcap.specs.declared.pcap_fault.PcapFault.TheVariants as Faults
use Rattle.zy_pcap.specs.declared.due.Due.{Due}
use Rattle.zy_pcap.specs.declared.due.Due.TheVariants as Dues
use Rattle.zy_pcap.specs.declared.pcap_state.PcapState.{PcapState}

-- ---- the state

-- the state before the first field
abbrev pub file_start : PcapState
file_start = record { due = Dues.Magic; is_big = true; begun = 0 }

-- this is the next field
abbrev pub then_due : PcapState → Due → PcapState
then_due s due = record s { due = due }

-- how many bytes a field has
abbrev pub due_width : Due → ℕ
due_width Dues.Settings = 8
due_width Dues.Begin = 1
due_width Dues.Time = 7
due_width (Dues.Frame others) = others + 1
due_width due = 4

-- a file may end before the first byte of a record
abbrev pub is_begin : Due → Bool
is_begin Dues.Begin = true
is_begin due = false

-- the most bytes of a frame
abbrev pub frame_limit : ℕ
frame_limit = 262144

-- the most bytes of a file
abbrev pub file_limit : ℕ
file_limit = 4294967295

-- ---- what a whole field does

-- a state is next, or it is next and a record ends whose frame is this, or the field is wrong
abbrev pub DueJudged : Type 0
DueJudged = Judged PcapState (List ℕ) PcapFault

-- the number of four bytes in the order of the file
abbrev pub ordered_number : Bool → List ℕ → ℕ
ordered_number is_big bytes = if is_big then from_be_bytes w32 bytes else from_le_bytes w32 bytes

-- the first of the two numbers of two bytes that a number of four bytes holds
abbrev pub major : Bool → ℕ → ℕ
major is_big number = if is_big then number / 65536 else number % 65536

-- the second one
abbrev pub minor : Bool → ℕ → ℕ
minor is_big number = if is_big then number % 65536 else number / 65536

-- the magic, read with its highest byte first
abbrev pub magic_does : PcapState → ℕ → DueJudged
magic_does s number =
    if number == 0xa1b2c3d4 then Then (then_due s Dues.Version)
    else if number == 0xd4c3b2a1 then Then (then_due (record s { is_big = false }) Dues.Version)
    else Wrong (Faults.Magic 0)

-- the version
abbrev pub version_does : PcapState → ℕ → DueJudged
version_does s number =
    if major s.is_big number == 2 && minor s.is_big number == 4 then Then (then_due s Dues.Settings)
    else Wrong (Faults.Version (major s.is_big number) (minor s.is_big number))

-- the link type
abbrev pub link_does : PcapState → ℕ → DueJudged
link_does s number = if number == 1 then Then (then_due s Dues.Begin) else Wrong (Faults.LinkType number)

-- the first byte of a record at this place: that the file is too long comes before every other fault
abbrev pub begin_does : PcapState → ℕ → DueJudged
begin_does s at =
    if nat_le file_limit at then Wrong Faults.PcapTooLong else Then (record s { due = Dues.Time; begun = at })

-- the captured length of a record
abbrev pub captured_does : PcapState → ℕ → DueJudged
captured_does s number =
    if nat_lt frame_limit number then Wrong (Faults.RecordLength s.begun number)
    else Then (then_due s (Dues.Original number))

-- the original length of a record, whose frame has this number of bytes
abbrev pub original_does : PcapState → ℕ → DueJudged
original_does s size =
    if size == 0 then Gives (then_due s Dues.Begin) [] else Then (then_due s (Dues.Frame (size - 1)))

-- a number of four bytes
abbrev pub number_does : Due → PcapState → ℕ → DueJudged
number_does Dues.Magic s number = magic_does s number
number_does Dues.Version s number = version_does s number
number_does Dues.LinkType s number = link_does s number
number_does due s number = captured_does s number

-- a whole field that begins at this place
abbrev pub due_does : Due → PcapState → ℕ → List ℕ → DueJudged
due_does Dues.Settings s at field = Then (then_due s Dues.MostCaptured)
due_does Dues.MostCaptured s at field = Then (then_due s Dues.LinkType)
due_does Dues.Begin s at field = begin_does s at
due_does Dues.Time s at field = Then (then_due s Dues.Captured)
due_does (Dues.Original size) s at field = original_does s size
due_does (Dues.Frame others) s at field = Gives (then_due s Dues.Begin) field
due_does due s at field = number_does due s (ordered_number s.is_big field)

-- the fields of a file, which give the frames of its records
abbrev pub frames : Fields PcapState (List ℕ) PcapFault
frames = record {
  start = file_start;
  width = λ s. due_width s.due;
  judge = λ s. due_does s.due s;
  is_end = λ s. is_begin s.due;
  limit = file_limit;
  too_long = Faults.PcapTooLong;
  truncated = Faults.PcapTruncated;
}

-- where a file was read up to some byte, the packets before it left aside
abbrev pub FilePlace : Type 0
FilePlace = Place PcapState PcapFault
