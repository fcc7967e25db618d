-- An example file: a SYN, and two packets with payload in the wrong order; its packets and its capture.
use Rattle.std.specs.Prelude.{ℕ, List, [], ◌∷◌, true, false}
use Rattle.zy_pcap.specs.Packet.{Packet}

-- the file
unfoldable pub worked_file : List ℕ
worked_file =
    161 ∷ 178 ∷ 195 ∷ 212 ∷ 0 ∷ 2 ∷ 0 ∷ 4 ∷ 0 ∷ 0 ∷ 0 ∷ 0 ∷ 0 ∷ 0 ∷ 0 ∷ 0 ∷ 0 ∷ 0 ∷ 255 ∷ 255 ∷ 0 ∷ 0 ∷ 0 ∷ 1 ∷
    0 ∷ 0 ∷ 0 ∷ 0 ∷ 0 ∷ 0 ∷ 0 ∷ 0 ∷ 0 ∷ 0 ∷ 0 ∷ 54 ∷ 0 ∷ 0 ∷ 0 ∷ 54 ∷ 0 ∷ 0 ∷ 0 ∷ 0 ∷ 0 ∷ 0 ∷ 0 ∷ 0 ∷ 0 ∷ 0 ∷
    0 ∷ 0 ∷ 8 ∷ 0 ∷ 69 ∷ 0 ∷ 0 ∷ 40 ∷ 0 ∷ 0 ∷ 0 ∷ 0 ∷ 64 ∷ 6 ∷ 0 ∷ 0 ∷ 66 ∷ 9 ∷ 149 ∷ 187 ∷ 161 ∷ 142 ∷ 100 ∷
    80 ∷ 10 ∷ 234 ∷ 6 ∷ 230 ∷ 0 ∷ 0 ∷ 3 ∷ 232 ∷ 0 ∷ 0 ∷ 0 ∷ 0 ∷ 80 ∷ 2 ∷ 255 ∷ 255 ∷ 0 ∷ 0 ∷ 0 ∷ 0 ∷ 0 ∷ 0 ∷
    0 ∷ 0 ∷ 0 ∷ 0 ∷ 0 ∷ 0 ∷ 0 ∷ 0 ∷ 0 ∷ 57 ∷ 0 ∷ 0 ∷ 0 ∷ 57 ∷ 0 ∷ 0 ∷ 0 ∷ 0 ∷ 0 ∷ 0 ∷ 0 ∷ 0 ∷ 0 ∷ 0 ∷ 0 ∷ 0 ∷
    8 ∷ 0 ∷ 69 ∷ 0 ∷ 0 ∷ 43 ∷ 0 ∷ 0 ∷ 0 ∷ 0 ∷ 64 ∷ 6 ∷ 0 ∷ 0 ∷ 66 ∷ 9 ∷ 149 ∷ 187 ∷ 161 ∷ 142 ∷ 100 ∷ 80 ∷ 10 ∷
    234 ∷ 6 ∷ 230 ∷ 0 ∷ 0 ∷ 3 ∷ 237 ∷ 0 ∷ 0 ∷ 0 ∷ 0 ∷ 80 ∷ 16 ∷ 255 ∷ 255 ∷ 0 ∷ 0 ∷ 0 ∷ 0 ∷ 97 ∷ 13 ∷ 10 ∷ 0 ∷
    0 ∷ 0 ∷ 0 ∷ 0 ∷ 0 ∷ 0 ∷ 0 ∷ 0 ∷ 0 ∷ 0 ∷ 59 ∷ 0 ∷ 0 ∷ 0 ∷ 59 ∷ 0 ∷ 0 ∷ 0 ∷ 0 ∷ 0 ∷ 0 ∷ 0 ∷ 0 ∷ 0 ∷ 0 ∷ 0 ∷
    0 ∷ 8 ∷ 0 ∷ 69 ∷ 0 ∷ 0 ∷ 45 ∷ 0 ∷ 0 ∷ 0 ∷ 0 ∷ 64 ∷ 6 ∷ 0 ∷ 0 ∷ 66 ∷ 9 ∷ 149 ∷ 187 ∷ 161 ∷ 142 ∷ 100 ∷ 80 ∷
    10 ∷ 234 ∷ 6 ∷ 230 ∷ 0 ∷ 0 ∷ 3 ∷ 233 ∷ 0 ∷ 0 ∷ 0 ∷ 0 ∷ 80 ∷ 16 ∷ 255 ∷ 255 ∷ 0 ∷ 0 ∷ 0 ∷ 0 ∷ 103 ∷ 101 ∷
    116 ∷ 32 ∷ 90 ∷ []

-- from 66.9.149.187, port 2794, to 161.142.100.80, port 1766
unfoldable pub worked_flow : List ℕ
worked_flow = 66 ∷ 9 ∷ 149 ∷ 187 ∷ 161 ∷ 142 ∷ 100 ∷ 80 ∷ 10 ∷ 234 ∷ 6 ∷ 230 ∷ []

-- its packets
unfoldable pub worked_packets : List Packet
worked_packets =
    record { flow = worked_flow; sequence = 1000; is_syn = true; payload = [] }
    ∷ record { flow = worked_flow; sequence = 1005; is_syn = false; payload = 97 ∷ 13 ∷ 10 ∷ [] }
    ∷ record { flow = worked_flow; sequence = 1001; is_syn = false; payload = 103 ∷ 101 ∷ 116 ∷ 32 ∷ 90 ∷ [] } ∷ []

-- its capture: `get a` and a line end on connection 120
unfoldable pub worked_capture : List ℕ
worked_capture =
    90 ∷ 89 ∷ 71 ∷ 67 ∷ 65 ∷ 80 ∷ 50 ∷ 10 ∷ 0 ∷ 0 ∷ 0 ∷ 121 ∷ 83 ∷ 0 ∷ 0 ∷ 0 ∷ 120 ∷ 0 ∷ 0 ∷ 0 ∷ 7 ∷ 103 ∷
    101 ∷ 116 ∷ 32 ∷ 97 ∷ 13 ∷ 10 ∷ 69 ∷ []
