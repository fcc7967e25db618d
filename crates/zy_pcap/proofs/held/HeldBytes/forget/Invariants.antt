use Rattle.std.proofs.Common.{◌≡◌, length}
use Rattle.zy_pcap.specs.Held.{byte_held, parts, HoldsSame}
use Rattle.zy_pcap.proofs.held.HeldBytes.forget.Given as goal

-- all bytes are as before, and so is the row
abbrev pub invariant-loop : goal.invariant-loop
invariant-loop l = HoldsSame (byte_held (parts l.initial.self)) (byte_held (parts l.self)) × (l.self.front ≡ l.initial.self.front)

abbrev pub decreases-loop : goal.decreases-loop
decreases-loop l = length l.self.runs.entries
