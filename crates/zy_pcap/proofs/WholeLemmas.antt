-- Whole files: the fields of recorded packets are lawful, and what each keeps is so of a whole file.
use Rattle.std.proofs.Common.{◌≡◌, inl, inr, ℕ, List, [], length, refl, sym, ◌∙◌, subst, arith}
use Rattle.std.specs.Prelude.{true, nat_le, ⊤}
use Rattle.std.specs.List.{concat}
use Rattle.std.proofs.lemmas.List.{append-nil}
use Rattle.std.proofs.lemmas.Bool.Decides.{nat_tests}
use Rattle.zy_read.specs.Fields.{IsWrong, IsLawful}
use Rattle.zy_read.specs.Runs.{IsWhole, IsOutcome}
use Rattle.zy_read.proofs.RunLemmas.{Keeps, EachPart, runs_keep}
use Rattle.zy_read.proofs.VerdictLemmas.{outcome}
use Rattle.zy_pcap.specs.declared.due.Due.{Due}
use Rattle.zy_pcap.specs.declared.due.Due.TheVariants as Dues
use Rattle.zy_pcap.specs.Steps.{due_width, due_does, is_begin, file_limit}
use Rattle.zy_pcap.specs.Packet.{Packet}
use Rattle.zy_pcap.specs.Packets.{FileState, FoundPackets, file_does, packet_fields, found, packets}
use Rattle.zy_pcap.specs.Packets.FoundPackets.{Packets, Bad}
use Rattle.zy_pcap.proofs.DueLemmas.{some_width}

one_width : (due : Due) → is_begin due ≡ true → due_width due ≡ 1
one_width Dues.Begin is = refl
one_width due is = cc

end_wrong : (port : ℕ) (due : Due) (s : FileState) (at : ℕ) (field : List ℕ) → is_begin due ≡ true → nat_le file_limit at ≡ true → IsWrong (file_does port s (due_does due s.records at field))
end_wrong port Dues.Begin s at field is most = rw most tt
end_wrong port due s at field is most = cc

pub packets_lawful : (port : ℕ) → IsLawful (packet_fields port)
packets_lawful port = record {
  some = λ s. some_width s.records.due;
  one = λ s. one_width s.records.due;
  ends = λ s at field is most. end_wrong port s.records.due s at field is (grind (arith, nat_tests));
}

-- a file is whole, and these are its packets
pub record IsFile (port : ℕ) (bytes : List ℕ) (given : List Packet) : Type 0 where
  pub s : FileState
  pub gave : List ⊤
  pub whole : IsWhole (packet_fields port) bytes s gave
  pub same : s.packets ≡ given

file_by : (port : ℕ) (bytes : List ℕ) (given : List Packet) (verdict : FoundPackets) → IsOutcome (packet_fields port) found Bad bytes verdict → verdict ≡ Packets given → IsFile port bytes given
file_by port bytes given verdict (inl good) is =
    let both : Packets good.0.packets ≡ Packets given = sym good.1.2 ∙ is in
    record { s = good.0; gave = good.1.0; whole = good.1.1; same = cc }
file_by port bytes given verdict (inr (inl cut)) is = let both = sym cut.1 ∙ is in cc
file_by port bytes given verdict (inr (inr fault)) is = let both = sym fault.1.2 ∙ is in cc

pub file_of : (port : ℕ) (bytes : List ℕ) (given : List Packet) → packets port bytes ≡ Packets given → IsFile port bytes given
file_of port bytes given is = file_by port bytes given (packets port bytes) (outcome (packet_fields port) (packets_lawful port) found Bad bytes) is

-- the bytes of a file are those of its fields
pub file_text : (port : ℕ) (bytes : List ℕ) (given : List Packet) (file : IsFile port bytes given) → bytes ≡ concat file.whole.begins.parts
file_text port bytes given file = file.whole.begins.text_is ∙ append-nil (concat file.whole.begins.parts)

-- what each field keeps
pub file_keeps : (port : ℕ) (bytes : List ℕ) (given : List Packet) (file : IsFile port bytes given) (Ok : List ℕ → Type 0) (Holds : FileState → ℕ → Type 0) → Keeps (packet_fields port) Ok (λ s text gave. Holds s (length text)) → EachPart Ok file.whole.begins.parts
    → Holds (packet_fields port).start 0 → Holds file.s (length bytes)
file_keeps port bytes given file Ok Holds keeps each holds =
    subst (λ (l : List ℕ). Holds file.s (length l)) (sym (file_text port bytes given file))
    (runs_keep (packet_fields port) Ok (λ s text gave. Holds s (length text)) keeps file.whole.begins.parts (packet_fields port).start file.s [] 0 [] file.gave refl each holds file.whole.begins.runs)
