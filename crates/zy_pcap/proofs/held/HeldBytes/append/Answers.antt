use Rattle.std.proofs.Common.{◌≡◌, ◌-◌, List, ℕ, take, drop, length, refl, ap, ◌∙◌, arith}
use Rattle.std.proofs.lemmas.List.{take_rest}
use Rattle.zy_pcap.specs.declared.held.HeldBytes.{HeldBytes}
use Rattle.zy_pcap.proofs.HeldLemmas.{held_alone, held_same}
use Rattle.zy_pcap.proofs.held.HeldBytes.append.Goals as goal

pub returns-in-Ok-clause-ok : goal.returns-in-Ok-clause-ok
returns-in-Ok-clause-ok c =
    let new : HeldBytes = record { front = c.extend_from_slice.new.self; runs = c.args.self.now.runs } in
    let size : c.len.result ≡ length c.args.self.now.front.items = omega arith in
    let more : List ℕ = take (length c.args.bytes.now - (c.len.result - c.args.from)) (drop (c.len.result - c.args.from) c.args.bytes.now) in
    (held_alone c.args.self.now new c.args.bytes.now more c.args.from c.requires.next c.requires.some c.requires.within
    (take_rest c.args.bytes.now (c.len.result - c.args.from) ∙ ap (λ n. drop (n - c.args.from) c.args.bytes.now) size) c.requires.alone c.in-Ok.ensures.items refl).0

pub returns-in-Err-clause-err : goal.returns-in-Err-clause-err
returns-in-Err-clause-err c =
    let new : HeldBytes = record { front = c.extend_from_slice.new.self; runs = c.args.self.now.runs } in
    held_same c.args.self.now new c.in-Err.ensures.items refl
