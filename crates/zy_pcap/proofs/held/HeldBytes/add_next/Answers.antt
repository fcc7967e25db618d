use Rattle.std.proofs.Common.{◌≡◌, ◌-◌, ◌++◌, List, ℕ, length, refl, ap, ◌∙◌, arith}
use Rattle.std.proofs.lemmas.List.{take_rest}
use Rattle.zy_pcap.specs.declared.held.HeldBytes.{HeldBytes}
use Rattle.zy_pcap.specs.Held.{byte_held, parts, covered}
use Rattle.zy_pcap.proofs.InsertLemmas.{range_rise}
use Rattle.zy_pcap.proofs.HeldLemmas.{held_next, both_same, still_whole}
use Rattle.zy_pcap.proofs.held.HeldBytes.add_next.Goals as goal

pub woven-requires-clause-rise : goal.woven-requires-clause-rise
woven-requires-clause-rise c = range_rise c.args.self.now.runs.entries c.range-runs.result 0 _ (c.range-runs.ensures.between tt) c.range-runs.ensures.ordered

pub returns-in-Ok-grown-clause-ok : goal.returns-in-Ok-grown-clause-ok
returns-in-Ok-grown-clause-ok c =
    let now : HeldBytes = record { front = c.extend_from_slice-grown.new.self; runs = c.args.self.now.runs } in
    let size : c.len-have.result ≡ length c.args.self.now.front.items = omega arith in
    both_same (byte_held (parts c.args.self.now)) (byte_held (parts now)) (byte_held (parts c.forget.new.self)) (covered c.args.bytes.now c.args.from)
    (held_next c.args.self.now now c.range-runs.result c.args.bytes.now _ c.in-Ok.next.items c.args.from c.len-have.result size c.requires.next c.requires.some c.requires.within (c.range-runs.ensures.between tt)
    (take_rest c.args.bytes.now (c.len-have.result - c.args.from)) c.in-Ok.ensures.value (c.in-Ok-grown.ensures.items ∙ ap (λ (l : List ℕ). c.args.self.now.front.items ++ l) c.deref.ensures.value) refl).0
    c.forget.ensures.same

pub returns-in-Ok-grown-clause-whole : goal.returns-in-Ok-grown-clause-whole
returns-in-Ok-grown-clause-whole c =
    let now : HeldBytes = record { front = c.extend_from_slice-grown.new.self; runs = c.args.self.now.runs } in
    let size : c.len-have.result ≡ length c.args.self.now.front.items = omega arith in
    still_whole now c.forget.new.self c.forget.ensures.front c.forget.ensures.same
    (held_next c.args.self.now now c.range-runs.result c.args.bytes.now _ c.in-Ok.next.items c.args.from c.len-have.result size c.requires.next c.requires.some c.requires.within (c.range-runs.ensures.between tt)
    (take_rest c.args.bytes.now (c.len-have.result - c.args.from)) c.in-Ok.ensures.value (c.in-Ok-grown.ensures.items ∙ ap (λ (l : List ℕ). c.args.self.now.front.items ++ l) c.deref.ensures.value) refl).1
