use Rattle.std.proofs.Common.{◌+◌, length, refl, sym, ap, ◌∙◌}
use Rattle.std.specs.BTreeMap.{insert_entry}
use Rattle.std.specs.Ordering.{nat_cmp}
use Rattle.zy_pcap.specs.declared.held.HeldBytes.{HeldBytes}
use Rattle.zy_pcap.proofs.InsertLemmas.{rise_of, range_rise}
use Rattle.zy_pcap.proofs.HeldLemmas.{held_long, held_apart, held_same}
use Rattle.zy_pcap.proofs.held.HeldBytes.add_apart.Goals as goal

pub returns-then-has_run-clause-ok : goal.returns-then-has_run-clause-ok
returns-then-has_run-clause-ok c = held_long c.args.self.now c.args.bytes.now c.args.from (sym c.has_run.ensures.value ∙ c.if-has_run.true)

pub woven-requires-clause-rise : goal.woven-requires-clause-rise
woven-requires-clause-rise c = range_rise c.args.self.now.runs.entries c.range-runs.result c.args.from _ (c.range-runs.ensures.between tt) c.range-runs.ensures.ordered

pub returns-in-Ok-insert-clause-ok : goal.returns-in-Ok-insert-clause-ok
returns-in-Ok-insert-clause-ok c =
    let new : HeldBytes = record { front = c.args.self.now.front; runs = c.insert.new.self } in
    (held_apart c.args.self.now new c.range-runs.result c.args.bytes.now c.in-Ok.run'.items c.args.from (c.args.from + length c.args.bytes.now) c.requires.apart c.requires.whole
    (rise_of c.args.self.now.runs.entries c.range-runs.ensures.ordered) (sym c.has_run.ensures.value ∙ c.if-has_run.false) refl (c.range-runs.ensures.between tt) c.in-Ok.ensures.value
    (c.in-Ok-insert.ensures.entries ∙ ap (insert_entry nat_cmp c.args.self.now.runs.entries c.args.from) c.from_vec-run.ensures.value) refl).0

pub returns-in-Ok-insert-clause-whole : goal.returns-in-Ok-insert-clause-whole
returns-in-Ok-insert-clause-whole c =
    let new : HeldBytes = record { front = c.args.self.now.front; runs = c.insert.new.self } in
    (held_apart c.args.self.now new c.range-runs.result c.args.bytes.now c.in-Ok.run'.items c.args.from (c.args.from + length c.args.bytes.now) c.requires.apart c.requires.whole
    (rise_of c.args.self.now.runs.entries c.range-runs.ensures.ordered) (sym c.has_run.ensures.value ∙ c.if-has_run.false) refl (c.range-runs.ensures.between tt) c.in-Ok.ensures.value
    (c.in-Ok-insert.ensures.entries ∙ ap (insert_entry nat_cmp c.args.self.now.runs.entries c.args.from) c.from_vec-run.ensures.value) refl).1

pub returns-in-Err-insert-clause-err : goal.returns-in-Err-insert-clause-err
returns-in-Err-insert-clause-err c =
    let new : HeldBytes = record { front = c.args.self.now.front; runs = c.insert.new.self } in
    held_same c.args.self.now new refl c.in-Err-insert.ensures.err
