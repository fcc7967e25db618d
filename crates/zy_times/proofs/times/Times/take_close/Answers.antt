use Rattle.std.proofs.Common.{refl, arith}
use Rattle.std.proofs.lemmas.Option.{slice_get_read}
use Rattle.zy_capture.specs.declared.record.Record.TheVariants as Kinds
use Rattle.zy_times.proofs.LineLemmas.{times_more}
use Rattle.zy_times.proofs.times.Times.take_close.Goals as goal

pub returns : goal.returns
returns c = record {
  kept = λ count records h.
      let old = c.args.self.now in
      let size = h.count_is in
      let next = c.requires.next in
      let within = c.requires.within in
      let line = c.index_mut.result.now in
      let held = h.each c.args.conn line (slice_get_read old.lines.items _ c.args.conn line refl within c.index_mut.ensures.value) in
      times_more old _ count records (Kinds.Close c.args.conn) c.close.new.self h (omega (arith, size, within)) next refl (c.in_ok-close.ensures.kept records held);
}
