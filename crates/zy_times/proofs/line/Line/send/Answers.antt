use Rattle.std.proofs.Common.{◌≡◌, ◌+◌, length, refl, arith}
use Rattle.std.proofs.lemmas.Option.{slice_get_read}
use Rattle.zy_times.proofs.LineLemmas.{line_fed}
use Rattle.zy_times.proofs.line.Line.send.Goals as goal

pub returns : goal.returns
returns c = record {
  kept = λ records h now.
      let old = c.args.self.now in
      let last = c.in-Some.ensures in
      let long = c.len.ensures in
      let count = h.count in
      let next : c.in-Some.last + 1 ≡ length old.sessions.items = omega (arith, last, long, count) in
      let t = c.index_mut.result.now in
      line_fed records c.args.segment.now old _ h c.in-Some.last t (record { sent = c.push_many.new.moments; marks = t.marks }) c.new-frames.result c.feed-fed.new.frames c.len-number.result c.args.moment
      c.requires.some next (slice_get_read old.sessions.items _ c.in-Some.last t refl (omega (arith, next)) c.index_mut.ensures.value) refl
      c.in_ok-fed.ensures.fed c.in_ok-fed.ensures.due c.new-frames.ensures.value c.len-number.ensures.value now c.in_ok-push_many.ensures.more refl;
}
