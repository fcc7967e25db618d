use Rattle.std.proofs.Common.{◌≡◌, ◌+◌, length, refl, arith}
use Rattle.std.proofs.lemmas.Option.{slice_get_read}
use Rattle.zy_sessions.proofs.NoteLemmas.{line_fed, lasting_fed}
use Rattle.zy_sessions.proofs.line.Line.send.Goals as goal

pub returns : goal.returns
returns c = record {
  kept = λ records h now.
      let old = c.args.self.now in
      let last = c.in-Some.ensures in
      let long = c.len.ensures in
      let count = h.count in
      let next : c.in-Some.last + 1 ≡ length old.sessions.items = omega (arith, last, long, count) in
      line_fed records c.args.segment.now old h c.feed.new.self c.new-frames.result c.feed.new.frames c.in_default-feed.ensures.fed c.in_default-feed.ensures.due c.new-frames.ensures.value
      _ c.in-Some.last c.index_mut.result.now c.note_frames.new.session c.args.moment c.requires.some next
      (slice_get_read old.sessions.items _ c.in-Some.last c.index_mut.result.now refl (omega (arith, next)) c.index_mut.ensures.value) refl refl now
      c.in_ok-note_frames.ensures.commands c.in_ok-note_frames.ensures.sent c.in_ok-note_frames.ensures.marks;
  lasting = λ records h.
      lasting_fed records c.args.segment.now c.args.self.now h c.feed.new.self c.new-frames.result c.feed.new.frames c.in_default-feed.ensures.fed c.in_default-feed.ensures.due c.new-frames.ensures.value
      c.args.lasting.now c.note_frames.new.lasting c.in_ok-note_frames.ensures.lasting;
}
