use Rattle.std.proofs.Common.{◌≡◌, ◌+◌, ◌++◌, ◌∷◌, [], ℕ, length, refl, ◌∙◌, ap, arith}
use Rattle.std.proofs.lemmas.Option.{slice_get_read}
use Rattle.zy_times.proofs.LineLemmas.{line_marked}
use Rattle.zy_times.proofs.line.Line.mark.Goals as goal

pub returns : goal.returns
returns c = record {
  kept = λ records h now.
      let old = c.args.self.now in
      let count = h.count in
      let last = c.in-Some.ensures in
      let long = c.len.ensures in
      let next : c.in-Some.last + 1 ≡ length old.sessions.items = omega (arith, last, long, count) in
      let t = c.index_mut.result.now in
      line_marked records c.args.segment.now old _ h c.in-Some.last t (record { sent = t.sent; marks = c.push.new.self }) c.requires.none next
      (slice_get_read old.sessions.items _ c.in-Some.last t refl (omega (arith, next)) c.index_mut.ensures.value) refl refl refl
      (c.in_ok-push.ensures.items ∙ ap (λ (m : ℕ). t.marks.items ++ m ∷ []) now);
}
