use Rattle.std.proofs.Common.{◌≡◌, ap, refl, subst, arith}
use Rattle.std.specs.Prelude.{Some}
use Rattle.std.specs.List.{slice_get}
use Rattle.std.proofs.lemmas.Option.{slice_get_read}
use Rattle.mc_calls.specs.declared.entry.Tag.{Tag}
use Rattle.zy_times.proofs.late.span_of.Goals as goal

pub index-requires : goal.index-requires
index-requires c =
    let run = c.requires.holds.3 in
    let spans = c.requires.holds.4 in
    let e = c.args.entry.now in
    let conn_is : c.tag-tag.result.conn ≡ e.tag.conn = ap (λ (t : Tag). t.conn) c.tag-tag.ensures.value in
    let low = run.connections c.requires.holds.2 e c.requires.holds.5 in
    let size = spans.size in
    omega (arith, low, size, conn_is)

pub index-requires-2 : goal.index-requires-2
index-requires-2 c =
    let run = c.requires.holds.3 in
    let spans = c.requires.holds.4 in
    let e = c.args.entry.now in
    let conn = c.tag-tag.result.conn in
    let conn_is : conn ≡ e.tag.conn = ap (λ (t : Tag). t.conn) c.tag-tag.ensures.value in
    let index_is : c.tag-tag.result.index ≡ e.tag.index = ap (λ (t : Tag). t.index) c.tag-tag.ensures.value in
    let low = run.connections c.requires.holds.2 e c.requires.holds.5 in
    let size = spans.size in
    let lines = c.args.spans.now.lines.items in
    let there = subst (λ n. slice_get lines n ≡ Some c.index.result.now) conn_is (slice_get_read lines _ conn c.index.result.now refl (omega (arith, low, size, conn_is)) c.index.ensures) in
    let line = spans.each e.tag.conn c.index.result.now there in
    let long = line.size in
    let below = run.commands c.requires.holds.2 e c.requires.holds.5 in
    omega (arith, long, below, index_is)

pub returns : goal.returns
returns c = record {
  span = λ r count p run spans is.
      let e = c.args.entry.now in
      let conn = c.tag-tag.result.conn in
      let conn_is : conn ≡ e.tag.conn = ap (λ (t : Tag). t.conn) c.tag-tag.ensures.value in
      let index = c.tag-tag.result.index in
      let index_is : index ≡ e.tag.index = ap (λ (t : Tag). t.index) c.tag-tag.ensures.value in
      let low = run.connections p e is in
      let size = spans.size in
      let lines = c.args.spans.now.lines.items in
      let there = subst (λ n. slice_get lines n ≡ Some c.index.result.now) conn_is (slice_get_read lines _ conn c.index.result.now refl (omega (arith, low, size, conn_is)) c.index.ensures) in
      let line = spans.each e.tag.conn c.index.result.now there in
      let long = line.size in
      let below = run.commands p e is in
      let own = subst (λ n. slice_get c.index.result.now.items n ≡ Some c.index-2.result.now) index_is (slice_get_read c.index.result.now.items _ index c.index-2.result.now refl (omega (arith, long, below, index_is)) c.index-2.ensures) in
      line.each e.tag.index c.index-2.result.now own;
}
