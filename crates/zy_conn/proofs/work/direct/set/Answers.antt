use Rattle.std.proofs.Common.{◌≡◌, [], ◌∷◌, refl, ap, ◌∙◌}
use Rattle.mc_calls.specs.declared.entry.Tag.{Tag}
use Rattle.mc_parse.specs.Calls.{tag_of}
use Rattle.zy_conn.proofs.DirectLemmas.{entry_with, part_with, set_said, finished_as}
use Rattle.zy_conn.proofs.work.direct.set.Goals as goal

pub returns-in-Ok-Made-clause-to : goal.returns-in-Ok-Made-clause-to
returns-in-Ok-Made-clause-to c =
    let reply = c.in-Ok-Made.reply in
    let stamp = c.in-Ok-Made.field-0-1 in
    let next = c.args.one.next in
    let tag : Tag = tag_of c.conn.result c.finished-finished.result 0 in
    let tag_is : tag ≡ tag_of c.args.pass.now.conn c.args.batch.now.finished 0 =
    ap (λ n. tag_of n c.finished-finished.result 0) c.conn.ensures.value ∙ ap (λ n. tag_of c.args.pass.now.conn n 0) c.finished-finished.ensures.value in
    let may = rw c.in-Ok-Made.field-0-is at c.in-Ok-Made.ensures.kind in
    let entered = rw c.in-Ok-Made.field-0-is at c.in-Ok-Made.ensures.ok in
    λ shards command set. (
      reply ∷ [],
      record {
        entry = entry_with tag next reply stamp;
        part = part_with c.args.pass.now.conn c.args.batch.now.finished 0 tag next reply stamp tag_is may;
        entered = entered;
        replied = refl;
      },
      finished_as c.args.batch.now c.send_copy.new.self c.set_finished.new.self c.set_text.result.now c.finished-finished.result command (reply ∷ [])
          (set_said c.set_text.result.now shards command next c.args.one.quiet reply c.set_text.ensures.value set may) c.in_default.ensures.ok c.finished-finished.ensures.value c.set_finished.ensures.value,
    )
