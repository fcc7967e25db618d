use Rattle.std.proofs.Common.{ap, ◌∙◌, ◌++◌, append_assoc, take, get_or}
use Rattle.mc_calls.specs.declared.tallied.Tallied.{Tallied}
use Rattle.zy_report.specs.Report.{shard_text, shards_text}
use Rattle.zy_report.proofs.TableLemmas.{shards_more}
use Rattle.zy_report.proofs.table.append_shards.Goals as goal

pub loop-shard-preserved : goal.loop-shard-preserved
loop-shard-preserved c =
    let i = c.loop-shard.shard in
    let d : Tallied = record { gets = 0; sets = 0; hits = 0; misses = 0; items = 0 } in
    c.in_ok-append_shard.ensures.ok ∙ ap (λ l. l ++ shard_text i (get_or c.args.counts.now i d)) c.loop-shard.invariant
    ∙ append_assoc c.args.text.now (shards_text 0 (take i c.args.counts.now)) (shard_text i (get_or c.args.counts.now i d))
    ∙ ap (λ l. c.args.text.now ++ l) (shards_more c.args.counts.now i d c.loop-shard-test.true)
