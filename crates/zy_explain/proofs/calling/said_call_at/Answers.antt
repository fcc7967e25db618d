use Rattle.zy_explain.proofs.MoreLemmas.{said_by, shards_by}
use Rattle.zy_explain.proofs.calling.said_call_at.Goals as goal

pub returns-in_default : goal.returns-in_default
returns-in_default c = record {
  value = said_by c.args.shards c.args.part c.args.command.now c.in_default.not-Stats c.call_at.result c.call_at.ensures.value;
  shard = shards_by c.args.shards c.args.part c.args.command.now c.call_at.result c.call_at.ensures.value c.call_at.ensures.within;
}
