use Rattle.std.proofs.Common.{sym, ◌∙◌}
use Rattle.zy_refute.proofs.UnmetLemmas.{unmet_at}
use Rattle.zy_refute.proofs.sources.has_no_source.Goals as goal

pub returns : goal.returns
returns c = record {
  never = unmet_at c.have_no_source.result c.args.store c.args.calls.now c.args.fact.now c.args.reader c.index-calls-reader.result c.requires.within c.index-calls-reader.is
      (sym c.is_need.ensures.value ∙ c.if-not-is_need.false) (c.is_kept.ensures.kept c.if-not-is_kept.false) (c.is_no_start.ensures.start c.if-not-is_no_start.false) c.have_no_source.ensures.none;
}
