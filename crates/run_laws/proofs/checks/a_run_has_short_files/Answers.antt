use Rattle.run_laws.proofs.SizeLemmas.{journal_short, replies_short}
use Rattle.run_laws.proofs.checks.a_run_has_short_files.Goals as goal

pub returns : goal.returns
returns c = record {
  journal = λ shards version count text records journal outputs few spells are lawful. journal_short shards version count text records journal outputs few spells are lawful;
  replies = λ shards version count text records journal outputs few spells are lawful fit. replies_short shards version count text records journal outputs few spells are lawful fit;
}
