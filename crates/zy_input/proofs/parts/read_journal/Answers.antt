use Rattle.std.proofs.Common.{[]}
use Rattle.zy_input.specs.declared.journal_part.Until.TheVariants.{SourceEnd}
use Rattle.zy_input.proofs.FileLemmas.{journal_read}
use Rattle.zy_input.proofs.WholeLemmas.{journal_stands, no_journal}
use Rattle.zy_input.proofs.parts.read_journal.Goals as goal

pub read_alone-requires : goal.read_alone-requires
read_alone-requires g c = record { goes = (SourceEnd, [], journal_stands c.new.result SourceEnd c.new.ensures.value c.new.ensures.until, no_journal SourceEnd) }

pub returns-clause-journal : goal.returns-clause-journal
returns-clause-journal g c =
    let alone = c.read_alone.ensures.value SourceEnd (journal_stands c.new.result SourceEnd c.new.ensures.value c.new.ensures.until) (no_journal SourceEnd) in
    journal_read g.S.Source.rest g.S.Source.faults c.args.source.now c.read_alone.new.source alone.0 c.read_alone.result alone.1
