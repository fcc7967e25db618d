use Rattle.zygos_run.proofs.report.make_report.Goals as goal

pub returns-in-Ok-clause-ends : goal.returns-in-Ok-clause-ends
returns-in-Ok-clause-ends g c =
    let read = c.in_ok-journal.ensures.journal in (
      read.0,
      read.1,
      record {
        journal = c.in_ok-journal.journal;
        good = read.2;
        spelled = (c.a_journal_is_good_exactly_where_it_is_a_spelling.ensures.exactly read.0 c.in_ok-journal.journal read.1.2).0 read.2;
        table = c.in-Ok.ensures.value;
      },
    )
