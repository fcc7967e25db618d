use Rattle.std.proofs.Common.{◌≡◌, refl}
use Rattle.zy_journal.specs.Journal.{journal_bytes}
use Rattle.zy_journal_reader.specs.Verdict.{journal_verdict}
use Rattle.zy_journal_reader.specs.Verdict.JournalVerdict.{Good}
use Rattle.zy_journal_reader.proofs.SpelledLemmas.{spells_good}
use Rattle.format_laws.proofs.journals.two_journals_have_two_texts.Goals as goal

pub returns : goal.returns
returns c = record {
  same = λ first second one two short same.
      let a : journal_verdict (journal_bytes first) ≡ Good first = spells_good (journal_bytes first) first (record { readable = one; spelled = refl; short = short }) in
      let b : journal_verdict (journal_bytes first) ≡ Good second = spells_good (journal_bytes first) second (record { readable = two; spelled = same; short = short }) in
      cc;
}
