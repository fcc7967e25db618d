use Rattle.std.proofs.Common.{◌++◌, sym, ap, ◌∙◌}
use Rattle.std.specs.Int.{to_be_bytes, w64}
use Rattle.mc_calls.specs.declared.tallied.Tallied.{Tallied}
use Rattle.zy_journal.specs.Journal.{counts_text, field_text}
use Rattle.zy_journal.proofs.WriteLemmas.{appended_5}
use Rattle.zy_journal.proofs.gathered.put_counts.Goals as goal

pub returns-in-Some-clause-value : goal.returns-in-Some-clause-value
returns-in-Some-clause-value g c =
    let counts : Tallied = c.in-Some.counts in
    appended_5 c.args.text.now.items c.put.new.text.items c.put-in-Some.new.text.items c.put-in-Some-2.new.text.items c.put-in-Some-3.new.text.items c.put-in-Some-4.new.text.items
    c.to_be_bytes.result c.to_be_bytes-in-Some.result c.to_be_bytes-in-Some-2.result c.to_be_bytes-in-Some-3.result c.to_be_bytes-in-Some-4.result
    (to_be_bytes w64 counts.gets) (to_be_bytes w64 counts.sets) (to_be_bytes w64 counts.hits) (to_be_bytes w64 counts.misses) (to_be_bytes w64 counts.items)
    c.put.ensures.value c.put-in-Some.ensures.value c.put-in-Some-2.ensures.value c.put-in-Some-3.ensures.value c.put-in-Some-4.ensures.value
    c.to_be_bytes.ensures c.to_be_bytes-in-Some.ensures c.to_be_bytes-in-Some-2.ensures c.to_be_bytes-in-Some-3.ensures c.to_be_bytes-in-Some-4.ensures
    ∙ sym (ap (λ (o : _). c.args.text.now.items ++ field_text counts_text o) c.in-Some.is)
