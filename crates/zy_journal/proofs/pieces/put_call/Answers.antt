use Rattle.std.proofs.Common.{refl, ap}
use Rattle.zy_journal.specs.Journal.{field_text, key_text}
use Rattle.zy_journal.proofs.WriteLemmas.{appended_call}
use Rattle.zy_journal.proofs.pieces.put_call.Goals as goal

pub returns-clause-value : goal.returns-clause-value
returns-clause-value g c =
    appended_call c.args.text.now.items c.put_head.new.text.items c.put.new.text.items c.put_key.new.text.items c.put_fields.new.text.items _ _ _ _ _ _ c.code.result _
    c.put_head.ensures.value c.put.ensures.value c.put_key.ensures.value c.put_fields.ensures.value
    refl c.code.ensures.value (ap (field_text key_text) c.key.ensures.value) (rw (c.flags.ensures.value, c.number.ensures.value, c.value.ensures.value) refl)
