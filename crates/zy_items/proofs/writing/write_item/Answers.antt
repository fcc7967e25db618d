use Rattle.zy_base.proofs.WritingLemmas.{writes_as}
use Rattle.zy_items.proofs.WriteLemmas.{text_item}
use Rattle.zy_items.proofs.writing.write_item.Goals as goal

pub returns : goal.returns
returns g c = record {
  writes = writes_as
      (text_item c.args.kept.now c.to_be_bytes-key_size.result c.bytes-key.result.now c.to_be_bytes-flags.result c.to_be_bytes-unique.result c.to_be_bytes-size.result c.bytes-value.result.now
      c.to_be_bytes-key_size.ensures c.bytes-key.ensures.value c.to_be_bytes-flags.ensures c.to_be_bytes-unique.ensures c.to_be_bytes-size.ensures c.bytes-value.ensures.value)
      c.write_pieces.ensures.writes;
}
