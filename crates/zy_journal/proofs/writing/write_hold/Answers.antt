use Rattle.std.specs.Int.{to_be_bytes, w32}
use Rattle.zy_base.proofs.WritingLemmas.{writes_as}
use Rattle.zy_journal.specs.Journal.{hold_text}
use Rattle.zy_journal.proofs.WriteLemmas.{text_3}
use Rattle.zy_journal.proofs.writing.write_hold.Goals as goal

pub returns : goal.returns
unfolding hold_text
returns g c =
    let h = c.args.hold.now in
    record {
      writes = writes_as
          (text_3 72 c.to_be_bytes-conn.result c.to_be_bytes-core.result c.to_be_bytes-count.result (to_be_bytes w32 h.conn) (to_be_bytes w32 h.core) (to_be_bytes w32 h.count) c.to_be_bytes-conn.ensures c.to_be_bytes-core.ensures c.to_be_bytes-count.ensures)
          c.write_pieces.ensures.writes;
    }
