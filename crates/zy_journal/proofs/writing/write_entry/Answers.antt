use Rattle.std.proofs.Common.{◌≡◌, List, ℕ, ◌++◌, sym, ◌∙◌, ap}
use Rattle.zy_base.proofs.WritingLemmas.{writes_as}
use Rattle.zy_journal.specs.Journal.{entry_head}
use Rattle.zy_journal.specs.Pieces.{lent_bytes, call_head, reply_head}
use Rattle.zy_journal.proofs.PieceLemmas.{pieces_are, short_are}
use Rattle.zy_journal.proofs.writing.write_entry.Goals as goal

pub returns-in-None : goal.returns-in-None
returns-in-None g c =
    let e = c.args.entry.now in
    let head : List ℕ = entry_head e ++ call_head e.call in
    let call : c.put_call.new.text.items ≡ head = c.put_call.ensures.value ∙ ap (λ (l : List ℕ). l ++ head) c.new-text.ensures in
    record {
      writes = writes_as
          (short_are e c.as_slice.result.now c.bytes_of-last.result.now (sym c.in-None.ensures.value)
          (c.as_slice.ensures.value ∙ c.put_reply.ensures.value ∙ ap (λ (l : List ℕ). l ++ reply_head e.reply) call)
          (c.bytes_of-last.ensures.value ∙ ap lent_bytes c.reply_value.ensures.value))
          c.write_pieces.ensures.writes;
    }

pub returns-in-Some : goal.returns-in-Some
returns-in-Some g c =
    let e = c.args.entry.now in
    let head : List ℕ = entry_head e ++ call_head e.call in
    let call : c.put_call.new.text.items ≡ head = c.put_call.ensures.value ∙ ap (λ (l : List ℕ). l ++ head) c.new-text.ensures in
    record {
      writes = writes_as
          (pieces_are e c.as_slice-in-Some.result.now c.bytes.result.now c.as_slice-in-Some-2.result.now c.bytes_of-last.result.now
          (c.as_slice-in-Some.ensures.value ∙ call) (c.bytes.ensures.value ∙ ap lent_bytes c.in-Some.ensures.value)
          (c.as_slice-in-Some-2.ensures.value ∙ c.put_reply-in-Some.ensures.value ∙ ap (λ (l : List ℕ). l ++ reply_head e.reply) c.new-reply.ensures)
          (c.bytes_of-last.ensures.value ∙ ap lent_bytes c.reply_value.ensures.value))
          c.write_pieces-in-Some.ensures.writes;
    }
