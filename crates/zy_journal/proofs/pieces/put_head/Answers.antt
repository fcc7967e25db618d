use Rattle.std.proofs.Common.{List, ℕ, [], ◌∷◌, ◌++◌, ◌∙◌, ap, append_assoc}
use Rattle.std.specs.Int.{to_be_bytes, w32, w64}
use Rattle.mc_calls.specs.declared.entry.Tag.{Tag}
use Rattle.zy_journal.specs.Journal.{entry_head}
use Rattle.zy_journal.proofs.WriteLemmas.{appended_5}
use Rattle.zy_journal.proofs.pieces.put_head.Goals as goal

pub returns-clause-value : goal.returns-clause-value
unfolding entry_head
returns-clause-value g c =
    let e = c.args.entry.now in
    let numbers : List ℕ = to_be_bytes w64 e.stamp ++ (to_be_bytes w32 e.shard ++ (to_be_bytes w32 e.tag.conn ++ (to_be_bytes w64 e.tag.index ++ to_be_bytes w32 e.tag.part))) in
    appended_5 c.put.new.text.items c.put-2.new.text.items c.put-3.new.text.items c.put-4.new.text.items c.put-5.new.text.items c.put-6.new.text.items
    c.to_be_bytes.result c.to_be_bytes-2.result c.to_be_bytes-3.result c.to_be_bytes-4.result c.to_be_bytes-5.result
    (to_be_bytes w64 e.stamp) (to_be_bytes w32 e.shard) (to_be_bytes w32 e.tag.conn) (to_be_bytes w64 e.tag.index) (to_be_bytes w32 e.tag.part)
    c.put-2.ensures.value c.put-3.ensures.value c.put-4.ensures.value c.put-5.ensures.value c.put-6.ensures.value
    (c.to_be_bytes.ensures ∙ ap (to_be_bytes w64) c.stamp.ensures.value) (c.to_be_bytes-2.ensures ∙ ap (to_be_bytes w32) c.shard.ensures.value)
    (c.to_be_bytes-3.ensures ∙ ap (λ (t : Tag). to_be_bytes w32 t.conn) c.tag-tag.ensures.value) (c.to_be_bytes-4.ensures ∙ ap (λ (t : Tag). to_be_bytes w64 t.index) c.tag-tag.ensures.value)
    (c.to_be_bytes-5.ensures ∙ ap (λ (t : Tag). to_be_bytes w32 t.part) c.tag-tag.ensures.value)
    ∙ ap (λ (l : List ℕ). l ++ numbers) c.put.ensures.value
    ∙ append_assoc c.args.text.now.items (74 ∷ []) numbers
