use Rattle.std.proofs.Common.{ℕ, List, [], ◌∷◌, ◌++◌, ap}
use Rattle.std.specs.Prelude.{flat_map}
use Rattle.std.specs.Int.{to_be_bytes, w64}
use Rattle.zy_base.proofs.WritingLemmas.{writes_as, writes_then, writes_cut}
use Rattle.zy_items.specs.declared.standing.KeptItem.{KeptItem}
use Rattle.zy_items.specs.Items.{items_bytes, item_text, lasting_text}
use Rattle.zy_items.proofs.WriteLemmas.{text_head}
use Rattle.zy_items.proofs.writing.write_items.Goals as goal

pub returns-in_err-write_pieces : goal.returns-in_err-write_pieces
unfolding items_bytes
returns-in_err-write_pieces g c =
    let s = c.args.standing.now in
    let rest : List ℕ = flat_map item_text s.items.items ++ (flat_map lasting_text s.lasting.keys ++ 69 ∷ []) in
    record {
      writes = writes_as (text_head c.to_be_bytes-bound.result (to_be_bytes w64 s.bound) rest c.to_be_bytes-bound.ensures) (writes_cut rest c.from_residual.ensures.0 c.in_err-write_pieces.ensures.writes);
    }

pub returns-in_err-write_all_items : goal.returns-in_err-write_all_items
unfolding items_bytes
returns-in_err-write_all_items g c =
    let s = c.args.standing.now in
    let rest : List ℕ = flat_map item_text s.items.items ++ (flat_map lasting_text s.lasting.keys ++ 69 ∷ []) in
    record {
      writes = writes_as (text_head c.to_be_bytes-bound.result (to_be_bytes w64 s.bound) rest c.to_be_bytes-bound.ensures)
          (writes_then c.in_ok-write_pieces.ensures.writes
          (writes_cut (flat_map lasting_text s.lasting.keys ++ 69 ∷ []) c.from_residual-in_err-write_all_items.ensures.0
          (writes_as (ap (λ (l : List KeptItem). flat_map item_text l) c.as_slice.ensures.value) c.in_err-write_all_items.ensures.writes)));
    }

pub returns-in_err-write_lasting : goal.returns-in_err-write_lasting
unfolding items_bytes
returns-in_err-write_lasting g c =
    let s = c.args.standing.now in
    let rest : List ℕ = flat_map item_text s.items.items ++ (flat_map lasting_text s.lasting.keys ++ 69 ∷ []) in
    record {
      writes = writes_as (text_head c.to_be_bytes-bound.result (to_be_bytes w64 s.bound) rest c.to_be_bytes-bound.ensures)
          (writes_then c.in_ok-write_pieces.ensures.writes
          (writes_then (writes_as (ap (λ (l : List KeptItem). flat_map item_text l) c.as_slice.ensures.value) c.in_ok-write_all_items.ensures.writes)
          (writes_cut (69 ∷ []) c.from_residual-in_err-write_lasting.ensures.0 c.in_err-write_lasting.ensures.writes)));
    }

pub returns : goal.returns
unfolding items_bytes
returns g c =
    let s = c.args.standing.now in
    let rest : List ℕ = flat_map item_text s.items.items ++ (flat_map lasting_text s.lasting.keys ++ 69 ∷ []) in
    record {
      writes = writes_as (text_head c.to_be_bytes-bound.result (to_be_bytes w64 s.bound) rest c.to_be_bytes-bound.ensures)
          (writes_then c.in_ok-write_pieces.ensures.writes
          (writes_then (writes_as (ap (λ (l : List KeptItem). flat_map item_text l) c.as_slice.ensures.value) c.in_ok-write_all_items.ensures.writes)
          (writes_then c.in_ok-write_lasting.ensures.writes c.write_whole.ensures.writes)));
    }
