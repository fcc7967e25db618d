use Rattle.std.proofs.Common.{◌++◌, ap, sym, ◌∙◌, append_assoc, take, drop, ◌+◌, List, ℕ, refl, arith}
use Rattle.mc_answered.specs.With.{said_item, said_items}
use Rattle.mc_answered.proofs.FoundLemmas.{found_two, said_next}
use Rattle.mc_answered.proofs.listing.items_length.Goals as goal

pub loop-i-preserved : goal.loop-i-preserved
loop-i-preserved c =
    let asked = c.args.asked in
    let keys = c.args.keys.now in
    let saids = c.args.saids.now in
    let bytes = c.args.bytes.now in
    let i = c.loop-i.i in
    let at = c.loop-i.at in
    let near = c.loop-i-test.true in
    let same = c.requires.same in
    let said = c.index-saids-i.result in
    let rest = said_items asked (drop (i + 1) keys) (drop (i + 1) saids) in
    let both = found_two bytes at c.in-Some.length (take at bytes) (said_item asked c.bytes.result.now said) c.text_from.result.now c.loop-i.invariant.low refl c.text_from.ensures.value
    c.in-Some.ensures.value.0 c.in-Some.ensures.value.1 in
    record {
      low = both.low;
      is = c.loop-i.invariant.is
          ∙ ap (λ (t : List ℕ). take at bytes ++ t) (said_next asked keys saids i c.index-keys-i.result c.index-saids-i.result (omega arith) (omega arith) c.index-keys-i.is c.index-saids-i.is)
          ∙ ap (λ (key : List ℕ). take at bytes ++ (said_item asked key said ++ rest)) (sym c.bytes.ensures.value)
          ∙ sym (append_assoc (take at bytes) (said_item asked c.bytes.result.now said) rest) ∙ ap (λ (t : List ℕ). t ++ rest) (sym both.is);
    }
