use Rattle.std.proofs.Common.{◌≡◌, [], ◌∷◌, ◌++◌, rules}
use Rattle.zy_base.proofs.WritingLemmas.{writes_as, writes_after, writes_cut, written_as, written_on}
use Rattle.zy_items.proofs.WriteLemmas.{one_more, text_on, text_parts}
use Rattle.zy_items.proofs.writing.write_lasting.Goals as goal

pub loop-key-preserved : goal.loop-key-preserved
loop-key-preserved g c =
    let first : c.loop-key.key-iterator ≡ c.in-Some.key.now ∷ c.next.new.self = search rules in
    record {
      before = c.loop-key.invariant.before ++ c.in-Some.key.now ∷ [];
      all = one_more c.loop-key.invariant.before c.loop-key.key-iterator c.next.new.self c.args.keys.now.keys c.in-Some.key.now c.loop-key.invariant.all first;
      written = written_as (text_on c.loop-key.invariant.before c.in-Some.key.now) (written_on c.loop-key.invariant.written c.in_ok-write_key.ensures.writes);
    }

pub returns-in_err-write_key : goal.returns-in_err-write_key
returns-in_err-write_key g c =
    let first : c.loop-key.key-iterator ≡ c.in-Some.key.now ∷ c.next.new.self = search rules in
    record {
      writes = writes_as (text_parts c.loop-key.invariant.before c.loop-key.key-iterator c.next.new.self c.args.keys.now.keys c.in-Some.key.now c.loop-key.invariant.all first)
          (writes_after c.loop-key.invariant.written (writes_cut _ c.from_residual.ensures.0 c.in_err-write_key.ensures.writes));
    }
