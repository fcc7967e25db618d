use Rattle.std.proofs.Common.{◌≡◌, ◌<◌, ◌≤◌, length, ◌∙◌, arith}
use Rattle.std.proofs.lemmas.List.{length-set}
use Rattle.zy_journal.proofs.WalkLemmas.{one_group}
use Rattle.zy_journal.proofs.heads.quads_of.Goals as goal

pub loop-quad-preserved : goal.loop-quad-preserved
loop-quad-preserved c =
    let size : length c.loop-quad.quads ≡ 64 = c.loop-quad.invariant.size in
    let less = c.loop-quad-test.true in
    let room : c.loop-quad.quad < length c.loop-quad.quads = omega (arith, size, less) in
    record {
      quads = λ rests heads. one_group 4 rests c.loop-quad.quads c.loop-quad.quad c.quad_of.result room (c.loop-quad.invariant.quads rests heads) (c.quad_of.ensures.value rests heads);
      size = length-set c.loop-quad.quads c.loop-quad.quad c.quad_of.result ∙ size;
      within = omega (arith, less);
    }

pub returns : goal.returns
returns c =
    let end : 64 ≤ c.loop-quad.quad = c.loop-quad-test.false in
    record { value = λ rests heads quad less. c.loop-quad.invariant.quads rests heads quad (omega (arith, less, end)) }
