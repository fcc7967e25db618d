use Rattle.std.proofs.Common.{◌≡◌, ◌<◌, [], ◌∷◌, ◌++◌, List, length, take, slice_get, ◌∙◌, ap, sym, arith}
use Rattle.std.specs.Prelude.{Some}
use Rattle.std.proofs.lemmas.Option.{same_Some}
use Rattle.mc_shard.specs.Places.{Held, half, doubled}
use Rattle.mc_shard.proofs.LineLemmas.{take_one, doubled_more}
use Rattle.mc_shard.proofs.PlaceLemmas.{got_at}
use Rattle.mc_shard.proofs.places.growing.doubled.Goals as goal

pub loop-at-preserved : goal.loop-at-preserved
loop-at-preserved c =
    let at = c.loop-at.at in
    let shift = c.args.shift in
    let lines : List Held = c.args.lines.now.items in
    let line : Held = c.index.result.now in
    let below : at < length lines = omega (arith, c.loop-at-test.true, c.len-at-end.ensures, c.args.lines.now.ok.0) in
    let got : slice_get lines at ≡ Some line = got_at lines at line below c.index.ensures in
    let again : slice_get lines at ≡ Some c.index-in-loop-at.result.now = got_at lines at c.index-in-loop-at.result.now below c.index-in-loop-at.ensures in
    let same : c.index-in-loop-at.result.now ≡ line = same_Some _ _ (sym again ∙ got) in
    record {
      twice = c.push_reserved-in-loop-at.ensures.items
          ∙ ap (λ (l : List Held). l ++ c.half_of-in-loop-at.result ∷ []) c.push_reserved.ensures.items
          ∙ ap (λ (h : Held). (c.loop-at.twice.items ++ c.half_of.result ∷ []) ++ h ∷ []) (c.half_of-in-loop-at.ensures.value ∙ ap (half shift 1) same)
          ∙ ap (λ (h : Held). (c.loop-at.twice.items ++ h ∷ []) ++ half shift 1 line ∷ []) c.half_of.ensures.value
          ∙ ap (λ (l : List Held). (l ++ half shift 0 line ∷ []) ++ half shift 1 line ∷ []) c.loop-at.invariant.twice
          ∙ sym (doubled_more shift (take at lines) line) ∙ ap (doubled shift) (sym (take_one lines at line got));
      count = omega (arith, c.push_reserved-in-loop-at.ensures.len, c.push_reserved.ensures.len, c.loop-at.invariant.count);
      within = omega (arith, below);
      room = omega (arith, c.push_reserved-in-loop-at.ensures.capacity, c.push_reserved.ensures.capacity, c.loop-at.invariant.room);
    }
