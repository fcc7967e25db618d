use Rattle.std.specs.List.{slice_get}
use Rattle.std.proofs.Common.{◌≡◌, ℕ, ◌+◌, ◌-◌, true, Some, length, refl, subst, arith}
use Rattle.std.proofs.lemmas.Option.{slice_get_read}
use Rattle.zy_explain.proofs.BetweenLemmas.{holds_before}
use Rattle.zy_explain.proofs.beginning.put_items.Goals as goal

pub loop-done-preserved : goal.loop-done-preserved
loop-done-preserved c =
    let items = c.args.items.now in
    let done = c.loop-done.done in
    let kept = c.index-items-count.result in
    let within = c.loop-done-test.true in
    let is : c.in_ok-put_kept.field-0 ≡ true = let f = c.if-not-branch.false in grind (arith, f) in
    let place : length items - 1 - done ≡ length items - (done + 1) = omega arith in
    let there = slice_get_read items (length items) (length items - 1 - done) kept refl (omega (arith, within)) c.index-items-count.is in
    holds_before c.args.shards c.loop-done.store c.put_kept.new.store items kept (length items - (done + 1)) (length items - done) (omega (arith, within))
    (subst (λ (n : ℕ). slice_get items n ≡ Some kept) place there) c.loop-done.invariant (c.in_ok-put_kept.ensures.changed is)
