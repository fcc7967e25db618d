use Rattle.std.proofs.Common.{◌≡◌, ℕ, length, sym, subst, arith}
use Rattle.zy_check.specs.Cause.{agreeing}
use Rattle.zy_check.proofs.ByteLemmas.{agreeing_at}
use Rattle.zy_check.proofs.bytes.first_difference.Goals as goal
use Rattle.zy_check.proofs.bytes.first_difference.Goals.{then-other-at-via-then-other-at, then-other-at-via-else-other-at+then-one-at}

pub returns-then-other-at-clause-value : goal.returns-then-other-at-clause-value
returns-then-other-at-clause-value c =
    let one = c.args.one.now in
    let other = c.args.other.now in
    let so = c.loop-at.invariant in
    let near = c.loop-at-test.true in
    elim c.then-other-at.branch [
      | then-other-at-via-then-other-at w ↦ sym (agreeing_at one other c.loop-at.at so.same (omega arith) so.short (λ low high. let end = w.if-other-at.true in absurd (omega arith)))
      | then-other-at-via-else-other-at+then-one-at w ↦ sym (agreeing_at one other c.loop-at.at so.same (omega arith) so.short (λ low high same. w.if-one-at.true same))
    ]

pub returns-clause-value : goal.returns-clause-value
returns-clause-value c =
    let one = c.args.one.now in
    let other = c.args.other.now in
    let so = c.loop-at.invariant in
    let end = c.loop-at-test.false in
    let most = c.loop-at.auto.at-end in
    let all : c.loop-at.at ≡ length one = omega arith in
    subst (λ (n : ℕ). n ≡ agreeing one other) all (sym (agreeing_at one other c.loop-at.at so.same most so.short (λ low high. absurd (omega arith))))
