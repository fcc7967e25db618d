use Rattle.std.proofs.Common.{◌≡◌, ◌+◌, ◌-◌, ℕ, List, ◌∷◌, drop, ap, ◌∙◌, arith}
use Rattle.std.proofs.lemmas.Fmt.{length-decimal-le}
use Rattle.std.proofs.lemmas.List.{drop-set}
use Rattle.mc_reply.proofs.item.put_before.Goals as goal

pub write_digits-start-requires : goal.write_digits-start-requires
write_digits-start-requires c =
    let few = length-decimal-le 20 c.args.number (omega arith) (omega (arith, c.ranges.number.fits)) c.ranges.number.fits in
    (omega (arith, few, c.requires.fits), c.requires.within)

pub overflow_sub-start : goal.overflow_sub-start
overflow_sub-start c =
    let few = length-decimal-le 20 c.args.number (omega arith) (omega (arith, c.ranges.number.fits)) c.ranges.number.fits in
    omega (arith, few, c.requires.fits, c.write_digits-start.ensures.start)

pub returns-clause-value : goal.returns-clause-value
returns-clause-value c =
    let few = length-decimal-le 20 c.args.number (omega arith) (omega (arith, c.ranges.number.fits)) c.ranges.number.fits in
    let start = c.write_digits-start.ensures.start in
    let back : c.write_digits-start.result - 1 + 1 ≡ c.write_digits-start.result = omega (arith, few, start, c.requires.fits) in
    drop-set c.write_digits-start.new.buf (c.write_digits-start.result - 1) 32 (omega (arith, few, start, c.requires.fits, c.requires.within, c.write_digits-start.auto.buf))
    ∙ ap (λ (n : ℕ). 32 ∷ drop n c.write_digits-start.new.buf) back
    ∙ ap (λ (l : List ℕ). 32 ∷ l) c.write_digits-start.ensures.written

pub returns-clause-start : goal.returns-clause-start
returns-clause-start c =
    let few = length-decimal-le 20 c.args.number (omega arith) (omega (arith, c.ranges.number.fits)) c.ranges.number.fits in
    omega (arith, few, c.write_digits-start.ensures.start)
