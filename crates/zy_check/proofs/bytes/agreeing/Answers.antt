use Rattle.std.proofs.Common.{◌≡◌, ℕ, List, ◌++◌, length, take, drop, sym, ap, ◌∙◌, arith}
use Rattle.std.proofs.Math.Seq.{take-length, take-append_seam}
use Rattle.std.proofs.lemmas.Bool.Decides.{Decides-eqb}
use Rattle.std.proofs.lemmas.Slice.Eq.{starts_is}
use Rattle.zy_check.proofs.ByteLemmas.{agreeing_at}
use Rattle.zy_check.proofs.bytes.agreeing.Goals as goal

pub returns-then-starts_with-clause-value : goal.returns-then-starts_with-clause-value
returns-then-starts_with-clause-value c =
    let one = c.args.one.now in
    let other = c.args.other.now in
    let begins : one ≡ other ++ drop (length other) one = (starts_is Decides-eqb one other c.starts_with.result c.starts_with.ensures.value).0 c.if-starts_with.true in
    let same : take (length other) one ≡ other = ap (λ (l : List ℕ). take (length other) l) begins ∙ take-append_seam other (drop (length other) one) in
    sym (agreeing_at one other (length other) (same ∙ sym (take-length other)) (c.starts_with.ensures.bound c.if-starts_with.true) (omega arith) (λ low high. absurd (omega arith)))
