use Rattle.std.proofs.Common.{ℕ, List, length, ap, sym, ◌∙◌}
use Rattle.std.proofs.lemmas.Bool.{eqb-true}
use Rattle.zy_sessions.proofs.NoteLemmas.{holds_on_ok, lasting_marked, no_bytes_if}
use Rattle.zy_sessions.proofs.line.Line.take.Goals as goal

pub returns-then-is_empty-clause-lasting : goal.returns-then-is_empty-clause-lasting
returns-then-is_empty-clause-lasting c =
    let none = no_bytes_if c.args.segment.now.bytes
    (ap (λ (l : List ℕ). length l) (sym c.bytes.ensures.value) ∙ eqb-true (length c.bytes.result.now) 0 (sym c.is_empty.ensures ∙ c.if-is_empty.true)) in
    holds_on_ok c.mark.result (λ records held holds. lasting_marked c.args.lasting.now records c.args.segment.now none holds)
