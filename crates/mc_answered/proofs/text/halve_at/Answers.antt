use Rattle.std.proofs.Common.{ap, sym, ◌∙◌, subst, List, ℕ, take}
use Rattle.std.specs.Prelude.{Some, None}
use Rattle.memchr.specs.Find.{IsFirstByte, is_byte}
use Rattle.mc_answered.proofs.ReadingLemmas.{found_halves}
use Rattle.mc_answered.proofs.text.halve_at.Goals as goal

pub returns-in-Some : goal.returns-in-Some
returns-in-Some c =
    let found = (found_halves c.args.stop c.args.text.now (Some c.in-Some.at) (subst (IsFirstByte (is_byte c.args.stop) c.args.text.now) c.in-Some.is c.memchr.ensures)).1 in
    record { value = ap (λ (rest : List ℕ). Some (record { front = take c.in-Some.at c.args.text.now; rest = rest })) c.text_from.ensures.value ∙ sym found }

pub returns-in-None : goal.returns-in-None
returns-in-None c = record { value = sym (found_halves c.args.stop c.args.text.now None (subst (IsFirstByte (is_byte c.args.stop) c.args.text.now) c.in-None.is c.memchr.ensures)) }
