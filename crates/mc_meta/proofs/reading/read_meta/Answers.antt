use Rattle.std.proofs.Common.{ap, sym, subst, ◌∙◌}
use Rattle.std.specs.Prelude.{IfSome}
use Rattle.mc_meta.specs.declared.meta_line.MetaLine.{MetaLine}
use Rattle.mc_meta.specs.Key.{key_of, IsKeyIn}
use Rattle.mc_meta.specs.Meta.{meta_of}
use Rattle.mc_meta.proofs.KeyLemmas.{line_key}
use Rattle.mc_meta.proofs.reading.read_meta.Goals as goal

-- src/reading.rt:14:1
pub returns-in-Some-clause-key : goal.returns-in-Some-clause-key
returns-in-Some-clause-key c =
    let is = c.read_after.ensures.value ∙ sym (ap meta_of c.in-Some.ensures.found) in
    subst (λ (said : MetaLine). IfSome (key_of said) (IsKeyIn c.args.line.now)) (sym is) (line_key c.args.line.now)
