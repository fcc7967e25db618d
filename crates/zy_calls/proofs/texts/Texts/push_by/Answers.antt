use Rattle.std.proofs.Common.{◌++◌, ◌∷◌, [], ℕ, List, length, ap, ◌∙◌}
use Rattle.zy_calls.proofs.TextLemmas.{pushed_as}
use Rattle.zy_calls.proofs.texts.Texts.push_by.Goals as goal

pub invariant_of-self-2 : goal.invariant_of-self-2
invariant_of-self-2 g c =
    (pushed_as c.self.inside.bytes (g.W.Writes.text c.args.writer.now) c.self.inside.ends.items c.write.new.out c.push_reserved.new.self.items _ c.self.invariant
    c.in_ok-write.ensures.ok (c.push_reserved.ensures.items ∙ ap (λ (ends : List ℕ). ends ++ length c.bytes.result.now ∷ []) c.reserve.ensures.items) (ap length c.bytes.ensures.value)).rise

pub returns-clause-ok : goal.returns-clause-ok
returns-clause-ok g c =
    (pushed_as c.self.inside.bytes (g.W.Writes.text c.args.writer.now) c.self.inside.ends.items c.write.new.out c.push_reserved.new.self.items _ c.self.invariant
    c.in_ok-write.ensures.ok (c.push_reserved.ensures.items ∙ ap (λ (ends : List ℕ). ends ++ length c.bytes.result.now ∷ []) c.reserve.ensures.items) (ap length c.bytes.ensures.value)).texts_are
    ∙ ap (λ (texts : List (List ℕ)). texts ++ g.W.Writes.text c.args.writer.now ∷ []) c.self.view_is
