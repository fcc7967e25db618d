use Rattle.std.proofs.Common.{ap, ◌∙◌}
use Rattle.zy_calls.specs.Texts.{end_of}
use Rattle.zy_calls.proofs.TextLemmas.{popped}
use Rattle.zy_calls.proofs.texts.Texts.pop.Goals as goal

pub invariant_of-self-2 : goal.invariant_of-self-2
invariant_of-self-2 c =
    (popped c.self.inside.bytes c.truncate.new.self c.self.inside.ends.items c.pop.new.self.items c.in-Some._last c.last_end-end.result c.self.invariant c.in-Some.ensures.items
    (c.last_end-end.ensures.value ∙ ap (end_of 0) c.as_slice.ensures.value) c.truncate.ensures.value).0

pub returns : goal.returns
returns c = record {
  value = λ texts text held.
      (popped c.self.inside.bytes c.truncate.new.self c.self.inside.ends.items c.pop.new.self.items c.in-Some._last c.last_end-end.result c.self.invariant c.in-Some.ensures.items
      (c.last_end-end.ensures.value ∙ ap (end_of 0) c.as_slice.ensures.value) c.truncate.ensures.value).1 texts text (c.self.view_is ∙ held);
}
