use Rattle.std.proofs.Common.{ap, sym, ◌∙◌}
use Rattle.std.specs.List.{concat}
use Rattle.zy_calls.proofs.TextLemmas.{concat-texts_from}
use Rattle.zy_calls.proofs.texts.Texts.into_bytes.Goals as goal

pub returns : goal.returns
returns c = record { value = sym (concat-texts_from c.self.inside.bytes 0 c.self.inside.ends.items c.self.invariant) ∙ ap concat c.self.view_is }
