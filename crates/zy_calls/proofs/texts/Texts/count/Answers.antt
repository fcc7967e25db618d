use Rattle.std.proofs.Common.{length, ap, arith}
use Rattle.zy_calls.proofs.TextLemmas.{length-texts_from}
use Rattle.zy_calls.proofs.texts.Texts.count.Goals as goal

pub returns : goal.returns
returns c = record { value = omega (arith, c.len.ensures, length-texts_from c.self.inside.bytes 0 c.self.inside.ends.items, ap length c.self.view_is) }
