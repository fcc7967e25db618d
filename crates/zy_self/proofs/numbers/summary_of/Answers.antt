use Rattle.std.proofs.Common.{◌∙◌, ap}
use Rattle.zy_self.specs.Numbers.{all_held}
use Rattle.zy_self.proofs.NumberLemmas.{numbers_of}
use Rattle.zy_self.proofs.numbers.summary_of.Goals as goal

pub returns : goal.returns
returns c = record {
  value = λ count version records spans are.
      numbers_of c.in_ok-all_held.field-0 c.in-Some.calls c.in_ok-all_bytes.field-0 c.args.done.now.journal.holds c.args.done.now.journal.entries c.args.done.now.outputs count version records
      (c.in_ok-all_held.ensures.value ∙ ap all_held c.holds.ensures.value) c.in-Some.ensures.value c.in_ok-all_bytes.ensures.value spans are;
}
