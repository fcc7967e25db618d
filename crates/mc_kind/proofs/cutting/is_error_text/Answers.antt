use Rattle.std.proofs.Common.{ap, sym, ◌∙◌, length, eq-eqb}
use Rattle.std.proofs.lemmas.List.{length-take-le}
use Rattle.mc_kind.proofs.ListingLemmas.{some_error_first}
use Rattle.mc_kind.proofs.cutting.is_error_text.Goals as goal

pub returns-else-length-bytes : goal.returns-else-length-bytes
returns-else-length-bytes c = record {
  value = λ error.
      let same = some_error_first c.args.bytes.now c.in-Some.length c.in-Some.ensures.some error in
      eq-eqb c.in-Some.length (length c.args.bytes.now) (sym (length-take-le c.in-Some.length c.args.bytes.now c.in-Some.ensures.within.1) ∙ ap length same);
}
