use Rattle.std.proofs.Common.{sym, ap, ◌∙◌, slice_get}
use Rattle.zy_core.specs.Core.{identity_of}
use Rattle.zy_core.proofs.ListLemmas.{get_map, map_get}
use Rattle.core_laws.proofs.staying.each_core_stays.Goals as goal

pub returns : goal.returns
returns c = record {
  value = λ before after i core same at.
      let was = map_get identity_of before i (identity_of core) (ap (λ l. slice_get l i) (sym same) ∙ get_map identity_of after i core at) in
      (was.0, was.1, sym was.2);
}
