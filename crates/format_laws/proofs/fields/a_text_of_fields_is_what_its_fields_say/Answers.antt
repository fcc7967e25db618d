use Rattle.zy_read.proofs.VerdictLemmas.{outcome, whole_good}
use Rattle.format_laws.proofs.VerdictLemmas.{cut_bad, fault_bad}
use Rattle.format_laws.proofs.fields.a_text_of_fields_is_what_its_fields_say.Goals as goal

pub returns : goal.returns
returns g c =
    let lawful = g.met.S.FieldFormat.lawful in
    record {
      only = outcome g.S.FieldFormat.fields lawful g.S.FieldFormat.good g.S.FieldFormat.bad;
      whole = whole_good g.S.FieldFormat.fields lawful g.S.FieldFormat.good g.S.FieldFormat.bad;
      cut = cut_bad g.S.FieldFormat.fields lawful g.S.FieldFormat.good g.S.FieldFormat.bad;
      fault = fault_bad g.S.FieldFormat.fields lawful g.S.FieldFormat.good g.S.FieldFormat.bad;
    }
