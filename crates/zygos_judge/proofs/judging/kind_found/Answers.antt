use Rattle.std.proofs.Common.{◌≡◌, subst}
use Rattle.mc_allows.specs.declared.call_name.CallName.{CallName}
use Rattle.zygos_judge.specs.Finding.{number_of_command}
use Rattle.zygos_judge.proofs.judging.kind_found.Goals as goal

pub returns-in-Some : goal.returns-in-Some
returns-in-Some c = record {
  found = λ window count r hold refuted. (
    tt,
    (
      refuted.0,
      record {
        session = c.args.session;
        index = c.args.index;
        command_is = subst (λ (name : CallName). number_of_command r name ≡ c.in-Some.command) c.name_of.ensures.value (c.in-Some.ensures.value count r hold);
        refuted = refuted.1;
      },
    ),
  );
}
