use Rattle.zy_explain.specs.Judged.{judged_after}
use Rattle.zy_verdict.specs.Recorded.{Recorded}
use Rattle.zygos_judge.proofs.CallLemmas.{culprit_refutes, culprit_named}
use Rattle.zygos_judge.proofs.refuting.named.Goals as goal

pub returns-in-Some-Unmet : goal.returns-in-Some-Unmet
returns-in-Some-Unmet c = record {
  found = λ count records outputs hold shown.
      let r : Recorded = judged_after c.args.lasting.now.keys c.args.rules count records outputs in
      let call = c.requires.culprit count records outputs hold shown in
      (culprit_refutes r c.args.refuted.name c.an_explained_recording_has_courses.ensures.some call, culprit_named r c.args.refuted.name c.in-Some-Unmet.command (c.in-Some-Unmet.ensures.value count r hold) call);
  plain = λ window. tt;
}

pub returns-in-Some-Shared : goal.returns-in-Some-Shared
returns-in-Some-Shared c = record {
  found = λ count records outputs hold shown.
      let r : Recorded = judged_after c.args.lasting.now.keys c.args.rules count records outputs in
      let call = c.requires.culprit count records outputs hold shown in
      (culprit_refutes r c.args.refuted.name c.an_explained_recording_has_courses.ensures.some call, culprit_named r c.args.refuted.name c.in-Some-Shared.command (c.in-Some-Shared.ensures.value count r hold) call);
  plain = λ window. tt;
}
