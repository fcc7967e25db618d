use Rattle.std.proofs.Common.{subst}
use Rattle.zy_outputs.specs.Observing.{IsSurplus, IsEarlyEnd}
use Rattle.zygos_judge.specs.Words.{task_asked}
use Rattle.zy_read.specs.Seen.{Seen, side, both_sides}
use Rattle.zy_verdict.specs.Explained.{IsExplained}
use Rattle.zygos_judge.specs.declared.finding.Reason.TheVariants.{Kind, Surplus, EarlyEnd, Unmet, Shared}
use Rattle.zygos_judge.specs.Ends.{HasCause}
use Rattle.zygos_judge.specs.Finding.{IsRefutedCommand, IsWithoutCourse}
use Rattle.zygos_judge.proofs.EndLemmas.{invalid_with, unlawful_for, judged_for, refused_for, yes_so, between_so, refuted_so, unknown_so}
use Rattle.zygos_judge.proofs.serving.serve_judge.Goals as goal

pub returns-clause-usage : goal.returns-clause-usage
returns-clause-usage g c = λ is.
    let call : Seen = both_sides (side g.S.Source.rest g.S.Source.faults c.args.source.now c.carry_out-answer.new.source) (side g.K.Sink.holds g.K.Sink.faults c.args.sink.now c.carry_out-answer.new.sink) in
    invalid_with (task_asked c.args.words.now) (subst (HasCause (task_asked c.args.words.now) call) is c.carry_out-answer.ensures.ends)

pub returns-clause-unlawful : goal.returns-clause-unlawful
returns-clause-unlawful g c = λ none.
    let call : Seen = both_sides (side g.S.Source.rest g.S.Source.faults c.args.source.now c.carry_out-answer.new.source) (side g.K.Sink.holds g.K.Sink.faults c.args.sink.now c.carry_out-answer.new.sink) in
    unlawful_for call c.carry_out-answer.result (subst (λ asked. HasCause asked call c.carry_out-answer.result) none c.carry_out-answer.ensures.ends)

pub returns-clause-complete : goal.returns-clause-complete
returns-clause-complete g c = λ good none.
    let call : Seen = both_sides (side g.S.Source.rest g.S.Source.faults c.args.source.now c.carry_out-answer.new.source) (side g.K.Sink.holds g.K.Sink.faults c.args.sink.now c.carry_out-answer.new.sink) in
    judged_for (task_asked c.args.words.now) call c.carry_out-answer.result good none c.carry_out-answer.ensures.ends

pub returns-clause-refuses : goal.returns-clause-refuses
returns-clause-refuses g c = λ r bad none.
    let call : Seen = both_sides (side g.S.Source.rest g.S.Source.faults c.args.source.now c.carry_out-answer.new.source) (side g.K.Sink.holds g.K.Sink.faults c.args.sink.now c.carry_out-answer.new.sink) in
    refused_for (task_asked c.args.words.now) call c.carry_out-answer.result r bad none c.carry_out-answer.ensures.ends

pub returns-clause-yes : goal.returns-clause-yes
returns-clause-yes g c = λ commands ended is.
    let call : Seen = both_sides (side g.S.Source.rest g.S.Source.faults c.args.source.now c.carry_out-answer.new.source) (side g.K.Sink.holds g.K.Sink.faults c.args.sink.now c.carry_out-answer.new.sink) in
    yes_so (task_asked c.args.words.now) call.source call.sink commands ended (subst (HasCause (task_asked c.args.words.now) call) is c.carry_out-answer.ensures.ends)

pub returns-clause-between : goal.returns-clause-between
returns-clause-between g c = λ commands ended is.
    let call : Seen = both_sides (side g.S.Source.rest g.S.Source.faults c.args.source.now c.carry_out-answer.new.source) (side g.K.Sink.holds g.K.Sink.faults c.args.sink.now c.carry_out-answer.new.sink) in
    between_so (task_asked c.args.words.now) call.source call.sink commands ended (subst (HasCause (task_asked c.args.words.now) call) is c.carry_out-answer.ensures.ends)

pub returns-clause-unknown : goal.returns-clause-unknown
returns-clause-unknown g c = λ why is.
    let call : Seen = both_sides (side g.S.Source.rest g.S.Source.faults c.args.source.now c.carry_out-answer.new.source) (side g.K.Sink.holds g.K.Sink.faults c.args.sink.now c.carry_out-answer.new.sink) in
    unknown_so (task_asked c.args.words.now) call.source call.sink why (subst (HasCause (task_asked c.args.words.now) call) is c.carry_out-answer.ensures.ends)

pub returns-clause-no : goal.returns-clause-no
returns-clause-no g c = λ reason is.
    let call : Seen = both_sides (side g.S.Source.rest g.S.Source.faults c.args.source.now c.carry_out-answer.new.source) (side g.K.Sink.holds g.K.Sink.faults c.args.sink.now c.carry_out-answer.new.sink) in
    refuted_so (task_asked c.args.words.now) call.source call.sink reason (λ r. IsExplained r → ⊥) (λ r has. has.0) (subst (HasCause (task_asked c.args.words.now) call) is c.carry_out-answer.ensures.ends)

pub returns-clause-kind : goal.returns-clause-kind
returns-clause-kind g c = λ conn command is.
    let call : Seen = both_sides (side g.S.Source.rest g.S.Source.faults c.args.source.now c.carry_out-answer.new.source) (side g.K.Sink.holds g.K.Sink.faults c.args.sink.now c.carry_out-answer.new.sink) in
    refuted_so (task_asked c.args.words.now) call.source call.sink (Kind conn command) (λ r. IsRefutedCommand r conn command) (λ r has. has.1) (subst (HasCause (task_asked c.args.words.now) call) is c.carry_out-answer.ensures.ends)

pub returns-clause-surplus : goal.returns-clause-surplus
returns-clause-surplus g c = λ conn session is.
    let call : Seen = both_sides (side g.S.Source.rest g.S.Source.faults c.args.source.now c.carry_out-answer.new.source) (side g.K.Sink.holds g.K.Sink.faults c.args.sink.now c.carry_out-answer.new.sink) in
    refuted_so (task_asked c.args.words.now) call.source call.sink (Surplus conn session) (λ r. IsSurplus r conn session) (λ r has. has.1) (subst (HasCause (task_asked c.args.words.now) call) is c.carry_out-answer.ensures.ends)

pub returns-clause-early_end : goal.returns-clause-early_end
returns-clause-early_end g c = λ mark is.
    let call : Seen = both_sides (side g.S.Source.rest g.S.Source.faults c.args.source.now c.carry_out-answer.new.source) (side g.K.Sink.holds g.K.Sink.faults c.args.sink.now c.carry_out-answer.new.sink) in
    refuted_so (task_asked c.args.words.now) call.source call.sink (EarlyEnd mark) (λ r. IsEarlyEnd r mark) (λ r has. has.1) (subst (HasCause (task_asked c.args.words.now) call) is c.carry_out-answer.ensures.ends)

pub returns-clause-unmet : goal.returns-clause-unmet
returns-clause-unmet g c = λ conn command part is.
    let call : Seen = both_sides (side g.S.Source.rest g.S.Source.faults c.args.source.now c.carry_out-answer.new.source) (side g.K.Sink.holds g.K.Sink.faults c.args.sink.now c.carry_out-answer.new.sink) in
    refuted_so (task_asked c.args.words.now) call.source call.sink (Unmet conn command part) (λ r. IsWithoutCourse r conn command part) (λ r has. has.1) (subst (HasCause (task_asked c.args.words.now) call) is c.carry_out-answer.ensures.ends)

pub returns-clause-shared : goal.returns-clause-shared
returns-clause-shared g c = λ conn command part is.
    let call : Seen = both_sides (side g.S.Source.rest g.S.Source.faults c.args.source.now c.carry_out-answer.new.source) (side g.K.Sink.holds g.K.Sink.faults c.args.sink.now c.carry_out-answer.new.sink) in
    refuted_so (task_asked c.args.words.now) call.source call.sink (Shared conn command part) (λ r. IsWithoutCourse r conn command part) (λ r has. has.1) (subst (HasCause (task_asked c.args.words.now) call) is c.carry_out-answer.ensures.ends)
