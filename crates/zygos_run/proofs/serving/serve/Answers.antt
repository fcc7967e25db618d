use Rattle.std.proofs.Common.{subst}
use Rattle.zy_command_line.specs.Request.{request_of}
use Rattle.zy_read.specs.Seen.{Seen, side, both_sides}
use Rattle.zygos_run.specs.Ends.{Ends}
use Rattle.zygos_run.proofs.EndLemmas.{headline_of, done_of, invalid_of, unlawful_of, completed_of, refused_of}
use Rattle.zygos_run.proofs.serving.serve.Goals as goal

pub returns-clause-headline : goal.returns-clause-headline
returns-clause-headline g c =
    let call : Seen = both_sides (side g.S.Source.rest g.S.Source.faults c.args.source.now c.carry_out-answer.new.source) (side g.K.Sink.holds g.K.Sink.faults c.args.sink.now c.carry_out-answer.new.sink) in
    headline_of (request_of c.args.words.now) call c.carry_out-answer.result c.carry_out-answer.ensures.ends

pub returns-clause-done : goal.returns-clause-done
returns-clause-done g c =
    let call : Seen = both_sides (side g.S.Source.rest g.S.Source.faults c.args.source.now c.carry_out-answer.new.source) (side g.K.Sink.holds g.K.Sink.faults c.args.sink.now c.carry_out-answer.new.sink) in
    done_of (request_of c.args.words.now) call c.carry_out-answer.result c.carry_out-answer.ensures.ends

pub returns-clause-usage : goal.returns-clause-usage
returns-clause-usage g c = λ is.
    let call : Seen = both_sides (side g.S.Source.rest g.S.Source.faults c.args.source.now c.carry_out-answer.new.source) (side g.K.Sink.holds g.K.Sink.faults c.args.sink.now c.carry_out-answer.new.sink) in
    invalid_of (request_of c.args.words.now) (subst (Ends (request_of c.args.words.now) call) is c.carry_out-answer.ensures.ends)

pub returns-clause-unlawful : goal.returns-clause-unlawful
returns-clause-unlawful g c = λ none.
    let call : Seen = both_sides (side g.S.Source.rest g.S.Source.faults c.args.source.now c.carry_out-answer.new.source) (side g.K.Sink.holds g.K.Sink.faults c.args.sink.now c.carry_out-answer.new.sink) in
    unlawful_of call c.carry_out-answer.result (subst (λ r. Ends r call c.carry_out-answer.result) none c.carry_out-answer.ensures.ends)

pub returns-clause-complete : goal.returns-clause-complete
returns-clause-complete g c = λ good none.
    let call : Seen = both_sides (side g.S.Source.rest g.S.Source.faults c.args.source.now c.carry_out-answer.new.source) (side g.K.Sink.holds g.K.Sink.faults c.args.sink.now c.carry_out-answer.new.sink) in
    completed_of (request_of c.args.words.now) call c.carry_out-answer.result good none c.carry_out-answer.ensures.ends

pub returns-clause-refuses : goal.returns-clause-refuses
returns-clause-refuses g c = λ r bad none.
    let call : Seen = both_sides (side g.S.Source.rest g.S.Source.faults c.args.source.now c.carry_out-answer.new.source) (side g.K.Sink.holds g.K.Sink.faults c.args.sink.now c.carry_out-answer.new.sink) in
    refused_of c.parts_have_no_fault.ensures.none call r c.there_is_one_part_fault.ensures.same (request_of c.args.words.now) c.carry_out-answer.result
    bad none c.carry_out-answer.ensures.ends
