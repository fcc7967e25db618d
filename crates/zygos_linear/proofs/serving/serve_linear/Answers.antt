use Rattle.std.proofs.Common.{subst}
use Rattle.zy_command_line.specs.Request.{shards_asked}
use Rattle.zy_read.specs.Seen.{Seen, side, both_sides}
use Rattle.zygos_linear.specs.Ends.{HasCause}
use Rattle.zygos_linear.proofs.EndLemmas.{invalid_with, unlawful_for, judged_for, refused_for}
use Rattle.zygos_linear.proofs.serving.serve_linear.Goals as goal

pub returns-clause-usage : goal.returns-clause-usage
returns-clause-usage g c = λ is.
    let call : Seen = both_sides (side g.S.Source.rest g.S.Source.faults c.args.source.now c.carry_out-answer.new.source) (side g.K.Sink.holds g.K.Sink.faults c.args.sink.now c.carry_out-answer.new.sink) in
    invalid_with (shards_asked c.args.words.now) (subst (HasCause (shards_asked c.args.words.now) call) is c.carry_out-answer.ensures.ends)

pub returns-clause-unlawful : goal.returns-clause-unlawful
returns-clause-unlawful g c = λ none.
    let call : Seen = both_sides (side g.S.Source.rest g.S.Source.faults c.args.source.now c.carry_out-answer.new.source) (side g.K.Sink.holds g.K.Sink.faults c.args.sink.now c.carry_out-answer.new.sink) in
    unlawful_for call c.carry_out-answer.result (subst (λ shards. HasCause shards call c.carry_out-answer.result) none c.carry_out-answer.ensures.ends)

pub returns-clause-complete : goal.returns-clause-complete
returns-clause-complete g c = λ good none.
    let call : Seen = both_sides (side g.S.Source.rest g.S.Source.faults c.args.source.now c.carry_out-answer.new.source) (side g.K.Sink.holds g.K.Sink.faults c.args.sink.now c.carry_out-answer.new.sink) in
    judged_for (shards_asked c.args.words.now) call c.carry_out-answer.result good none c.carry_out-answer.ensures.ends

pub returns-clause-refuses : goal.returns-clause-refuses
returns-clause-refuses g c = λ r bad none.
    let call : Seen = both_sides (side g.S.Source.rest g.S.Source.faults c.args.source.now c.carry_out-answer.new.source) (side g.K.Sink.holds g.K.Sink.faults c.args.sink.now c.carry_out-answer.new.sink) in
    refused_for (shards_asked c.args.words.now) call c.carry_out-answer.result r c.parts_have_no_fault.ensures.none c.there_is_one_part_fault.ensures.same
    bad none c.carry_out-answer.ensures.ends
