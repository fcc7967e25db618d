use Rattle.std.proofs.Common.{sym, ◌∙◌, arith}
use Rattle.mc_calls.specs.Order.{of_connection}
use Rattle.mc_parse.specs.Calls.{dues_of}
use Rattle.zy_check.proofs.OutputLemmas.{more_output, outputs_whole}
use Rattle.zy_check.proofs.StepLemmas.{end_outputs}
use Rattle.zy_check.proofs.outputs.first_differing.Goals as goal

pub returns-then-session-output_count : goal.returns-then-session-output_count
returns-then-session-output_count c =
    let g = c.args.files.now in
    let conn = c.args.conn in
    let size = c.sessions-session.ensures.value in
    let count = c.output_count.ensures.value in
    let more = c.if-session-output_count.true in record {
      found = more_output g conn c.sessions-session.result (omega arith) (omega arith)
          (λ s below. end_outputs g conn c.args.track.now (dues_of (of_connection conn g.entries)) c.requires.made c.requires.end c.requires.complete (sym c.differing.ensures.value ∙ c.in_default.is) s (omega arith));
    }

pub returns : goal.returns
returns c =
    let g = c.args.files.now in
    let conn = c.args.conn in
    let size = c.sessions-session.ensures.value in
    let count = c.output_count.ensures.value in
    let few = c.if-session-output_count.false in record {
      found = outputs_whole g conn c.sessions-session.result
          (λ s below. end_outputs g conn c.args.track.now (dues_of (of_connection conn g.entries)) c.requires.made c.requires.end c.requires.complete (sym c.differing.ensures.value ∙ c.in_default.is) s (omega arith))
          (omega arith) (omega arith);
    }
