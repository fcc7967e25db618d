use Rattle.zy_sessions.proofs.NoteLemmas.{commands_on, sent_on, keys_on}
use Rattle.std.proofs.Common.{◌∙◌}
use Rattle.zy_sessions.proofs.noting.note_frames.Goals as goal

pub loop-frame-preserved : goal.loop-frame-preserved
loop-frame-preserved c =
    let frame = c.in-Some.frame in
    let rest = c.next.new.self in
    let old = c.loop-frame.session in
    let new = c.note_frame.new.session in
    let noted = c.in_default-note_frame.ensures in
    record {
      commands = commands_on frame c.loop-frame.frames rest c.in-Some.ensures.value old.commands.items new.commands.items _ noted.commands c.loop-frame.invariant.commands;
      sent = sent_on frame c.loop-frame.frames rest c.in-Some.ensures.value old.sent.items new.sent.items _ c.args.moment noted.sent c.loop-frame.invariant.sent;
      marks = noted.marks ∙ c.loop-frame.invariant.marks;
      lasting = λ keys adds. c.loop-frame.invariant.lasting keys
          (keys_on frame c.loop-frame.frames rest c.in-Some.ensures.value c.loop-frame.lasting c.note_frame.new.lasting keys noted.lasting adds);
    }
