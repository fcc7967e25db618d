use Rattle.std.proofs.Common.{List, sym, ap, ◌∙◌, subst}
use Rattle.zy_frame.specs.declared.frame_kind.FrameKind.{FrameKind}
use Rattle.zy_calls.specs.Output.{Output}
use Rattle.zy_conn.specs.Ring.{EventInlet}
use Rattle.zy_conn.specs.Block.{Blocked, label_in}
use Rattle.zy_home.specs.Link.{Link}
use Rattle.zy_home.specs.Offer.{IsFilled}
use Rattle.zy_home.proofs.IdleLemmas.{settled_idle, met_twice}
use Rattle.zy_home.proofs.link.Link.settle.Goals as goal

pub returns-clause-met : goal.returns-clause-met
returns-clause-met c = met_twice c.args.block.now c.send_to.new.self c.meet.new.self c.meet-2.new.self c.in_ok-send_to.ensures.block c.meet.ensures.block c.meet-2.ensures.block

pub returns-clause-label : goal.returns-clause-label
returns-clause-label c = ap label_in (met_twice c.args.block.now c.send_to.new.self c.meet.new.self c.meet-2.new.self c.in_ok-send_to.ensures.block c.meet.ensures.block c.meet-2.ensures.block)

pub returns-clause-idle : goal.returns-clause-idle
returns-clause-idle c none =
    let b0 = c.in_ok-send_to.ensures.block in
    let b1 = c.meet.ensures.block in
    let b2 = c.meet-2.ensures.block in
    let carried = ap (λ (o : Output). o.finished) c.in_ok-send_to.ensures.output in
    let kept = ap (λ (o : Output). o.finished) c.offer_waiting.ensures.same.1 in
    let seen = ap (λ (l : Link). l.output.finished) c.self-2.view_is in
    let finished = ap (λ (b : Blocked). b.work.finished) b2 ∙ ap (λ (b : Blocked). b.work.finished) b1 ∙ ap (λ (b : Blocked). b.work.finished) b0 in
    settled_idle c.meet-2.new.self.work _ c.meet.new.inlet c.offer_waiting.new.self.inlet c.meet.new.self.work.taken
    (sym c.has_event.ensures.value ∙ none)
    (ap (λ (b : Blocked). b.work.batch) b2 ∙ ap (λ (b : Blocked). b.work.batch) b1 ∙ ap (λ (b : Blocked). b.work.batch) b0)
    (ap (λ (b : Blocked). b.work.taken) b2)
    (seen ∙ kept ∙ carried ∙ sym finished)
    c.meet-2.ensures.all
    (sym (ap (λ (l : Link). l.inlet.sent) c.self-2.view_is) ∙ sym (ap (λ (i : EventInlet). i.sent) c.meet-2.ensures.inlet))
    c.meet.ensures.room
    (subst (λ (w : List FrameKind). IsFilled c.meet.new.inlet c.offer_waiting.new.self.inlet w) (sym (ap (λ (l : Link). l.waiting) c.self-2.view_is)) c.offer_waiting.ensures.filled)
