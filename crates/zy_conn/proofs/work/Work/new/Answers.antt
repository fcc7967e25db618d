use Rattle.std.proofs.Common.{sym, ap, ◌∙◌}
use Rattle.zy_frame.specs.declared.frame_kind.FrameKind.{FrameKind}
use Rattle.zy_rx.specs.Ring.{RingName, RingOutlet}
use Rattle.zy_conn.proofs.KeptLemmas.{kept_new_as}
use Rattle.zy_conn.proofs.work.Work.new.Goals as goal

pub invariant_of-result : goal.invariant_of-result
invariant_of-result c =
    rw c.new.ensures.value (kept_new_as c.args.pass _ _ _ c.new-in-Ok-2.result
    (sym (ap (λ (r : RingName). r.capacity) c.in-Ok.ensures.ok) ∙ c.in-Ok.ensures.capacity) c.requires.empty
    (ap (λ (o : RingOutlet FrameKind). o.taken) c.in-Ok.ensures.outlet) c.new-in-Ok-2.ensures.value)
