use Rattle.std.proofs.Common.{◌++◌, ◌∷◌, [], ◌≤◌, refl, sym, ap, subst, ◌∙◌}
use Rattle.atomic_table.specs.Seated.{TableId}
use Rattle.zy_frame.specs.declared.frame_kind.FrameKind.{FrameKind}
use Rattle.zy_rx.specs.Ring.{RingOutlet}
use Rattle.zy_conn.specs.Work.{Worked, start_of}
use Rattle.zy_conn.proofs.StepLemmas.{none_begun}
use Rattle.zy_conn.proofs.DirectLemmas.{few_finished, begun_as}
use Rattle.zy_conn.proofs.work.Work.begin.Goals as goal

pub start-requires-clause-none : goal.start-requires-clause-none
start-requires-clause-none g c = none_begun _ (sym c.is_going.ensures.value ∙ c.if-is_going.false) (sym c.is_alone.ensures.value ∙ c.if-is_alone.false)

pub start-requires-clause-few : goal.start-requires-clause-few
start-requires-clause-few g c =
    let none = none_begun _ (sym c.is_going.ensures.value ∙ c.if-is_going.false) (sym c.is_alone.ensures.value ∙ c.if-is_alone.false) in
    few_finished _ c.self.invariant (ap (λ b. start_of c.self.inside.pass.table.slots b c.self.inside.replies.items) none)
    (λ e. c.if-index-eq-COMMAND_LIMIT.false (c.finished-index.ensures.value ∙ e))

pub invariant_of-self-2 : goal.invariant_of-self-2
invariant_of-self-2 g c =
    let none = none_begun _ (sym c.is_going.ensures.value ∙ c.if-is_going.false) (sym c.is_alone.ensures.value ∙ c.if-is_alone.false) in
    let slots = c.shards-shards.ensures.slots ∙ ap (λ (t : TableId). t.slots) (sym c.requires.table) ∙ ap (λ (v : Worked). v.table.slots) (sym c.self.view_is) in
    (begun_as _ _ _ _ _ _ _ _ _ _ c.self.inside.batch _ c.self.invariant (ap (λ b. start_of c.self.inside.pass.table.slots b c.self.inside.replies.items) none)
    (λ e. c.if-index-eq-COMMAND_LIMIT.false (c.finished-index.ensures.value ∙ e))
    (c.take_known-frame.ensures.kept ∙ ap (λ (o : RingOutlet FrameKind). o.ring) c.if-is_empty.ensures.outlet)
    (c.take_known-frame.ensures.taken ∙ ap (λ (o : RingOutlet FrameKind). o.taken ++ c.take_known-frame.result ∷ []) c.if-is_empty.ensures.outlet)
    (subst (λ n. 1 ≤ n) slots c.shards-shards.ensures.some) (subst (λ n. n ≤ 256) slots c.shards-shards.ensures.few)
    c.start.ensures.pass c.start.new.replies.items c.start.new.begun c.start.new.batch c.args.store.now.shards c.start.result (sym c.shards-shards.ensures.value ∙ slots) c.start.ensures.to).kept

pub returns-clause-goes : goal.returns-clause-goes
returns-clause-goes g c =
    let none = none_begun _ (sym c.is_going.ensures.value ∙ c.if-is_going.false) (sym c.is_alone.ensures.value ∙ c.if-is_alone.false) in
    let slots = c.shards-shards.ensures.slots ∙ ap (λ (t : TableId). t.slots) (sym c.requires.table) ∙ ap (λ (v : Worked). v.table.slots) (sym c.self.view_is) in
    rw (← c.self.view_is)
    ((begun_as _ _ _ _ _ _ _ _ _ _ c.self.inside.batch _ c.self.invariant (ap (λ b. start_of c.self.inside.pass.table.slots b c.self.inside.replies.items) none)
    (λ e. c.if-index-eq-COMMAND_LIMIT.false (c.finished-index.ensures.value ∙ e))
    (c.take_known-frame.ensures.kept ∙ ap (λ (o : RingOutlet FrameKind). o.ring) c.if-is_empty.ensures.outlet)
    (c.take_known-frame.ensures.taken ∙ ap (λ (o : RingOutlet FrameKind). o.taken ++ c.take_known-frame.result ∷ []) c.if-is_empty.ensures.outlet)
    (subst (λ n. 1 ≤ n) slots c.shards-shards.ensures.some) (subst (λ n. n ≤ 256) slots c.shards-shards.ensures.few)
    c.start.ensures.pass c.start.new.replies.items c.start.new.begun c.start.new.batch c.args.store.now.shards c.start.result (sym c.shards-shards.ensures.value ∙ slots) c.start.ensures.to).goes)

pub returns-clause-begun : goal.returns-clause-begun
returns-clause-begun g c =
    let none = none_begun _ (sym c.is_going.ensures.value ∙ c.if-is_going.false) (sym c.is_alone.ensures.value ∙ c.if-is_alone.false) in
    let slots = c.shards-shards.ensures.slots ∙ ap (λ (t : TableId). t.slots) (sym c.requires.table) ∙ ap (λ (v : Worked). v.table.slots) (sym c.self.view_is) in
    rw (← c.self.view_is)
    ((begun_as _ _ _ _ _ _ _ _ _ _ c.self.inside.batch _ c.self.invariant (ap (λ b. start_of c.self.inside.pass.table.slots b c.self.inside.replies.items) none)
    (λ e. c.if-index-eq-COMMAND_LIMIT.false (c.finished-index.ensures.value ∙ e))
    (c.take_known-frame.ensures.kept ∙ ap (λ (o : RingOutlet FrameKind). o.ring) c.if-is_empty.ensures.outlet)
    (c.take_known-frame.ensures.taken ∙ ap (λ (o : RingOutlet FrameKind). o.taken ++ c.take_known-frame.result ∷ []) c.if-is_empty.ensures.outlet)
    (subst (λ n. 1 ≤ n) slots c.shards-shards.ensures.some) (subst (λ n. n ≤ 256) slots c.shards-shards.ensures.few)
    c.start.ensures.pass c.start.new.replies.items c.start.new.begun c.start.new.batch c.args.store.now.shards c.start.result (sym c.shards-shards.ensures.value ∙ slots) c.start.ensures.to).to)

pub returns-clause-err : goal.returns-clause-err
returns-clause-err g c =
    let none = none_begun _ (sym c.is_going.ensures.value ∙ c.if-is_going.false) (sym c.is_alone.ensures.value ∙ c.if-is_alone.false) in
    let slots = c.shards-shards.ensures.slots ∙ ap (λ (t : TableId). t.slots) (sym c.requires.table) ∙ ap (λ (v : Worked). v.table.slots) (sym c.self.view_is) in
    rw (← c.self.view_is)
    ((begun_as _ _ _ _ _ _ _ c.self.inside.frames.known _ _ c.self.inside.batch _ c.self.invariant (ap (λ b. start_of c.self.inside.pass.table.slots b c.self.inside.replies.items) none)
    (λ e. c.if-index-eq-COMMAND_LIMIT.false (c.finished-index.ensures.value ∙ e))
    (c.take_known-frame.ensures.kept ∙ ap (λ (o : RingOutlet FrameKind). o.ring) c.if-is_empty.ensures.outlet)
    (c.take_known-frame.ensures.taken ∙ ap (λ (o : RingOutlet FrameKind). o.taken ++ c.take_known-frame.result ∷ []) c.if-is_empty.ensures.outlet)
    (subst (λ n. 1 ≤ n) slots c.shards-shards.ensures.some) (subst (λ n. n ≤ 256) slots c.shards-shards.ensures.few)
    c.start.ensures.pass c.start.new.replies.items c.start.new.begun c.start.new.batch c.args.store.now.shards c.start.result (sym c.shards-shards.ensures.value ∙ slots) c.start.ensures.to).err)
