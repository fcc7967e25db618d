use Rattle.std.proofs.Common.{sym, ap, subst, ◌∙◌}
use Rattle.mc_parse.specs.Calls.{calls_of}
use Rattle.zy_conn.specs.Work.{Worked, going, start_of}
use Rattle.zy_conn.specs.Step.{IsGoing}
use Rattle.zy_conn.proofs.StepLemmas.{going_begun, is_made_as}
use Rattle.zy_conn.proofs.work.Work.call.Goals as goal

pub command-requires : goal.command-requires
command-requires c = record { going = going_begun c.self.inside.pass.table.slots c.self.inside.begun c.self.inside.replies.items (subst (λ (v : Worked). IsGoing v.begun) (sym c.self.view_is) c.requires.going) }

pub invariant_of-self : goal.invariant_of-self
invariant_of-self c =
    let slots = c.self.inside.pass.table.slots in
    let command = c.command.result.now in
    (is_made_as c.self.inside.pass c.next_call.new.pass _ _ _ _ _ _ _ command (calls_of slots command) c.self.inside.replies.items c.next_call.new.replies.items c.self.invariant (ap (λ b. start_of slots b c.self.inside.replies.items) c.command.ensures.value)
    c.next_call.ensures.pass c.next_call.result _ _ _ c.finished.ensures.value (ap (λ n. calls_of n command) (c.requires.shards ∙ ap (λ (v : Worked). v.table.slots) (sym c.self.view_is)))
    (ap (λ b. start_of c.next_call.new.pass.table.slots b c.next_call.new.replies.items) c.command.ensures.value ∙ ap (λ t. going command (calls_of t.slots command) c.next_call.new.replies.items) c.next_call.ensures.pass.table) c.next_call.ensures.call).kept

pub returns-clause-goes : goal.returns-clause-goes
returns-clause-goes c =
    let slots = c.self.inside.pass.table.slots in
    let command = c.command.result.now in
    rw (← c.self.view_is)
    (is_made_as c.self.inside.pass c.next_call.new.pass _ _ _ _ _ _ _ command (calls_of slots command) c.self.inside.replies.items c.next_call.new.replies.items c.self.invariant (ap (λ b. start_of slots b c.self.inside.replies.items) c.command.ensures.value)
    c.next_call.ensures.pass c.next_call.result _ _ _ c.finished.ensures.value (ap (λ n. calls_of n command) (c.requires.shards ∙ ap (λ (v : Worked). v.table.slots) (sym c.self.view_is)))
    (ap (λ b. start_of c.next_call.new.pass.table.slots b c.next_call.new.replies.items) c.command.ensures.value ∙ ap (λ t. going command (calls_of t.slots command) c.next_call.new.replies.items) c.next_call.ensures.pass.table) c.next_call.ensures.call).goes

pub returns-clause-made : goal.returns-clause-made
returns-clause-made c =
    let slots = c.self.inside.pass.table.slots in
    let command = c.command.result.now in
    rw (← c.self.view_is)
    (is_made_as c.self.inside.pass c.next_call.new.pass _ _ _ _ _ _ _ command (calls_of slots command) c.self.inside.replies.items c.next_call.new.replies.items c.self.invariant (ap (λ b. start_of slots b c.self.inside.replies.items) c.command.ensures.value)
    c.next_call.ensures.pass c.next_call.result _ _ _ c.finished.ensures.value (ap (λ n. calls_of n command) (c.requires.shards ∙ ap (λ (v : Worked). v.table.slots) (sym c.self.view_is)))
    (ap (λ b. start_of c.next_call.new.pass.table.slots b c.next_call.new.replies.items) c.command.ensures.value ∙ ap (λ t. going command (calls_of t.slots command) c.next_call.new.replies.items) c.next_call.ensures.pass.table) c.next_call.ensures.call).to
