use Rattle.std.proofs.Common.{subst, sym, ap, ◌∙◌}
use Rattle.mc_parse.specs.Calls.{calls_of}
use Rattle.zy_conn.specs.Work.{Worked, going, start_of}
use Rattle.zy_conn.specs.Step.{IsAllMade}
use Rattle.zy_conn.proofs.StepLemmas.{all_made_going, kept_ends_as}
use Rattle.zy_conn.proofs.work.Work.finish.Goals as goal

pub command-command-requires : goal.command-command-requires
command-command-requires c = record { going = all_made_going c.self.inside.pass.table.slots c.self.inside.begun c.self.inside.replies.items (subst (λ (v : Worked). IsAllMade v.begun) (sym c.self.view_is) c.requires.whole) }

pub end-requires : goal.end-requires
end-requires c = record { going = all_made_going c.self.inside.pass.table.slots c.self.inside.begun c.self.inside.replies.items (subst (λ (v : Worked). IsAllMade v.begun) (sym c.self.view_is) c.requires.whole) }

pub invariant_of-self-2 : goal.invariant_of-self-2
invariant_of-self-2 c =
    let slots = c.self.inside.pass.table.slots in
    let command = c.command-command.result.now in
    kept_ends_as c.self.inside.pass _ _ _ _ _ _ c.self.inside.batch c.send-sent.new.batch c.set_finished.new.self c.self.invariant
    (subst (λ (v : Worked). IsAllMade v.begun) (sym c.self.view_is) c.requires.whole)
    (ap (λ b. start_of slots b c.clear.new.self.items) c.end.ensures.value)
    (going command (calls_of slots command) c.from_vec-replies.result)
    (ap (λ l. going command (calls_of slots command) l) (c.from_vec-replies.ensures.value ∙ ap (λ v. v.items) c.replace.ensures.value) ∙ sym (ap (λ b. start_of slots b c.self.inside.replies.items) c.command-command.ensures.value))
    c.in_ok-sent.ensures.ok _ c.finished-finished.ensures.value c.set_finished.ensures.value
