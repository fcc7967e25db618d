use Rattle.std.proofs.Common.{rules, sym, ap, ◌∙◌}
use Rattle.mc_shard.specs.Shard.{entry_of}
use Rattle.mc_store.proofs.CallLemmas.{held_after}
use Rattle.mc_store.proofs.store.StoreTable.make_call.Goals as goal

pub invariant_of-pass : goal.invariant_of-pass
invariant_of-pass c =
    let t = c.try_on-tried.ensures in
    held_after _ _ _ _ _ c.args.tag.conn c.into_seat-seat.result.me.0 c.try_on-tried.new.seat.me.0 (entry_of c.args.tag c.args.shard c.args.call c.in-Ok-Made.reply c.in-Ok-Made.stamp) c.pass.invariant
    (ap (λ b. b.views) (sym c.replace.ensures.value) ∙ c.into_seat-seat.ensures.2) c.into_badge.ensures.2 (c.requires.conn ∙ ap (λ v. v.conn) (sym c.pass.view_is)) (ap (λ m. m.0) t.idle) (search rules)
