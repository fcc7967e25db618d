use Rattle.std.proofs.Common.{◌≡◌, sym, ap, ◌∙◌}
use Rattle.mc_calls.specs.declared.call.Call.TheVariants.{Get}
use Rattle.mc_shard.specs.Shard.{entry_of}
use Rattle.mc_store.specs.declared.fetched.Fetched.TheVariants.{Made}
use Rattle.mc_store.proofs.CallLemmas.{held_after}
use Rattle.mc_store.proofs.store.StoreTable.fetch.Goals as goal

pub invariant_of-pass : goal.invariant_of-pass
invariant_of-pass c =
    let t = c.try_fetch-fetched.ensures in
    let is : c.in-Ok-Made.field-0 ≡ Made c.in-Ok-Made.stamp = rw c.in-Ok-Made.is at c.in-Ok-Made.field-0-is in
    let made = rw is at (rw c.in-Ok-Made.is at t.ok) in
    held_after _ _ _ _ _ c.args.tag.conn c.into_seat-seat.result.me.0 c.try_fetch-fetched.new.seat.me.0 (entry_of c.args.tag c.args.shard (Get c.args.key.now) made.reply c.in-Ok-Made.stamp) c.pass.invariant
    (ap (λ b. b.views) (sym c.replace.ensures.value) ∙ c.into_seat-seat.ensures.2) c.into_badge.ensures.2 (c.requires.conn ∙ ap (λ v. v.conn) (sym c.pass.view_is)) (ap (λ m. m.0) t.idle) made.entered
