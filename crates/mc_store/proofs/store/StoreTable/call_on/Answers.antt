use Rattle.std.proofs.Common.{rules, ℕ, refl, ap, ◌∙◌, sym, subst, ◌∷◌}
use Rattle.mc_calls.specs.Kind.{MayAnswer}
use Rattle.mc_calls.proofs.KindLemmas.{reply_answers}
use Rattle.mc_shard.specs.Shard.{kept, state_of, entry_of}
use Rattle.atomic_table.specs.Table.{rest}
use Rattle.mc_store.specs.Steps.{Seated, HasTaken}
use Rattle.mc_store.proofs.CallLemmas.{puts_call_as, puts_none_as}
use Rattle.mc_store.proofs.store.StoreTable.call_on.Goals as goal

pub slot_mut-requires : goal.slot_mut-requires
slot_mut-requires c =
    let taken = c.requires.taken in (
      search rules,
      (kept c.args.shard c.args.self.now.shards taken.0, ap (λ (m : Seated). m.1) taken.2 ∙ ap (λ (m : Seated). (c.args.shard, kept c.args.shard c.args.self.now.shards taken.0) ∷ rest m.1) (sym taken.2)),
    )

pub store-requires : goal.store-requires
store-requires c =
    let slots = sym (c.self.invariant.1 ∙ ap (λ s. s.shards) c.self.view_is) in
    let taken = subst (λ (n : ℕ). HasTaken c.args.tag.conn c.args.shard n c.args.even c.args.seat.now.me) slots c.requires.taken in
    let made = c.in-Ok.ensures in (
      search rules,
      search rules,
      puts_call_as _ _ _ _ _ c.args.seen c.args.seat.now.me _ _ _ (entry_of c.args.tag c.slot_mut.result.now.number c.args.call c.in-Ok.made.reply c.in-Ok.made.stamp) taken c.slot_mut.ensures.value refl made.ok refl refl made.stamp c.requires.seen made.sound c.requires.few,
    )

pub store-requires-in-Err : goal.store-requires-in-Err
store-requires-in-Err c =
    let slots = sym (c.self.invariant.1 ∙ ap (λ s. s.shards) c.self.view_is) in
    let taken = subst (λ (n : ℕ). HasTaken c.args.tag.conn c.args.shard n c.args.even c.args.seat.now.me) slots c.requires.taken in (
      search rules,
      search rules,
      puts_none_as _ _ _ _ _ c.args.seat.now.me _ _ _ taken c.slot_mut.ensures.value refl c.in-Err.ensures.err,
    )

pub returns-in-Ok-clause-kind : goal.returns-in-Ok-clause-kind
returns-in-Ok-clause-kind c = subst (MayAnswer c.args.call) (sym c.in-Ok.ensures.reply) (reply_answers (state_of c.slot_mut.result.now) c.args.call)
