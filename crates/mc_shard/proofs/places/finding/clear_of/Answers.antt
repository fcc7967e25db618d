use Rattle.std.proofs.Common.{◌≡◌, ◌/◌, ◌^◌, List, ap, sym, subst, ◌∙◌}
use Rattle.mc_shard.specs.declared.slot.Slot.{Slot}
use Rattle.mc_shard.specs.Places.{Keyed, place_in, keys_in, IsSlot, AreSlots, AreOwn}
use Rattle.mc_shard.proofs.LineLemmas.{all_less, keys_out}
use Rattle.mc_shard.proofs.RowLemmas.{one_out, all_out}
use Rattle.mc_shard.proofs.places.finding.clear_of.Goals as goal

pub loop-at-preserved : goal.loop-at-preserved
loop-at-preserved g c =
    let stored = g.S.Stored.stored c.args.stored.now in
    let slots : List Slot = c.loop-at.line.slots in
    let at = c.in-Some.at in
    record {
      slots = subst (AreSlots stored) (sym c.take_out.ensures.slots) (all_less (IsSlot stored) slots at c.loop-at.invariant.slots);
      own = λ shift n own. subst (AreOwn shift n) (sym c.take_out.ensures.slots) (all_less (λ s. s.hash / 2 ^ shift ≡ n) slots at (c.loop-at.invariant.own shift n own));
      others = λ q other.
          ap (λ (xs : List Slot). place_in (keys_in stored xs) q) c.take_out.ensures.slots
          ∙ ap (λ (row : Keyed). place_in row q) (keys_out stored slots at)
          ∙ one_out (keys_in stored slots) c.args.key.now at c.in-Some.ensures.some q other
          ∙ c.loop-at.invariant.others q other;
      mark = c.take_out.ensures.mark ∙ c.loop-at.invariant.mark;
    }

pub returns-clause-value : goal.returns-clause-value
returns-clause-value g c =
    let stored = g.S.Stored.stored c.args.stored.now in
    all_out (keys_in stored c.args.line.now.slots) (keys_in stored c.loop-at.line.slots) c.args.key.now c.in_default.ensures.none c.loop-at.invariant.others
