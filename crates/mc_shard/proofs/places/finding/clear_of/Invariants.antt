use Rattle.std.proofs.Common.{◌≡◌, List, ℕ, false, length}
use Rattle.std.specs.BTreeMap.{is_at}
use Rattle.mc_shard.specs.Contents.{hashed_cmp}
use Rattle.mc_shard.specs.Places.{place_in, keys_in, AreSlots, AreOwn}
use Rattle.mc_shard.proofs.places.finding.clear_of.Given as goal

abbrev pub invariant-loop-at : goal.invariant-loop-at
invariant-loop-at g l =
    let stored = g.S.Stored.stored l.stored in
    record {
      slots : AreSlots stored l.line.slots;
      own : (shift at : ℕ) → AreOwn shift at l.fn.line.slots → AreOwn shift at l.line.slots;
      others : (q : List ℕ) → is_at (hashed_cmp l.key) q ≡ false → place_in (keys_in stored l.line.slots) q ≡ place_in (keys_in stored l.fn.line.slots) q;
      mark : l.line.marked ≡ l.fn.line.marked;
    }

abbrev pub decreases-loop-at : goal.decreases-loop-at
decreases-loop-at g l = length l.line.slots
