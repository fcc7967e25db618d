-- Entries whose stamps rise, and lists in order.
use Rattle.std.proofs.Common.{◌≡◌, inl, inr, ℕ, ◌<◌, List, [], ◌∷◌, length, refl, sym, ◌∙◌, arith}
use Rattle.std.specs.Prelude.{None, Some}
use Rattle.mc_calls.specs.declared.entry.Entry.{Entry}
use Rattle.mc_calls.specs.Order.{AreAt, StampsRise, IsBefore, IsOrdered}

rising_after : (x : Entry) (es : List Entry) → StampsRise x.stamp es → IsOrdered (Some x) es
rising_after x [] rising = tt
rising_after x (e ∷ es) rising = (inl rising.0, rising_after e es rising.1)

pub rising_ordered : (before : ℕ) (es : List Entry) → StampsRise before es → IsOrdered None es
rising_ordered before [] rising = tt
rising_ordered before (e ∷ es) rising = (tt, rising_after e es rising.1)

-- of two entries of one shard the first has the lower stamp
lower : (x y : Entry) → x.shard ≡ y.shard → IsBefore x y → x.stamp < y.stamp
lower x y same (inl less) = less
lower x y same (inr level) = absurd (omega (arith, same, level.1))

-- along a list in order, of one shard, stamps rise
pub ordered_rising : (shard : ℕ) (x : Entry) (es : List Entry) → x.shard ≡ shard → AreAt shard es → IsOrdered (Some x) es → StampsRise x.stamp es
ordered_rising shard x [] of_x places ordered = tt
ordered_rising shard x (e ∷ es) of_x places ordered =
    (lower x e (of_x ∙ sym places.0) ordered.0, ordered_rising shard e es places.0 places.1 ordered.1)

-- what follows the first entry is in order
pub ordered_rest : (x : Entry) (es : List Entry) → IsOrdered (Some x) es → IsOrdered None es
ordered_rest x [] ordered = tt
ordered_rest x (e ∷ es) ordered = (tt, ordered.1)

pub empty_is : (es : List Entry) → length es ≡ 0 → es ≡ []
empty_is [] none = refl
empty_is (e ∷ es) none = absurd (omega (arith, none))
