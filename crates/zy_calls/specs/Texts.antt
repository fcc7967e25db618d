-- Texts one after another in one row of bytes. No public clause cites this module.
use Rattle.std.specs.Prelude.{◌≡◌, ℕ, ◌+◌, ◌-◌, ◌<◌, ◌≤◌, ◌^◌, List, [], ◌∷◌, take, drop, map, get_or, length}

-- the texts that end at these places, the first of which begins at `start`
abbrev pub texts_from : List ℕ → ℕ → List ℕ → List (List ℕ)
texts_from bytes start [] = []
texts_from bytes start (end ∷ ends) =
    take (end - start) (drop start bytes) ∷ texts_from bytes end ends

-- the last of these places, or `start`
abbrev pub end_of : ℕ → List ℕ → ℕ
end_of start [] = start
end_of start (end ∷ ends) = end_of end ends

-- the places never fall, from `start` on, and the last is `last`
abbrev pub Rise : ℕ → List ℕ → ℕ → Type 0
Rise start [] last = start ≡ last
Rise start (end ∷ ends) last = (start ≤ end) × Rise end ends last

-- the places, each increased by `count`
abbrev pub further : ℕ → List ℕ → List ℕ
further count ends = map (λ end. count + end) ends

-- each place, increased by `count`, fits in 64 bits
abbrev pub AreWithin : ℕ → List ℕ → Type 0
AreWithin count ends = (at : ℕ) → at < length ends → count + get_or ends at 0 < 2 ^ 64
