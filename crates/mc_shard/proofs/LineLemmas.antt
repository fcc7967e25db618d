-- Slots of a line and their keys: what a change of the slots changes, and the halves of lines.
use Rattle.std.proofs.Common.{◌≡◌, ◌≢◌, ◌⊎◌, inl, inr, ℕ, zero, suc, ◌+◌, ◌-◌, ◌<◌, ◌≤◌, ◌/◌, ◌%◌, ◌^◌, Bool, true, false, eqb, cond, List, [], ◌∷◌, ◌++◌, length, take, drop, set, slice_get, slice_index_or, refl, sym, ap, subst, ◌∙◌, arith}
use Rattle.std.specs.Prelude.{Option, Some, None, ⊤}
use Rattle.std.specs.List.{AllByRecursion, remove, copy_within}
use Rattle.std.proofs.lemmas.Bool.Decides.{eqb_tells}
use Rattle.std.proofs.lemmas.Option.{same_Some}
use Rattle.std.specs.BTreeMap.{is_at}
use Rattle.mc_calls.specs.Key.{hash_of}
use Rattle.mc_history.specs.declared.stored_item.StoredItem.{StoredItem}
use Rattle.mc_history.specs.Recorded.{item_at}
use Rattle.mc_shard.specs.declared.slot.Slot.{Slot}
use Rattle.mc_shard.specs.Contents.{hashed_cmp}
use Rattle.mc_shard.specs.Places.{Keyed, Held, moved, place_in, key_at, keys_in, keys_among, marked_at, sifted, half, doubled, IsSlot, AreSlots, AreOwn, AreLines, HaveOwn, AreEmpty}
use Rattle.mc_shard.proofs.PlaceLemmas.{apart, first_of, lookup-append}

-- ---- what holds of all

module _ {X : Type 0} (P : X → Type 0) where
  pub all_pushed : (xs : List X) (x : X) → AllByRecursion P xs → P x → AllByRecursion P (xs ++ x ∷ [])
  all_pushed [] x are is = (is, tt)
  all_pushed (y ∷ xs) x are is = (are.0, all_pushed xs x are.1 is)

  pub all_popped : (xs : List X) (x : X) → AllByRecursion P (xs ++ x ∷ []) → AllByRecursion P xs
  all_popped [] x are = tt
  all_popped (y ∷ xs) x are = (are.0, all_popped xs x are.1)

  pub all_last : (xs : List X) (x : X) → AllByRecursion P (xs ++ x ∷ []) → P x
  all_last [] x are = are.0
  all_last (y ∷ xs) x are = all_last xs x are.1

  pub all_set : (xs : List X) (n : ℕ) (x : X) → AllByRecursion P xs → P x → AllByRecursion P (set xs n x)
  all_set [] n x are is = tt
  all_set (y ∷ xs) zero x are is = (is, are.1)
  all_set (y ∷ xs) (suc n) x are is = (are.0, all_set xs n x are.1 is)

  pub all_less : (xs : List X) (n : ℕ) → AllByRecursion P xs → AllByRecursion P (remove xs n)
  all_less [] zero are = tt
  all_less [] (suc n) are = tt
  all_less (y ∷ xs) zero are = are.1
  all_less (y ∷ xs) (suc n) are = (are.0, all_less xs n are.1)

  pub all_got : (xs : List X) (n : ℕ) (x : X) → AllByRecursion P xs → slice_get xs n ≡ Some x → P x
  all_got [] n x are is = cc
  all_got (y ∷ xs) zero x are is = subst P (same_Some y x is) are.0
  all_got (y ∷ xs) (suc n) x are is = all_got xs n x are.1 is

-- ---- the slots of an array

front : {X : Type 0} (xs more : List X) (c n : ℕ) → c ≤ length xs → c ≤ n → take c (take n xs ++ more) ≡ take c xs
front xs more zero n within long = refl
front [] more (suc c) n within long = absurd (omega (arith, within))
front (x ∷ xs) more (suc c) zero within long = absurd (omega (arith, long))
front (x ∷ xs) more (suc c) (suc n) within long = ap (λ l. x ∷ l) (front xs more c n (omega (arith, within)) (omega (arith, long)))

-- a slot leaves, and those after it move down
closed_up : {X : Type 0} (xs more : List X) (at c n : ℕ) → at ≤ c → suc c ≤ length xs → c ≤ at + n → take c ((take at xs ++ take n (drop (suc at) xs)) ++ more) ≡ remove (take (suc c) xs) at
closed_up [] more at c n below within long = absurd (omega (arith, within))
closed_up (x ∷ xs) more zero c n below within long = front xs more c n (omega (arith, within)) (omega (arith, long))
closed_up (x ∷ xs) more (suc at) zero n below within long = absurd (omega (arith, below))
closed_up (x ∷ xs) more (suc at) (suc c) n below within long = ap (λ l. x ∷ l) (closed_up xs more at c n (omega (arith, below)) (omega (arith, within)) (omega (arith, long)))

pub closed_out : {X : Type 0} (xs : List X) (at c : ℕ) → at < c → c ≤ length xs → take (c - 1) (copy_within xs (at + 1) (length xs) at) ≡ remove (take c xs) at
closed_out xs at c below within =
    let from : suc at ≡ at + 1 = omega arith in
    let one : suc (c - 1) ≡ c = omega (arith, below) in
    let n = length xs - (at + 1) in
    subst (λ (k : ℕ). take (c - 1) ((take at xs ++ take n (drop (at + 1) xs)) ++ drop (at + n) xs) ≡ remove (take k xs) at) one
    (subst (λ (f : ℕ). take (c - 1) ((take at xs ++ take n (drop f xs)) ++ drop (at + n) xs) ≡ remove (take (suc (c - 1)) xs) at) from
    (closed_up xs (drop (at + n) xs) at (c - 1) n (omega (arith, below)) (omega (arith, below, within)) (omega (arith, below, within))))

pub take_within : {X : Type 0} (xs : List X) (c at : ℕ) → at < length (take c xs) → at < c
take_within xs zero at within = absurd (omega (arith, within))
take_within [] (suc c) at within = absurd (omega (arith, within))
take_within (x ∷ xs) (suc c) zero within = omega arith
take_within (x ∷ xs) (suc c) (suc at) within = let rest = take_within xs c at (omega (arith, within)) in omega (arith, rest)

pub index_got : {X : Type 0} (xs : List X) (n : ℕ) (d : X) → n < length xs → slice_get xs n ≡ Some (slice_index_or xs n d)
index_got [] n d below = absurd (omega (arith, below))
index_got (y ∷ xs) zero d below = refl
index_got (y ∷ xs) (suc n) d below = index_got xs n d (omega (arith, below))

pub got_index : {X : Type 0} (xs : List X) (n : ℕ) (x d : X) → slice_get xs n ≡ Some x → slice_index_or xs n d ≡ x
got_index [] n x d is = cc
got_index (y ∷ xs) zero x d is = same_Some y x is
got_index (y ∷ xs) (suc n) x d is = got_index xs n x d is

-- a slot gets another place
pub replaced : (xs : List Slot) (c at hash place : ℕ) (slot : Slot) → slice_get (take c xs) at ≡ Some slot → hash ≡ slot.hash
    → take c (set xs at (record { hash = hash; place = place })) ≡ set (take c xs) at (moved slot place)
replaced xs zero at hash place slot is same = cc
replaced [] (suc c) at hash place slot is same = cc
replaced (x ∷ xs) (suc c) zero hash place slot is same = ap (λ (h : ℕ). (record { hash = h; place = place }) ∷ take c xs) same
replaced (x ∷ xs) (suc c) (suc at) hash place slot is same = ap (λ l. x ∷ l) (replaced xs c at hash place slot is same)

-- ---- the keys of slots

module _ (stored : List StoredItem) where
  pub keys_pushed : (slots : List Slot) (s : Slot) → keys_in stored (slots ++ s ∷ []) ≡ keys_in stored slots ++ key_at stored s ∷ []
  keys_pushed [] s = refl
  keys_pushed (t ∷ slots) s = ap (λ l. key_at stored t ∷ l) (keys_pushed slots s)

  pub keys_set : (slots : List Slot) (n : ℕ) (s : Slot) → keys_in stored (set slots n s) ≡ set (keys_in stored slots) n (key_at stored s)
  keys_set [] n s = refl
  keys_set (t ∷ slots) zero s = refl
  keys_set (t ∷ slots) (suc n) s = ap (λ l. key_at stored t ∷ l) (keys_set slots n s)

  pub keys_out : (slots : List Slot) (n : ℕ) → keys_in stored (remove slots n) ≡ remove (keys_in stored slots) n
  keys_out [] zero = refl
  keys_out [] (suc n) = refl
  keys_out (t ∷ slots) zero = refl
  keys_out (t ∷ slots) (suc n) = ap (λ l. key_at stored t ∷ l) (keys_out slots n)

  pub key_got : (slots : List Slot) (n : ℕ) (s : Slot) → slice_get slots n ≡ Some s → slice_get (keys_in stored slots) n ≡ Some (key_at stored s)
  key_got [] n s is = cc
  key_got (t ∷ slots) zero s is = ap (λ (u : Slot). Some (key_at stored u)) (same_Some t s is)
  key_got (t ∷ slots) (suc n) s is = key_got slots n s is

  pub keys_length : (slots : List Slot) → length (keys_in stored slots) ≡ length slots
  keys_length [] = refl
  keys_length (t ∷ slots) = ap suc (keys_length slots)

-- ---- halves

two_halves : (m n bit : ℕ) → m / 2 ≡ n → m % 2 ≡ bit → m ≡ n + n + bit
two_halves m n bit half rest = omega (arith, half, rest)

-- the next bit of a key's hash
abbrev bit_of : ℕ → List ℕ → ℕ
bit_of shift key = hash_of key / 2 ^ shift % 2

are_chosen : (stored : List StoredItem) (t : Bool) (s : Slot) (rest : List Slot) → IsSlot stored s → AreSlots stored rest → AreSlots stored (cond t (s ∷ rest) rest)
are_chosen stored true s rest is are = (is, are)
are_chosen stored false s rest is are = are

are_sifted : (stored : List StoredItem) (shift bit : ℕ) (slots : List Slot) → AreSlots stored slots → AreSlots stored (sifted shift bit slots)
are_sifted stored shift bit [] are = tt
are_sifted stored shift bit (s ∷ slots) are =
    are_chosen stored (eqb (s.hash / 2 ^ shift % 2) bit) s (sifted shift bit slots) are.0 (are_sifted stored shift bit slots are.1)

own_chosen : (shift at bit : ℕ) (t : Bool) (s : Slot) (rest : List Slot) → (t ≡ true → s.hash / 2 ^ shift ≡ at) → AreOwn shift at rest → AreOwn shift at (cond t (s ∷ rest) rest)
own_chosen shift at bit true s rest is are = (is refl, are)
own_chosen shift at bit false s rest is are = are

told : {a b : ℕ} → ((eqb a b ≡ true) × (a ≡ b)) ⊎ ((eqb a b ≡ false) × (a ≢ b)) → eqb a b ≡ true → a ≡ b
told (inl is) same = is.1
told (inr differ) same = cc

own_sifted : (shift at bit : ℕ) (slots : List Slot) → AllByRecursion (λ s. s.hash / 2 ^ shift / 2 ≡ at) slots → AreOwn shift (at + at + bit) (sifted shift bit slots)
own_sifted shift at bit [] own = tt
own_sifted shift at bit (s ∷ slots) own =
    own_chosen shift (at + at + bit) bit (eqb (s.hash / 2 ^ shift % 2) bit) s (sifted shift bit slots)
    (λ is. two_halves (s.hash / 2 ^ shift) at bit own.0 (told (eqb_tells (s.hash / 2 ^ shift % 2) bit) is)) (own_sifted shift at bit slots own.1)

module _ (stored : List StoredItem) (shift bit : ℕ) where
  -- a key with another bit is at no slot with this one
  other_key : (q : List ℕ) (s : Slot) → IsSlot stored s → bit_of shift q ≢ s.hash / 2 ^ shift % 2 → is_at (hashed_cmp q) (item_at stored s.place).key ≡ false
  other_key q s is differ = apart (bit_of shift) q (item_at stored s.place).key (λ same. differ (sym same ∙ ap (λ (h : ℕ). h / 2 ^ shift % 2) (sym is.hash)))

  same_by : (q : List ℕ) (s : Slot) (slots : List Slot) → IsSlot stored s → bit_of shift q ≡ bit
      → ((eqb (s.hash / 2 ^ shift % 2) bit ≡ true) × (s.hash / 2 ^ shift % 2 ≡ bit)) ⊎ ((eqb (s.hash / 2 ^ shift % 2) bit ≡ false) × (s.hash / 2 ^ shift % 2 ≢ bit))
      → place_in (keys_in stored (sifted shift bit slots)) q ≡ place_in (keys_in stored slots) q
      → place_in (keys_in stored (cond (eqb (s.hash / 2 ^ shift % 2) bit) (s ∷ sifted shift bit slots) (sifted shift bit slots))) q ≡ place_in (keys_in stored (s ∷ slots)) q
  same_by q s slots is bit_is (inl here) rest =
      ap (λ t. place_in (keys_in stored (cond t (s ∷ sifted shift bit slots) (sifted shift bit slots))) q) here.0
      ∙ ap (λ o. cond (is_at (hashed_cmp q) (item_at stored s.place).key) (Some s.place) o) rest
  same_by q s slots is bit_is (inr other) rest =
      ap (λ t. place_in (keys_in stored (cond t (s ∷ sifted shift bit slots) (sifted shift bit slots))) q) other.0
      ∙ rest
      ∙ sym (ap (λ b. cond b (Some s.place) (place_in (keys_in stored slots) q)) (other_key q s is (λ same. other.1 (sym same ∙ bit_is))))

  sift_same : (slots : List Slot) (q : List ℕ) → AreSlots stored slots → bit_of shift q ≡ bit → place_in (keys_in stored (sifted shift bit slots)) q ≡ place_in (keys_in stored slots) q
  sift_same [] q are bit_is = refl
  sift_same (s ∷ slots) q are bit_is = same_by q s slots are.0 bit_is (eqb_tells (s.hash / 2 ^ shift % 2) bit) (sift_same slots q are.1 bit_is)

  none_by : (q : List ℕ) (s : Slot) (slots : List Slot) → IsSlot stored s → bit_of shift q ≢ bit
      → ((eqb (s.hash / 2 ^ shift % 2) bit ≡ true) × (s.hash / 2 ^ shift % 2 ≡ bit)) ⊎ ((eqb (s.hash / 2 ^ shift % 2) bit ≡ false) × (s.hash / 2 ^ shift % 2 ≢ bit))
      → place_in (keys_in stored (sifted shift bit slots)) q ≡ None
      → place_in (keys_in stored (cond (eqb (s.hash / 2 ^ shift % 2) bit) (s ∷ sifted shift bit slots) (sifted shift bit slots))) q ≡ None
  none_by q s slots is differ (inl here) rest =
      ap (λ t. place_in (keys_in stored (cond t (s ∷ sifted shift bit slots) (sifted shift bit slots))) q) here.0
      ∙ ap (λ b. cond b (Some s.place) (place_in (keys_in stored (sifted shift bit slots)) q)) (other_key q s is (λ same. differ (same ∙ here.1)))
      ∙ rest
  none_by q s slots is differ (inr other) rest =
      ap (λ t. place_in (keys_in stored (cond t (s ∷ sifted shift bit slots) (sifted shift bit slots))) q) other.0 ∙ rest

  sift_none : (slots : List Slot) (q : List ℕ) → AreSlots stored slots → bit_of shift q ≢ bit → place_in (keys_in stored (sifted shift bit slots)) q ≡ None
  sift_none [] q are differ = refl
  sift_none (s ∷ slots) q are differ = none_by q s slots are.0 differ (eqb_tells (s.hash / 2 ^ shift % 2) bit) (sift_none slots q are.1 differ)

bit_either : (m : ℕ) → (m % 2 ≡ 0) ⊎ (m % 2 ≡ 1)
bit_either m = by (m % 2) (omega arith)
  where
    by : (b : ℕ) → b < 2 → (b ≡ 0) ⊎ (b ≡ 1)
    by zero below = inl refl
    by (suc zero) below = inr refl
    by (suc (suc b)) below = absurd (omega (arith, below))

-- the halves of a line have the places that the line has
halves_same : (stored : List StoredItem) (shift : ℕ) (slots : List Slot) (rest : Option ℕ) (q : List ℕ) → AreSlots stored slots → (bit_of shift q ≡ 0) ⊎ (bit_of shift q ≡ 1)
    → first_of (place_in (keys_in stored (sifted shift 0 slots)) q) (first_of (place_in (keys_in stored (sifted shift 1 slots)) q) rest) ≡ first_of (place_in (keys_in stored slots) q) rest
halves_same stored shift slots rest q are (inl none) =
    ap (λ o. first_of (place_in (keys_in stored (sifted shift 0 slots)) q) (first_of o rest)) (sift_none stored shift 1 slots q are (λ one. absurd (omega (arith, none, one))))
    ∙ ap (λ o. first_of o rest) (sift_same stored shift 0 slots q are none)
halves_same stored shift slots rest q are (inr one) =
    ap (λ o. first_of o (first_of (place_in (keys_in stored (sifted shift 1 slots)) q) rest)) (sift_none stored shift 0 slots q are (λ none. absurd (omega (arith, none, one))))
    ∙ ap (λ o. first_of o rest) (sift_same stored shift 1 slots q are one)

pub doubled_same : (stored : List StoredItem) (shift : ℕ) (lines : List Held) (q : List ℕ) → AreLines stored lines → place_in (keys_among stored (doubled shift lines)) q ≡ place_in (keys_among stored lines) q
doubled_same stored shift [] q are = refl
doubled_same stored shift (line ∷ lines) q are =
    let low : Keyed = keys_in stored (sifted shift 0 line.slots) in
    let high : Keyed = keys_in stored (sifted shift 1 line.slots) in
    let rest : Keyed = keys_among stored (doubled shift lines) in
    lookup-append (is_at (hashed_cmp q)) low (high ++ rest)
    ∙ ap (first_of (place_in low q)) (lookup-append (is_at (hashed_cmp q)) high rest)
    ∙ halves_same stored shift line.slots (place_in rest q) q are.0 (bit_either (hash_of q / 2 ^ shift))
    ∙ ap (first_of (place_in (keys_in stored line.slots) q)) (doubled_same stored shift lines q are.1)
    ∙ sym (lookup-append (is_at (hashed_cmp q)) (keys_in stored line.slots) (keys_among stored lines))

pub are_doubled : (stored : List StoredItem) (shift : ℕ) (lines : List Held) → AreLines stored lines → AreLines stored (doubled shift lines)
are_doubled stored shift [] are = tt
are_doubled stored shift (line ∷ lines) are =
    (are_sifted stored shift 0 line.slots are.0, (are_sifted stored shift 1 line.slots are.0, are_doubled stored shift lines are.1))

-- by the halves of the numbers that the new lines have
abbrev HaveHalves : ℕ → ℕ → List Held → Type 0
HaveHalves shift at [] = ⊤
HaveHalves shift at (line ∷ lines) = AllByRecursion (λ s. s.hash / 2 ^ shift / 2 ≡ at) line.slots × HaveHalves shift (suc at) lines

own_doubled : (shift at : ℕ) (lines : List Held) → HaveHalves shift at lines → HaveOwn shift (at + at) (doubled shift lines)
own_doubled shift at [] own = tt
own_doubled shift at (line ∷ lines) own = (
  subst (λ (n : ℕ). AreOwn shift n (sifted shift 0 line.slots)) (omega arith) (own_sifted shift at 0 line.slots own.0),
  (
    subst (λ (n : ℕ). AreOwn shift n (sifted shift 1 line.slots)) (omega arith) (own_sifted shift at 1 line.slots own.0),
    subst (λ (n : ℕ). HaveOwn shift n (doubled shift lines)) (omega arith) (own_doubled shift (suc at) lines own.1),
  ),
)

slots_halved : (old shift at : ℕ) (slots : List Slot) → ((h : ℕ) → h / 2 ^ old ≡ h / 2 ^ shift / 2) → AreOwn old at slots → AllByRecursion (λ s. s.hash / 2 ^ shift / 2 ≡ at) slots
slots_halved old shift at [] halved own = tt
slots_halved old shift at (s ∷ slots) halved own = (sym (halved s.hash) ∙ own.0, slots_halved old shift at slots halved own.1)

lines_halved : (old shift at : ℕ) (lines : List Held) → ((h : ℕ) → h / 2 ^ old ≡ h / 2 ^ shift / 2) → HaveOwn old at lines → HaveHalves shift at lines
lines_halved old shift at [] halved own = tt
lines_halved old shift at (line ∷ lines) halved own = (slots_halved old shift at line.slots halved own.0, lines_halved old shift (suc at) lines halved own.1)

pub own_twice : (old shift : ℕ) (lines : List Held) → ((h : ℕ) → h / 2 ^ old ≡ h / 2 ^ shift / 2) → HaveOwn old 0 lines → HaveOwn shift 0 (doubled shift lines)
own_twice old shift lines halved own = own_doubled shift 0 lines (lines_halved old shift 0 lines halved own)

-- both halves have the mark of their line
pub marked_twice : (shift : ℕ) (lines : List Held) (m n : ℕ) → m / 2 ≡ n → marked_at (doubled shift lines) m ≡ marked_at lines n
marked_twice shift [] m n is = refl
marked_twice shift (line ∷ lines) zero zero is = refl
marked_twice shift (line ∷ lines) zero (suc n) is = absurd (omega (arith, is))
marked_twice shift (line ∷ lines) (suc zero) zero is = refl
marked_twice shift (line ∷ lines) (suc zero) (suc n) is = absurd (omega (arith, is))
marked_twice shift (line ∷ lines) (suc (suc m)) zero is = absurd (omega (arith, is))
marked_twice shift (line ∷ lines) (suc (suc m)) (suc n) is = marked_twice shift lines m n (omega (arith, is))

-- ---- lines without a slot

pub empty_same : (stored : List StoredItem) (lines : List Held) → AreEmpty lines → keys_among stored lines ≡ []
empty_same stored [] are = refl
empty_same stored (line ∷ lines) are = ap (λ slots. keys_in stored slots ++ keys_among stored lines) are.0.0 ∙ empty_same stored lines are.1

pub empty_are : (stored : List StoredItem) (lines : List Held) → AreEmpty lines → AreLines stored lines
empty_are stored [] are = tt
empty_are stored (line ∷ lines) are = (subst (AreSlots stored) (sym are.0.0) tt, empty_are stored lines are.1)

pub empty_own : (shift at : ℕ) (lines : List Held) → AreEmpty lines → HaveOwn shift at lines
empty_own shift at [] are = tt
empty_own shift at (line ∷ lines) are = (subst (AreOwn shift at) (sym are.0.0) tt, empty_own shift (suc at) lines are.1)

-- ---- loops over slots and lines

pub eqb_same : (a b : ℕ) → a ≡ b → eqb a b ≡ true
eqb_same a b same = by (eqb_tells a b)
  where
    by : ((eqb a b ≡ true) × (a ≡ b)) ⊎ ((eqb a b ≡ false) × (a ≢ b)) → eqb a b ≡ true
    by (inl is) = is.0
    by (inr differ) = absurd (differ.1 same)

pub eqb_is : (a b : ℕ) → eqb a b ≡ true → a ≡ b
eqb_is a b is = told (eqb_tells a b) is

pub eqb_differ : (a b : ℕ) → a ≢ b → eqb a b ≡ false
eqb_differ a b differ = by (eqb_tells a b)
  where
    by : ((eqb a b ≡ true) × (a ≡ b)) ⊎ ((eqb a b ≡ false) × (a ≢ b)) → eqb a b ≡ false
    by (inl is) = absurd (differ is.1)
    by (inr is) = is.0

cond_more : (t : Bool) (y : Slot) (a rest : List Slot) → cond t (y ∷ (a ++ rest)) (a ++ rest) ≡ cond t (y ∷ a) a ++ rest
cond_more true y a rest = refl
cond_more false y a rest = refl

-- one slot more has the bit
pub sifted_more : (shift bit : ℕ) (xs : List Slot) (x : Slot) → eqb (x.hash / 2 ^ shift % 2) bit ≡ true → sifted shift bit (xs ++ x ∷ []) ≡ sifted shift bit xs ++ x ∷ []
sifted_more shift bit [] x is = ap (λ b. cond b (x ∷ []) []) is
sifted_more shift bit (y ∷ xs) x is =
    let test : Bool = eqb (y.hash / 2 ^ shift % 2) bit in
    ap (λ l. cond test (y ∷ l) l) (sifted_more shift bit xs x is) ∙ cond_more test y (sifted shift bit xs) (x ∷ [])

-- one slot more does not have it
pub sifted_less : (shift bit : ℕ) (xs : List Slot) (x : Slot) → eqb (x.hash / 2 ^ shift % 2) bit ≡ false → sifted shift bit (xs ++ x ∷ []) ≡ sifted shift bit xs
sifted_less shift bit [] x is = ap (λ b. cond b (x ∷ []) []) is
sifted_less shift bit (y ∷ xs) x is =
    let test : Bool = eqb (y.hash / 2 ^ shift % 2) bit in
    ap (λ l. cond test (y ∷ l) l) (sifted_less shift bit xs x is)

-- one line more is doubled
pub doubled_more : (shift : ℕ) (xs : List Held) (x : Held) → doubled shift (xs ++ x ∷ []) ≡ (doubled shift xs ++ half shift 0 x ∷ []) ++ half shift 1 x ∷ []
doubled_more shift [] x = refl
doubled_more shift (y ∷ xs) x = ap (λ l. half shift 0 y ∷ half shift 1 y ∷ l) (doubled_more shift xs x)

pub take_one : {X : Type 0} (xs : List X) (n : ℕ) (x : X) → slice_get xs n ≡ Some x → take (n + 1) xs ≡ take n xs ++ x ∷ []
take_one xs n x is = subst (λ (m : ℕ). take m xs ≡ take n xs ++ x ∷ []) next (by xs n x is)
  where
    next : suc n ≡ n + 1
    next = omega arith

    by : {X : Type 0} (xs : List X) (n : ℕ) (x : X) → slice_get xs n ≡ Some x → take (suc n) xs ≡ take n xs ++ x ∷ []
    by [] n x is = cc
    by (y ∷ xs) zero x is = ap (λ z. z ∷ []) (same_Some y x is)
    by (y ∷ xs) (suc n) x is = ap (λ l. y ∷ l) (by xs n x is)

pub last_got : {X : Type 0} (xs : List X) (x d : X) (n : ℕ) → n ≡ length xs → slice_index_or (xs ++ x ∷ []) n d ≡ x
last_got [] x d zero is = refl
last_got [] x d (suc n) is = absurd (omega (arith, is))
last_got (y ∷ xs) x d zero is = absurd (omega (arith, is))
last_got (y ∷ xs) x d (suc n) is = last_got xs x d n (omega (arith, is))

pub none_without : {X : Type 0} (xs : List X) → length xs ≡ 0 → xs ≡ []
none_without [] is = refl
none_without (x ∷ xs) is = absurd (omega (arith, is))
