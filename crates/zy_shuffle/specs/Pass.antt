-- The views of a ring and of its passes, and the meaning of the answers of a claim and of a collect.
use Rattle.std.specs.Prelude.{◌≡◌, ◌≢◌, ℕ, ◌+◌, ◌-◌, ◌/◌, ◌%◌, ◌<◌, ◌≤◌, List, [], ◌∷◌, true, false, ◌==◌, cond, length}
use Rattle.std.specs.Prelude.{slice_get, Option, Some, None, ⊤}
use Rattle.std.specs.Int.{bit_at}
use Rattle.atomic_table.specs.Seated.{TableId}
use Rattle.zy_table.specs.declared.name.Name.{Name}
use Rattle.zy_table.specs.Member.{is_in, without}
use Rattle.zy_shuffle.specs.declared.ring.view.Sight.{Sight}
use Rattle.zy_shuffle.specs.declared.ring.view.Trace.{Trace}
use Rattle.zy_shuffle.specs.declared.ring.view.Role.{Role}
use Rattle.zy_shuffle.specs.declared.ring.view.Role.TheVariants.{Spent, Start, Core, Home, Closed}
use Rattle.zy_shuffle.specs.declared.ring.view.View.{View}
use Rattle.zy_shuffle.specs.declared.ring.view.Event.{Event}
use Rattle.zy_shuffle.specs.declared.ring.view.Event.TheVariants.{Collect}
use Rattle.zy_shuffle.specs.declared.claim.Claim.{Claim}
use Rattle.zy_shuffle.specs.declared.claim.Claim.TheVariants.{Took, Empty, Raced}
use Rattle.zy_shuffle.specs.Hand.{below_then, marked, left_of}
use Rattle.zy_shuffle.specs.View.{sight, untraced, plain_step, bell_step, after_event, joining}
use Rattle.zy_shuffle.specs.Run.{Before, MayFollow, Makes, MakesAll, MakesNone, claim_of, publication}
use Rattle.zy_shuffle.specs.Word.{bell_words}

-- ---- rings and passes

-- a ring: which table it is, and the number of its places
pub record Ringed : Type 0 where
  pub id : TableId
  pub places : ℕ

-- the ring in this table, with `places` places
abbrev pub ringed : TableId → ℕ → Ringed
ringed id places = record { id = id; places = places }

-- a pass: its table and the ring's label, its hand, the blocks whose marks it keeps, the number of
-- its home's publications, the number of passes that are out, and what it has seen. For a core both
-- numbers are 0
pub record Held (T : Type 0) : Type 0 where
  pub table : TableId
  pub label : Name
  pub hand : List ℕ
  pub kept : List (ℕ × T)
  pub count : ℕ
  pub out : ℕ
  pub trace : Trace

-- the tail, as a home knows it
abbrev pub tail_of : Role → ℕ
tail_of Spent = 0
tail_of Start = 0
tail_of Core = 0
tail_of (Home tail stored noted out) = tail
tail_of (Closed gone) = 0

-- the number of passes of a home that are out
abbrev pub out_of : Role → ℕ
out_of Spent = 0
out_of Start = 0
out_of Core = 0
out_of (Home tail stored noted out) = out
out_of (Closed gone) = 0

-- the view of a seat, as a pass
abbrev pub held : {T : Type 0} → TableId → View T → Held T
held id v = record {
  table = id;
  label = v.label;
  hand = v.hand;
  kept = v.kept;
  count = tail_of v.role;
  out = out_of v.role;
  trace = v.trace;
}

-- a new home: all its places are in its hand
abbrev pub newly_held : {T : Type 0} → TableId → Name → ℕ → Held T
newly_held id label places = record {
  table = id;
  label = label;
  hand = below_then places [];
  kept = [];
  count = 0;
  out = 0;
  trace = untraced;
}

-- each place of the ring is in the hand
abbrev pub HasAll : ℕ → List ℕ → Type 0
HasAll places hand = (place : ℕ) → place < places → is_in place hand ≡ true

-- a new pass of a home: its hand is empty
abbrev pub newly_given : {T : Type 0} → Held T → Held T
newly_given home = record home { hand = []; kept = []; count = 0; out = 0; trace = untraced }

-- a home after it joined a pass with this trace
abbrev pub after_join : {T : Type 0} → Held T → Trace → Held T
after_join home t = record home { out = home.out - 1; trace = joining home.trace t }

-- a home after it published this block at its place
abbrev pub after_publish : {T : Type 0} → ℕ → T → Held T → Trace → Held T
after_publish place block v trace =
    record v { hand = without place v.hand; kept = (place, block) ∷ v.kept; count = v.count + 1; trace = trace }

-- a core after it gave this block back at its place
abbrev pub after_give_back : {T : Type 0} → ℕ → T → Held T → Trace → Held T
after_give_back place block v trace =
    record v { hand = without place v.hand; kept = (place, block) ∷ v.kept; trace = trace }

-- ---- what was found in this call, which began after `begin` steps

-- the head and then the tail were loaded, and had these values
pub record Loaded (begin head tail : ℕ) (t : Trace) : Type 0 where
  pub head_value : t.head.value ≡ head
  pub tail_value : t.tail.value ≡ tail
  pub head_step : begin < t.head.step
  pub tail_step : t.head.step < t.tail.step
  pub last : t.tail.step ≤ t.steps

-- after that, the exchange found this value of the head
pub record Tried (found : ℕ) (t : Trace) : Type 0 where
  pub value : t.tried.value ≡ found
  pub step : t.tail.step < t.tried.step
  pub last : t.tried.step ≤ t.steps

-- the last load of a doorbell word
abbrev pub last_bell : ℕ → List (ℕ × Sight) → Sight
last_bell word [] = sight 0 0
last_bell word (x ∷ xs) = cond (word == x.0) x.1 (last_bell word xs)

-- the doorbell word was loaded, and had this value
abbrev pub Rang : ℕ → ℕ → ℕ → Trace → Type 0
Rang begin word found t = ((last_bell word t.bells).value ≡ found) × (begin < (last_bell word t.bells).step)

-- ---- answers

-- if a place was taken, this holds of it and its block
abbrev pub IfTook : {T : Type 0} → Claim T → (ℕ → T → Type 0) → Type 0
IfTook (Took place block) P = P place block
IfTook (Empty at) P = ⊤
IfTook (Raced saw found) P = ⊤

-- the pass is unchanged except for what it has seen
abbrev pub Unchanged : {T : Type 0} → Held T → Held T → Type 0
Unchanged v w = w ≡ record v { trace = w.trace }

module _ {T M : Type 0} (mark : T → M) (label : T → Name) (places : ℕ) (v w : Held T) where
  -- the place is now in the hand, with a block that has the ring's label
  pub record Joined (place : ℕ) (block : T) : Type 0 where
    pub is : w ≡ record v { hand = place ∷ v.hand; kept = (place, block) ∷ v.kept; trace = w.trace }
    pub near : place < places
    pub apart : is_in place v.hand ≡ false
    pub labelled : label block ≡ v.label

  -- took: the exchange found the head that was loaded. Empty: the tail that was loaded was that
  -- head, and the head still had that value at that moment. Raced: the exchange found another head
  abbrev pub Claimed : Claim T → Type 0
  Claimed (Took place block) = Joined place block × ((head tail : ℕ) × Loaded v.trace.steps head tail w.trace
      × (head < tail) × Tried head w.trace)
  Claimed (Empty at) = Unchanged v w × Loaded v.trace.steps at at w.trace × (w.trace.under ≡ at)
  Claimed (Raced saw found) = Unchanged v w × ((tail : ℕ) × Loaded v.trace.steps saw tail w.trace × (saw < tail))
      × Tried found w.trace × (found ≢ saw)

  -- none: each doorbell word was loaded, and was 0. Some: the words before that of the place were
  -- 0, and its bit was the lowest of its word
  abbrev pub Collected : Option (ℕ × T) → Type 0
  Collected None = Unchanged v w × ((word : ℕ) → word < bell_words places → Rang v.trace.steps word 0 w.trace)
  Collected (Some x) = Joined x.0 x.1
      × ((bits : ℕ) × Rang v.trace.steps (x.0 / 64) bits w.trace × (bit_at bits (x.0 % 64) ≡ 1)
      × ((word : ℕ) → word < x.0 / 64 → Rang v.trace.steps word 0 w.trace)
      × ((i : ℕ) → i < x.0 % 64 → bit_at bits i ≡ 0))

  -- what a look at one doorbell word found, in the same way
  abbrev pub LookedAt : ℕ → Option (ℕ × T) → Type 0
  LookedAt word None = Unchanged v w × (w.trace ≡ bell_step word 0 v.trace)
  LookedAt word (Some x) = Joined x.0 x.1 × (x.0 / 64 ≡ word)
      × ((bits : ℕ) × (since : ℕ × List Event)
      × (w.trace ≡ after_event since (Collect x.0) (plain_step (bell_step word bits v.trace)))
      × (bit_at bits (x.0 % 64) ≡ 1) × ((i : ℕ) → i < x.0 % 64 → bit_at bits i ≡ 0) × MayFollow since v.trace)

-- ---- the events of calls

-- publishing a place, whose state was this before, makes the events `publication` of the home
abbrev pub PublishMakes : {T M : Type 0} → Before → (T → M) → ℕ → Held T → Held T → Type 0
PublishMakes before mark place v w =
    MakesAll (λ _. publication before place (marked mark place v.kept)) v.trace w.trace

-- a claim that took a place makes the event `Claim` of the pass; any other claim makes none
abbrev pub ClaimMakes : {T : Type 0} → Trace → Trace → Claim T → Type 0
ClaimMakes t u (Took place block) = Makes claim_of t u
ClaimMakes t u (Empty at) = MakesNone t u
ClaimMakes t u (Raced saw found) = MakesNone t u

-- a collect that found a place makes the event `Collect`; any other makes none
abbrev pub CollectMakes : {T : Type 0} → Trace → Trace → Option (ℕ × T) → Type 0
CollectMakes t u None = MakesNone t u
CollectMakes t u (Some x) = Makes (λ _. Collect x.0) t u

-- ---- what is left at the end

module _ {T M : Type 0} (mark : T → M) (label : T → Name) (places : ℕ) (v : Held T) where
  -- the slot of each place in the home's hand has no block. Each other slot has the block of its
  -- place, with the mark that the home keeps and the ring's label
  pub record LeftSlots (slots : List (Option T)) : Type 0 where
    pub count : length slots ≡ places
    pub taken : (p : ℕ) → p < places → is_in p v.hand ≡ true → slice_get slots p ≡ Some None
    pub full : (p : ℕ) → p < places → is_in p v.hand ≡ false
        → (b : T) × (slice_get slots p ≡ Some (Some b)) × (marked mark p v.kept ≡ Some (mark b)) × (label b ≡ v.label)

  -- the blocks of these slots, with their places
  abbrev pub AreLeft : List (ℕ × T) → Type 0
  AreLeft left = (slots : List (Option T)) × (left ≡ left_of 0 slots) × LeftSlots slots
