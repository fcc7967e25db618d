-- The rule of the shuffle queue, which holds of the words, the slots and the views of a ring's
-- table between any two steps.
use Rattle.std.specs.Prelude.{◌≡◌, ℕ, zero, suc, ◌+◌, ◌*◌, ◌/◌, ◌%◌, ◌<◌, ◌≤◌, List, [], ◌∷◌, length, Bool, true, false}
use Rattle.std.specs.Prelude.{slice_index, ⊤}
use Rattle.std.specs.Prelude as std
use mathlib.Core.Option.{Option, none, some}
use lib.ListN.{get_elem?}
use Rattle.std.specs.Int.{bit_at}
use Rattle.atomic_table.specs.Table.{State}
use Rattle.zy_table.specs.declared.name.Name.{Name}
use Rattle.zy_table.specs.Member.{is_in, IsDistinct}
use Rattle.zy_table.specs.Sum.{sum_below}
use Rattle.zy_shuffle.specs.declared.ring.view.Role.{Role}
use Rattle.zy_shuffle.specs.declared.ring.view.Role.TheVariants.{Spent, Start, Core, Home, Closed}
use Rattle.zy_shuffle.specs.declared.ring.view.View.{View}
use Rattle.zy_shuffle.specs.Hand.{marked}
use Rattle.zy_shuffle.specs.Holder.{Holder, nobody, in_queue, in_hand, at_bell, weight, bell, IsInTable, cores}
use Rattle.zy_shuffle.specs.Follow.{Follows}
use Rattle.zy_shuffle.specs.Word.{cell, bell_at, bell_words}

-- the words, the slots and the views of a ring's table
abbrev pub RingState : Type 0 → Type 0
RingState T = State (std.Option T) (View T)

-- ---- the queue

module _ (words : List ℕ) (head tail m place : ℕ) where
  -- the k-th place of the queue is in the cell of k
  abbrev pub InQueue : Holder → Type 0
  InQueue nobody = ⊤
  InQueue (in_queue k) = (head ≤ k) × (k < tail) × (cell words m k ≡ place)
  InQueue (in_hand j) = ⊤
  InQueue at_bell = ⊤

module _ (words : List ℕ) (head tail m : ℕ) where
  -- the cell that a seat noted still has the value found there, as long as the head has not passed it
  abbrev pub IsNote : std.Option (ℕ × ℕ) → Type 0
  IsNote std.None = ⊤
  IsNote (std.Some x) = (x.0 < tail) × (head ≤ x.0 → cell words m x.0 ≡ x.1)

  -- the cell of the next place to be published has the place that the home stored there
  abbrev pub IsStored : std.Option ℕ → Type 0
  IsStored std.None = ⊤
  IsStored (std.Some place) = cell words m tail ≡ place

-- each bit that the home found to be 1 is that of a place which was given back, until the home
-- clears it
abbrev pub IsRung : ℕ → (ℕ → Holder) → std.Option (ℕ × ℕ) → Type 0
IsRung m holders std.None = ⊤
IsRung m holders (std.Some x) =
    (i : ℕ) → i < 64 → bit_at x.1 i ≡ 1 → (64 * x.0 + i < m) × (holders (64 * x.0 + i) ≡ at_bell)

-- how a ring's table stands: its words, the number of its places, the head and the tail, the ring's
-- label, the holder of each place, the mark that the home keeps for it, and the number of passes that
-- are out
pub record Standing (M : Type 0) : Type 0 where
  pub words : List ℕ
  pub places : ℕ
  pub head : ℕ
  pub tail : ℕ
  pub name : Name
  pub holders : ℕ → Holder
  pub marks : ℕ → std.Option M
  pub count : ℕ

-- how a table stands with this head and tail, this label, and these holders and marks
abbrev pub standing : {T M : Type 0} → RingState T → ℕ → ℕ → Name → (ℕ → Holder) → (ℕ → std.Option M) → Standing M
standing s head tail name holders marks = record {
  words = s.words;
  places = length s.homes;
  head = head;
  tail = tail;
  name = name;
  holders = holders;
  marks = marks;
  count = cores s.views;
}

module _ {T M : Type 0} (mark : T → M) (label : T → Name) where
  -- ---- slots

  module _ (homes : List (Option (std.Option T))) (marks : ℕ → std.Option M) (name : Name) (place : ℕ) where
    -- the slot is at home, with a block that has the mark of its place and the label of the ring
    abbrev pub HasBlock : Type 0
    HasBlock = (b : T) × (get_elem? homes place ≡ some (some (std.Some b))) × (marks place ≡ std.Some (mark b))
        × (label b ≡ name)

    -- the state of the slot of a place, by the holder of the place
    abbrev pub Lies : Holder → Type 0
    Lies nobody = get_elem? homes place ≡ some (some std.None)
    Lies (in_queue k) = HasBlock
    Lies (in_hand j) = get_elem? homes place ≡ some none
    Lies at_bell = HasBlock

  -- the rule of one place
  pub record PlaceRule (words : List ℕ) (homes : List (Option (std.Option T))) (head tail : ℕ)
      (marks : ℕ → std.Option M) (name : Name) (place : ℕ) (holder : Holder) : Type 0 where
    -- its slot is at home if and only if the place is in the queue or at its doorbell
    pub lies : Lies homes marks name place holder
    -- its doorbell bit is 1 if and only if the place was given back
    pub rings : bell_at words (length homes) place ≡ bell holder
    -- a place in the queue is in its cell
    pub queued : InQueue words head tail (length homes) place holder

  -- ---- views

  module _ (now : Standing M) (j : ℕ) (v : View T) where
    -- what a seat knows by its role. Each role except `Spent` and `Start` has the label of the
    -- ring, and the home is seat 0. The home knows the tail, the passes that are out, the cell that
    -- it stored, the bits that it noted, and the mark of every place
    abbrev pub IsRole : Role → Type 0
    IsRole Spent = v.hand ≡ []
    IsRole Start = (j ≡ 0) × (now.count ≡ 0) × (v.hand ≡ []) × (now.tail ≡ 0)
        × ((p : ℕ) → now.holders p ≡ nobody) × ((p : ℕ) → now.marks p ≡ std.None)
    IsRole Core = (v.label ≡ now.name) × (j ≡ 0 → ⊥)
    IsRole (Home t stored noted out) = (j ≡ 0) × (v.label ≡ now.name) × (t ≡ now.tail) × (now.count ≡ out)
        × IsStored now.words now.head now.tail now.places stored × IsRung now.places now.holders noted
        × ((p : ℕ) → marked mark p v.kept ≡ now.marks p) × ((p : ℕ) → p < now.places → now.holders p ≡ nobody → ⊥)
    IsRole (Closed gone) = (j ≡ 0) × (now.count ≡ 0) × (v.label ≡ now.name) × (v.hand ≡ [])
        × ((p : ℕ) → marked mark p v.kept ≡ now.marks p)
        × ((p : ℕ) → p < now.places → is_in p gone ≡ true → now.holders p ≡ nobody)
        × ((p : ℕ) → p < now.places → is_in p gone ≡ false → IsInTable (now.holders p))

  -- what seat j knows is true
  pub record Knows (now : Standing M) (j : ℕ) (v : View T) : Type 0 where
    -- the places of its hand are in no other hand, nor in the queue, nor at their doorbells
    pub hand : (p : ℕ) → is_in p v.hand ≡ true → (p < now.places) × (now.holders p ≡ in_hand j)
    -- no place is in its hand twice
    pub apart : IsDistinct v.hand
    -- it keeps the marks that the home keeps for them
    pub same : (p : ℕ) → is_in p v.hand ≡ true → marked mark p v.kept ≡ now.marks p
    -- the head that it saw is at most the head now
    pub head_seen : v.trace.head.value ≤ now.head
    -- the tail that it saw is at most the tail now
    pub tail_seen : v.trace.tail.value ≤ now.tail
    -- its note is true
    pub note : IsNote now.words now.head now.tail now.places v.note
    -- what it knows by its role is true
    pub role : IsRole now j v v.role

  -- ---- the rule

  -- the rule of a ring's table
  pub record ShuffleRule (s : RingState T) : Type 0 where
    -- there are a head and a tail, a label, a holder for each place, and the mark that the home
    -- keeps for it
    pub head : ℕ
    pub tail : ℕ
    pub name : Name
    pub holders : ℕ → Holder
    pub marks : ℕ → std.Option M
    -- part 1: the words are a head, a tail, a cell for each place, and the doorbells
    pub wide : length s.words ≡ 32 + length s.homes + bell_words (length s.homes)
    pub head_is : slice_index s.words 0 ≡ head
    pub tail_is : slice_index s.words 16 ≡ tail
    -- the tail is the head plus the number of places in the queue; so it is at least the head, and
    -- at most the head plus the number of places. That the home knows the tail is in `IsRole`
    pub sums : head + sum_below (length s.homes) (λ p. weight (holders p)) ≡ tail
    -- a ring without places has an empty queue
    pub barren : length s.homes ≡ 0 → tail ≡ 0
    -- part 2: each cell from the head to the tail has a place, and that place is in the queue at
    -- this position. So different cells have different places, in this order
    pub each_cell : (k : ℕ) → head ≤ k → k < tail → (cell s.words (length s.homes) k < length s.homes)
        × (holders (cell s.words (length s.homes) k) ≡ in_queue k)
    -- parts 3 and 4: each place has one holder, and its slot is in the state that belongs to the holder
    pub each_place : (p : ℕ) → p < length s.homes → PlaceRule s.words s.homes head tail marks name p (holders p)
    -- a place in the hand of a seat is in the hand of that seat's view
    pub live : (p j : ℕ) → p < length s.homes → holders p ≡ in_hand j
        → (v : View T) × (get_elem? s.views j ≡ some v) × (is_in p v.hand ≡ true)
    -- each doorbell bit that is set belongs to a place
    pub blank : (p : ℕ) → length s.homes ≤ p → bell_at s.words (length s.homes) p ≡ 0
    -- part 5, and what parts 1, 3 and 4 say of views: what each seat has seen, noted, stored and
    -- kept is still true
    pub each_seat : (j : ℕ) (v : View T) → get_elem? s.views j ≡ some v
        → Knows (standing s head tail name holders marks) j v
    -- each step is its events of the ownership machine, or no event: the state that the table shows is
    -- one that a run of the machine reaches, and the views have this run between them
    pub follows : Follows s.words (length s.homes) head tail holders marks s.views
