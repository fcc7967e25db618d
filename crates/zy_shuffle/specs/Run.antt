-- What the seats of a ring know of the run of the ownership machine: together their views have all of it.
use Rattle.std.specs.Prelude.{◌≡◌, ◌⊎◌, ℕ, List, [], ◌∷◌, ◌++◌, true, false, Option, Some, None, ⊤}
use mathlib.Core.Option.{some}
use lib.ListN.{get_elem?}
use Rattle.zy_table.specs.Member.{is_in}
use Rattle.zy_shuffle.specs.declared.ring.view.Event.{Event}
use Rattle.zy_shuffle.specs.declared.ring.view.Event.TheVariants.{Arrive, Claim, Handle, GiveBack, Collect, Settle}
use Rattle.zy_shuffle.specs.declared.ring.view.Role.TheVariants.{Spent}
use Rattle.zy_shuffle.specs.declared.ring.view.Trace.{Trace}
use Rattle.zy_shuffle.specs.declared.ring.view.View.{View}
use Rattle.zy_shuffle.specs.View.{with_own}

-- ---- publications

-- the state of a connection before its home publishes it: idle, with all that had arrived finished,
-- until something new came; or held by the home, with something left
pub data Before : Type 0 where
  was_idle : Before
  was_held : Before

-- the events, the newest first, by which a connection that was published before became idle: what
-- made it ready was finished, and it was settled. None if it was never published
abbrev pub went_idle : {M : Type 0} → ℕ → Option M → List Event
went_idle place None = []
went_idle place (Some mark) = Settle place ∷ Handle 0 place ∷ []

-- the events of a publication, the newest first, by the mark that the home keeps for the place: a
-- request arrives at a connection that was idle or was never published, and a connection that was
-- held is settled
abbrev pub publication : {M : Type 0} → Before → ℕ → Option M → List Event
publication was_idle place kept = Arrive place 1 ∷ went_idle place kept
publication was_held place None = Arrive place 1 ∷ []
publication was_held place (Some mark) = Settle place ∷ []

-- ---- events and seats

-- the seat whose event it is; the home is seat 0
abbrev pub seat_of : Event → ℕ
seat_of (Arrive c count) = 0
seat_of (Claim core) = core
seat_of (Handle core c) = core
seat_of (GiveBack core c) = core
seat_of (Collect c) = 0
seat_of (Settle c) = 0

-- each of these events is of this seat
abbrev pub AreOfSeat : ℕ → List Event → Type 0
AreOfSeat seat [] = ⊤
AreOfSeat seat (e ∷ es) = (seat_of e ≡ seat) × AreOfSeat seat es

-- none of these events is of one of these seats
abbrev pub Apart : List ℕ → List Event → Type 0
Apart seats [] = ⊤
Apart seats (e ∷ es) = (is_in (seat_of e) seats ≡ false) × Apart seats es

-- the list of seats is empty, or it begins with this seat
abbrev pub Leads : ℕ → List ℕ → Type 0
Leads seat [] = ⊤
Leads seat (x ∷ xs) = seat ≡ x

-- ---- what a seat adds to the run

-- the seat of this trace can have the number `since.0`, and none of the events `since.1` is its own
abbrev pub MayFollow : ℕ × List Event → Trace → Type 0
MayFollow since t = Leads since.0 t.seats × Apart (with_own since.0 t.seats) since.1

-- the seat made these events, the newest first, which depend on its number: to the run that it knew
-- it added events of other seats, and then these
abbrev pub MakesAll : (ℕ → List Event) → Trace → Trace → Type 0
MakesAll acts t u = (since : ℕ × List Event) × (u.run ≡ acts since.0 ++ (since.1 ++ t.run))
    × (u.seats ≡ with_own since.0 t.seats) × MayFollow since t

-- the seat made this event, which depends on its number: to the run that it knew it added events of
-- other seats, and then this one
abbrev pub Makes : (ℕ → Event) → Trace → Trace → Type 0
Makes e t u = MakesAll (λ seat. e seat ∷ []) t u

-- the seat made no event, and knows what it knew of the run
abbrev pub MakesNone : Trace → Trace → Type 0
MakesNone t u = (u.run ≡ t.run) × (u.seats ≡ t.seats)

-- the event of a claim
abbrev pub claim_of : ℕ → Event
claim_of core = Claim core

-- the event of a core that gives a place back
abbrev pub give_back_of : ℕ → ℕ → Event
give_back_of place core = GiveBack core place

-- ---- what all seats know

module _ {T : Type 0} where
  -- some view has all events of this seat
  abbrev pub IsOwned : List (View T) → ℕ → Type 0
  IsOwned views seat = (j : ℕ) × (v : View T) × (get_elem? views j ≡ some v) × (is_in seat v.trace.seats ≡ true)

  -- each of these events is of such a seat
  abbrev pub AreOwned : List (View T) → List Event → Type 0
  AreOwned views [] = ⊤
  AreOwned views (e ∷ es) = IsOwned views (seat_of e) × AreOwned views es

  -- the seat was joined
  abbrev pub IsSpent : List (View T) → ℕ → Type 0
  IsSpent views seat = (u : View T) × (get_elem? views seat ≡ some u) × (u.role ≡ Spent)

  -- this is the run that the views have together
  pub record IsKnown (events : List Event) (views : List (View T)) : Type 0 where
    -- some view has the whole run
    pub last : (j : ℕ) × (v : View T) × (get_elem? views j ≡ some v) × (v.trace.run ≡ events)
    -- what any other view has not are later events, of seats whose events it need not have
    pub missing : (j : ℕ) (v : View T) → get_elem? views j ≡ some v
        → (later : List Event) × (events ≡ later ++ v.trace.run) × Apart v.trace.seats later
    -- each event is of a seat all of whose events some view has
    pub owned : AreOwned views events
    -- a view has all events of its own seat, and that of the home also those of seats that were joined
    pub seats_of : (j : ℕ) (v : View T) → get_elem? views j ≡ some v → (seat : ℕ)
        → is_in seat v.trace.seats ≡ true → (seat ≡ j) ⊎ ((j ≡ 0) × IsSpent views seat)
    -- its own seat is the first of these
    pub leads : (j : ℕ) (v : View T) → get_elem? views j ≡ some v → Leads j v.trace.seats
