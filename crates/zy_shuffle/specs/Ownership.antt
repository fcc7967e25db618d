-- The ownership machine of one home core: the place of each of its connections, and the events that
-- move it. George Prekas, Marios Kogias and Edouard Bugnion, "ZygOS", SOSP 2017: the states idle,
-- ready and busy of a connection, and the shuffle queue of its home core. Here the state busy is
-- two places: in the hand of a core, and given back to the home.
use Rattle.std.specs.Prelude.{◌≡◌, ◌≢◌, ◌↔◌, ℕ, ◌+◌, ◌<◌, ◌≤◌, List, [], ◌∷◌, ◌++◌, true}
use Rattle.zy_shuffle.specs.declared.ring.view.Event.{Event}
use Rattle.zy_shuffle.specs.declared.ring.view.Event.TheVariants.{Arrive, Claim, Handle, GiveBack, Collect, Settle}
use Rattle.zy_table.specs.Member.{is_in, IsDistinct}
use Rattle.zy_table.specs.Put.{put}

-- ---- states

-- the place of a connection: at home with nothing to do, in the queue, in the hand of a core, or
-- given back and not collected yet
pub data Place : Type 0 where
  idle : Place
  ready : Place
  held : ℕ → Place
  returned : Place

-- the place of each connection, the queue of those that are ready, in the order in which they
-- became so, and for each connection the numbers of requests that arrived and that were finished
pub record Owners : Type 0 where
  pub places : ℕ → Place
  pub queue : List ℕ
  pub arrived : ℕ → ℕ
  pub finished : ℕ → ℕ

-- at first every connection is idle, and nothing has arrived
abbrev pub no_requests : Owners
no_requests = record { places = λ _. idle; queue = []; arrived = λ _. 0; finished = λ _. 0 }

-- ---- events

-- the connection goes to this place
abbrev pub moved : ℕ → Place → Owners → Owners
moved c place s = record s { places = put s.places c place }

-- the connection becomes ready, at the end of the queue
abbrev pub queued : ℕ → Owners → Owners
queued c s = record (moved c ready s) { queue = s.queue ++ c ∷ [] }

-- `count` requests of the connection arrived
abbrev pub with_requests : ℕ → ℕ → Owners → Owners
with_requests c count s = record s { arrived = put s.arrived c (s.arrived c + count) }

-- one more request of the connection was finished
abbrev pub with_finished : ℕ → Owners → Owners
with_finished c s = record s { finished = put s.finished c (s.finished c + 1) }

-- the event is possible in the first state, and leads to the second
abbrev pub happens : ℕ → Owners → Event → Owners → Type 0
happens home s (Arrive c count) t = (1 ≤ count)
    × (s.places c ≡ idle → t ≡ queued c (with_requests c count s))
    × (s.places c ≢ idle → t ≡ with_requests c count s)
happens home s (Claim core) t =
    (c : ℕ) × (rest : List ℕ) × (s.queue ≡ c ∷ rest) × (t ≡ record (moved c (held core) s) { queue = rest })
happens home s (Handle core c) t = (s.places c ≡ held core) × (s.finished c < s.arrived c) × (t ≡ with_finished c s)
happens home s (GiveBack core c) t = (s.places c ≡ held core) × (core ≢ home) × (t ≡ moved c returned s)
happens home s (Collect c) t = (s.places c ≡ returned) × (t ≡ moved c (held home) s)
happens home s (Settle c) t = (s.places c ≡ held home)
    × (s.finished c < s.arrived c → t ≡ queued c s)
    × (s.finished c ≡ s.arrived c → t ≡ moved c idle s)

-- ---- sound states

-- each connection is in one place, by these rules
pub record IsSound (s : Owners) : Type 0 where
  -- a connection is ready if and only if it is in the queue
  pub queued : (c : ℕ) → (s.places c ≡ ready) ↔ (is_in c s.queue ≡ true)
  -- no connection is in the queue twice
  pub once : IsDistinct s.queue
  -- no request is finished before it arrives
  pub counts : (c : ℕ) → s.finished c ≤ s.arrived c
  -- an idle connection has no unfinished request
  pub idle_done : (c : ℕ) → s.places c ≡ idle → s.finished c ≡ s.arrived c
  -- a ready connection has one
  pub ready_due : (c : ℕ) → s.places c ≡ ready → s.finished c < s.arrived c

-- ---- runs

-- these events, the newest first, lead from the first state to the last
abbrev pub Runs : ℕ → Owners → List Event → Owners → Type 0
Runs home s [] t = t ≡ s
Runs home s (e ∷ es) t = (u : Owners) × Runs home s es u × happens home u e t
