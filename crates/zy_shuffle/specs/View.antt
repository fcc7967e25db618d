-- What seats know, and how steps change it.
use Rattle.std.specs.Prelude.{ℕ, ◌+◌, List, [], ◌∷◌, ◌++◌, Bool, true, false, cond, None}
use Rattle.zy_table.specs.declared.name.Name.{Name}
use Rattle.zy_table.specs.Name.{no_name}
use Rattle.zy_shuffle.specs.declared.ring.view.Sight.{Sight}
use Rattle.zy_shuffle.specs.declared.ring.view.Trace.{Trace}
use Rattle.zy_shuffle.specs.declared.ring.view.Event.{Event}
use Rattle.zy_shuffle.specs.declared.ring.view.Role.{Role}
use Rattle.zy_shuffle.specs.declared.ring.view.Role.TheVariants.{Spent, Start}
use Rattle.zy_shuffle.specs.declared.ring.view.View.{View}

-- ---- traces

-- a number that was found, at the step with this number
abbrev pub sight : ℕ → ℕ → Sight
sight found step = record { value = found; step = step }

-- no step was made yet
abbrev pub untraced : Trace
untraced = record {
  steps = 0;
  head = sight 0 0;
  tail = sight 0 0;
  under = 0;
  tried = sight 0 0;
  bells = [];
  run = [];
  seats = [];
}

-- a step that is counted, and of which nothing else is kept
abbrev pub plain_step : Trace → Trace
plain_step t = record t { steps = t.steps + 1 }

-- the trace after a load of the head
abbrev pub head_step : ℕ → Trace → Trace
head_step found t = record t { steps = t.steps + 1; head = sight found (t.steps + 1) }

-- a load of the tail, while the head was `under`
abbrev pub tail_step : ℕ → ℕ → Trace → Trace
tail_step found under t = record t { steps = t.steps + 1; tail = sight found (t.steps + 1); under = under }

-- the trace after a compare and exchange of the head
abbrev pub try_step : ℕ → Trace → Trace
try_step found t = record t { steps = t.steps + 1; tried = sight found (t.steps + 1) }

-- the trace after a load of a doorbell word
abbrev pub bell_step : ℕ → ℕ → Trace → Trace
bell_step word found t = record t { steps = t.steps + 1; bells = (word, sight found (t.steps + 1)) ∷ t.bells }

-- ---- runs

-- the seats all of whose events this seat knows, once it has made an event of its own
abbrev pub with_own : ℕ → List ℕ → List ℕ
with_own seat [] = seat ∷ []
with_own seat (x ∷ xs) = x ∷ xs

-- the seat with the number `since.0` made these events, the newest first, after the events
-- `since.1` of other seats
abbrev pub after_events : ℕ × List Event → List Event → Trace → Trace
after_events since acts t = record t { run = acts ++ (since.1 ++ t.run); seats = with_own since.0 t.seats }

-- the seat made only this event
abbrev pub after_event : ℕ × List Event → Event → Trace → Trace
after_event since e t = after_events since (e ∷ []) t

-- the first run is no longer than the second
abbrev pub is_no_longer : List Event → List Event → Bool
is_no_longer [] ys = true
is_no_longer (x ∷ xs) [] = false
is_no_longer (x ∷ xs) (y ∷ ys) = is_no_longer xs ys

-- the longer of two runs
abbrev pub longer : List Event → List Event → List Event
longer xs ys = cond (is_no_longer xs ys) ys xs

-- the home, which is seat 0, joined another seat, and knows what that seat knew of the run
abbrev pub joining : Trace → Trace → Trace
joining t u = record t { run = longer t.run u.run; seats = with_own 0 t.seats ++ u.seats }

-- ---- views

module _ {T : Type 0} where
  -- a seat with an empty hand, which has made no step
  abbrev pub fresh : Role → Name → View T
  fresh role label = record { role = role; label = label; hand = []; kept = []; note = None; trace = untraced }

  -- the first seat, before its first step
  abbrev pub start : View T
  start = fresh Start no_name

  -- a seat that was joined
  abbrev pub spent : View T
  spent = fresh Spent no_name

  -- a seat that has seen something
  abbrev pub traced : (Trace → Trace) → View T → View T
  traced f v = record v { trace = f v.trace }
