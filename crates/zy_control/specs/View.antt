-- What the seats at the control words know, and how each kind of step changes it.
use Rattle.std.specs.Prelude.{◌≡◌, ℕ, ◌+◌, ◌<◌, Bool, true, false, ⊤}
use Rattle.std.specs.Int.{bit_at}
use Rattle.zy_control.specs.declared.view.Sight.{Sight}
use Rattle.zy_control.specs.declared.view.Trace.{Trace}
use Rattle.zy_control.specs.declared.view.Role.{Role}
use Rattle.zy_control.specs.declared.view.Role.TheVariants.{Root, Core, Watcher}
use Rattle.zy_control.specs.declared.view.View.{View}

-- ---- roles

-- the number of seats that the root gave
abbrev pub given_by : Role → ℕ
given_by (Root given) = given
given_by (Core number counted announced) = 0
given_by Watcher = 0

-- the number of the core; 0 for any other seat
abbrev pub number_of : Role → ℕ
number_of (Root given) = 0
number_of (Core number counted announced) = number
number_of Watcher = 0

-- whether the seat is of a core that has counted itself
abbrev pub has_counted : Role → Bool
has_counted (Root given) = false
has_counted (Core number counted announced) = counted
has_counted Watcher = false

-- the seat is of a core that has not counted itself
abbrev pub IsUncounted : Role → Type 0
IsUncounted (Root given) = ⊥
IsUncounted (Core number counted announced) = counted ≡ false
IsUncounted Watcher = ⊥

-- the seat has counted itself if it is of a core
abbrev pub MustHaveCounted : Role → Type 0
MustHaveCounted (Root given) = ⊤
MustHaveCounted (Core number counted announced) = counted ≡ true
MustHaveCounted Watcher = ⊤

-- a core after it has counted itself
abbrev pub counted : Role → Role
counted (Root given) = Root given
counted (Core number has announced) = Core number true announced
counted Watcher = Watcher

-- whether the seat is of a core that has announced that it rests
abbrev pub has_announced : Role → Bool
has_announced (Root given) = false
has_announced (Core number counted announced) = announced
has_announced Watcher = false

-- the seat is of a core whose number is that of a bit of a word
abbrev pub HasBit : Role → Type 0
HasBit (Root given) = ⊥
HasBit (Core number counted announced) = number < 64
HasBit Watcher = ⊥

-- a core after it has announced itself, or withdrawn that
abbrev pub announcing : Bool → Role → Role
announcing is (Root given) = Root given
announcing is (Core number counted announced) = Core number counted is
announcing is Watcher = Watcher

-- ---- traces

-- a word held this number after the step with this number
abbrev pub sight : ℕ → ℕ → Sight
sight value step = record { value = value; step = step }

-- no step was made yet
abbrev pub untraced : Trace
untraced = record { steps = 0; done = sight 0 0; stop = sight 0 0; sleepers = sight 0 0 }

-- a step on done, after which it had this value
abbrev pub done_step : ℕ → Trace → Trace
done_step value t = record t { steps = t.steps + 1; done = sight value (t.steps + 1) }

-- a step on stop, after which it had this value
abbrev pub stop_step : ℕ → Trace → Trace
stop_step value t = record t { steps = t.steps + 1; stop = sight value (t.steps + 1) }

-- a step on sleepers, after which it had this value
abbrev pub sleepers_step : ℕ → Trace → Trace
sleepers_step value t = record t { steps = t.steps + 1; sleepers = sight value (t.steps + 1) }

-- each bit that is set in the first number is set in the second
abbrev pub Covers : ℕ → ℕ → Type 0
Covers a b = (i : ℕ) → bit_at a i ≡ 1 → bit_at b i ≡ 1

-- ---- views

-- the view with these parts
abbrev pub view : Role → ℕ → Trace → View
view role cores trace = record { role = role; cores = cores; trace = trace }

-- the first seat: a root that gave no seat
abbrev pub root_view : ℕ → View
root_view cores = view (Root 0) cores untraced

-- the root gave a seat
abbrev pub gave_one : Role → Role
gave_one (Root given) = Root (given + 1)
gave_one (Core number has announced) = Core number has announced
gave_one Watcher = Watcher

-- the view of the root after it gave one more seat
abbrev pub gave : View → View
gave v = view (gave_one v.role) v.cores v.trace

-- the seat given, which is that of the next core
abbrev pub newcomer : View → View
newcomer v = view (Core (given_by v.role) false false) v.cores untraced
