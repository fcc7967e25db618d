-- A nap of a core: it announces itself, takes a turn, and rests until it is rung unless there is something to do.
use Rattle.std.specs.Prelude.{◌≡◌, ◌<◌, ℕ, Bool, true, false, Some, not, ◌||◌, ◌==◌, if◌then◌else◌}
use Rattle.zy_park.specs.Pass as bells
use Rattle.zy_control.specs.View.{has_counted}
use Rattle.zy_control.specs.declared.view.Role.TheVariants.{Core}
use Rattle.zy_control.specs.Pass.{Held, seeing_done, seeing_stop}
use Rattle.zy_core.specs.declared.turn.Turn.{Turn}
use Rattle.zy_core.specs.declared.turn.Turn.TheVariants.{Worked, Idle, Settled}
use Rattle.zy_core.specs.declared.nap.Nap.{Nap}
use Rattle.zy_core.specs.declared.nap.Nap.TheVariants.{Awake, Ending, Rested}
use Rattle.zy_core.specs.Core.{Cored, stepped, with_announcement}
use Rattle.zy_core.specs.Turn.{TurnTo, HasSteps}

-- the core stays awake after this turn, whatever the control words are: the turn worked, or it found that the core is
-- settled and has not counted itself on done
abbrev pub stays_awake : Bool → Turn → Bool
stays_awake counted Worked = true
stays_awake counted (Idle own looks) = false
stays_awake counted (Settled looks) = not counted

-- the run ends: done is the number of cores, or stop is not 0
abbrev pub is_ending : ℕ → ℕ → ℕ → Bool
is_ending cores done stop = (done == cores) || not (stop == 0)

-- the answer of a nap among `cores` cores, with this turn, and with these values of done and stop
abbrev pub nap_of : ℕ → Bool → Turn → ℕ → ℕ → Nap
nap_of cores counted turn done stop =
    if stays_awake counted turn then Awake turn else (if is_ending cores done stop then Ending done stop else Rested)

-- what the turn and the rest of a core that has announced itself came to, among `cores` cores
pub record RestTo (cores : ℕ) (before after : Cored) (nap : Nap) : Type 0 where
  -- the turn that it took, and the core right after it
  pub turn : Turn
  pub turned : Cored
  pub took : TurnTo before turned turn
  pub steps : HasSteps before turned
  pub control : turned.control ≡ before.control
  -- then it loaded done and stop, which had these values
  pub done : ℕ
  pub stop : ℕ
  pub loaded : after ≡ stepped (seeing_stop stop (seeing_done done before.control)) turned
  pub is : nap ≡ nap_of cores (has_counted before.control.role) turn done stop

-- the core's pass at the bells after a nap: if the core rested, its token was taken, in a rest to which this pass on
-- the control words was lent; otherwise it made no step
abbrev pub bell_after : Held → Nap → bells.Passed → bells.Passed
bell_after control (Awake turn) p = p
bell_after control (Ending done stop) p = p
bell_after control Rested p = bells.resting (Some control) p

-- what a nap came to, among `cores` cores, with the core's pass at the bells before and after it: the core announced
-- itself, took its turn, loaded done and stop, rested or not, and then withdrew
pub record NapTo (cores : ℕ) (before after : Cored) (bell bell' : bells.Passed) (nap : Nap) : Type 0 where
  pub set : ℕ
  pub cleared : ℕ
  pub announced : Cored
  pub loaded : Cored
  pub announces : announced ≡ with_announcement true set before
  pub rests : RestTo cores announced loaded nap
  -- if it rested, it lent its own pass on the control words, as it was after the load of stop; by this pass it had
  -- announced itself
  pub rested : bell' ≡ bell_after loaded.control nap bell
  pub asleep : loaded.control.role ≡ Core before.home.core (has_counted before.control.role) true
  -- it withdrew after that, by its next step on them
  pub withdraws : after ≡ with_announcement false cleared loaded
  pub last : after.control.trace.stop.step < after.control.trace.sleepers.step
