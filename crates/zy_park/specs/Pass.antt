-- What contracts see of the bells, of the root, and of the passes that it gave.
use Rattle.std.specs.Prelude.{◌≡◌, ℕ, zero, suc, ◌+◌, ◌<◌, ◌==◌, Bool, false, List, [], ◌∷◌, length, map}
use Rattle.std.specs.Prelude.{Option, Some, slice_get, if◌then◌else◌}
use Rattle.std.specs.Int.{bit_at}
use Rattle.atomic_table.specs.Seated.{TableId}
use Rattle.zy_control.specs.Pass.{Held}
use Rattle.zy_park.specs.declared.view.View.{View}
use Rattle.zy_park.specs.Token.{unrung, rings, takes}

-- the bells: for each core the table that its token is in
abbrev pub Bells : Type 0
Bells = List TableId

-- a core's pass: the bells, its core, and what its seat at each bell knows
pub record Passed : Type 0 where
  pub bells : Bells
  pub core : ℕ
  pub views : List View

-- the pass with these parts
abbrev pub passed : Bells → ℕ → List View → Passed
passed bells core views = record { bells = bells; core = core; views = views }

-- a root: the bells, which cores were given their pass, and what its own seat at each bell knows
pub record Rooted : Type 0 where
  pub bells : Bells
  pub given : List Bool
  pub views : List View

-- the root with these parts
abbrev pub rooted : Bells → List Bool → List View → Rooted
rooted bells given views = record { bells = bells; given = given; views = views }

-- the root of these bells, which gave no pass
abbrev pub new_root : Bells → Rooted
new_root bells = rooted bells (map (λ (id : TableId). false) bells) (map (λ (id : TableId). unrung) bells)

-- the pass of this core at these bells, which has neither put nor taken a token
abbrev pub new_pass : Bells → ℕ → Passed
new_pass bells core = passed bells core (map (λ (id : TableId). unrung) bells)

-- the core was not given its pass
abbrev pub IsFree : Rooted → ℕ → Type 0
IsFree root core = slice_get root.given core ≡ Some false

-- no core was given its pass
abbrev pub GaveNone : Rooted → Type 0
GaveNone root = (core : ℕ) → core < length root.bells → IsFree root core

-- ---- steps

-- the views after this change of the one with this index
abbrev pub change_at : (View → View) → ℕ → List View → List View
change_at f i [] = []
change_at f zero (v ∷ vs) = f v ∷ vs
change_at f (suc i) (v ∷ vs) = v ∷ change_at f i vs

-- the pass after it put the token of this core
abbrev pub ringing : ℕ → Passed → Passed
ringing core p = passed p.bells p.core (change_at rings core p.views)

-- the root after it did the same
abbrev pub ringing_from : ℕ → Rooted → Rooted
ringing_from core r = rooted r.bells r.given (change_at rings core r.views)

-- the token of the pass's core was taken, in a rest that was given this pass on the control words, or none
abbrev pub resting : Option Held → Passed → Passed
resting lent p = passed p.bells p.core (change_at (takes lent) p.core p.views)

-- the views from this core on, after the token of each core was put whose bit is 1 in the word
abbrev pub rung_by : ℕ → ℕ → List View → List View
rung_by word core [] = []
rung_by word core (v ∷ vs) = (if bit_at word core == 1 then rings v else v) ∷ rung_by word (core + 1) vs

-- the token of each core whose bit is 1 in the word was put by the pass
abbrev pub ringing_each : ℕ → Passed → Passed
ringing_each word p = passed p.bells p.core (rung_by word 0 p.views)

-- the root after it did the same
abbrev pub ringing_each_from : ℕ → Rooted → Rooted
ringing_each_from word r = rooted r.bells r.given (rung_by word 0 r.views)
