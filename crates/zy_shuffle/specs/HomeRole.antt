-- What a seat knows by its role, and how steps of the home change it. Of public clauses only laws
-- cite this module.
use Rattle.std.specs.Prelude.{ℕ, ◌+◌, ◌-◌, ◌*◌, Option, Some, None, ⊤}
use Rattle.std.specs.Int.{trailing_zeros}
use mir.Syntax.{w64}
use Rattle.zy_shuffle.specs.declared.ring.view.Role.{Role}
use Rattle.zy_shuffle.specs.declared.ring.view.Role.TheVariants.{Spent, Start, Core, Home, Closed}

-- ---- changes of what the home knows by its role

-- the home stored this place in the next cell
abbrev pub with_stored : ℕ → Role → Role
with_stored p Spent = Spent
with_stored p Start = Start
with_stored p Core = Core
with_stored p (Home t stored noted out) = Home t (Some p) noted out
with_stored p (Closed gone) = Closed gone

-- the home raised the tail
abbrev pub with_published : Role → Role
with_published Spent = Spent
with_published Start = Start
with_published Core = Core
with_published (Home t stored noted out) = Home (t + 1) None noted out
with_published (Closed gone) = Closed gone

-- the home noted a doorbell word, or has used its note
abbrev pub with_bells : Option (ℕ × ℕ) → Role → Role
with_bells x Spent = Spent
with_bells x Start = Start
with_bells x Core = Core
with_bells x (Home t stored noted out) = Home t stored x out
with_bells x (Closed gone) = Closed gone

-- the home gave a pass
abbrev pub one_more : Role → Role
one_more Spent = Spent
one_more Start = Start
one_more Core = Core
one_more (Home t stored noted out) = Home t stored noted (out + 1)
one_more (Closed gone) = Closed gone

-- the home joined a pass
abbrev pub one_less : Role → Role
one_less Spent = Spent
one_less Start = Start
one_less Core = Core
one_less (Home t stored noted out) = Home t stored noted (out - 1)
one_less (Closed gone) = Closed gone

-- ---- kinds of seats

-- the seat is that of the home
abbrev pub IsHome : Role → Type 0
IsHome Spent = ⊥
IsHome Start = ⊥
IsHome Core = ⊥
IsHome (Home t stored noted out) = ⊤
IsHome (Closed gone) = ⊥

-- the seat may make steps: it is that of a core, or of the home
abbrev pub IsActive : Role → Type 0
IsActive Spent = ⊥
IsActive Start = ⊥
IsActive Core = ⊤
IsActive (Home t stored noted out) = ⊤
IsActive (Closed gone) = ⊥

-- the place of the lowest bit that was noted
abbrev pub lowest : Option (ℕ × ℕ) → ℕ
lowest None = 0
lowest (Some x) = 64 * x.0 + trailing_zeros w64 x.1

-- the place that the home collects next
abbrev pub rung_place : Role → ℕ
rung_place Spent = 0
rung_place Start = 0
rung_place Core = 0
rung_place (Home t stored noted out) = lowest noted
rung_place (Closed gone) = 0

-- the doorbell bits that were noted
abbrev pub noted_in : Option (ℕ × ℕ) → ℕ
noted_in None = 0
noted_in (Some x) = x.1
