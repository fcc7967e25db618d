-- The token of a core, what the seats at it know, and the rule, which holds between any two steps.
use Rattle.std.specs.Prelude.{◌≡◌, ℕ, ◌+◌, ◌≤◌, Bool, true, false, List, [], ◌∷◌, Option, None}
use Rattle.zy_control.specs.Pass.{Held}
use Rattle.zy_park.specs.declared.view.View.{View}

-- 1 for a token that is there, 0 for one that is not
abbrev pub worth : Bool → ℕ
worth true = 1
worth false = 0

-- ---- views

-- the view with these parts
abbrev pub view : ℕ → ℕ → Bool → Option Held → View
view rung taken token lent = record { rung = rung; taken = taken; token = token; lent = lent }

-- the view that each seat begins with: it has neither put nor taken the token
abbrev pub unrung : View
unrung = view 0 0 false None

-- the seat has put the token, which was there after that step
abbrev pub rings : View → View
rings v = view (v.rung + 1) v.taken true v.lent

-- the seat has taken the token, which was no longer there after that step, in a rest that was given this pass on the
-- control words, or none
abbrev pub takes : Option Held → View → View
takes lent v = view v.rung (v.taken + 1) false lent

-- ---- steps: the view before, whether the token was there before and after, and the view after

-- the token was put
abbrev pub puts : View → Bool → Bool → View → Type 0
puts v was is w = w ≡ view (v.rung + 1) v.taken is v.lent

-- the token was taken, if it was there, in such a rest
abbrev pub takes_from : Option Held → View → Bool → Bool → View → Type 0
takes_from lent v was is w = w ≡ view v.rung (v.taken + worth was) is lent

-- ---- the rule

-- how many times the seats have put the token
abbrev pub rung_in : List View → ℕ
rung_in [] = 0
rung_in (v ∷ vs) = v.rung + rung_in vs

-- how many times they have taken it
abbrev pub taken_in : List View → ℕ
taken_in [] = 0
taken_in (v ∷ vs) = v.taken + taken_in vs

-- the tokens that were taken, with the one that is there, are no more than those that were put
abbrev pub TokenRule : Bool → List View → Type 0
TokenRule token vs = worth token + taken_in vs ≤ rung_in vs
