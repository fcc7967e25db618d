-- No more tokens are taken than were put.
use Rattle.std.proofs.Common.{◌<◌, ◌≤◌, Bool, true, List, arith}
use Rattle.zy_park.specs.declared.view.View.{View}
use Rattle.zy_park.specs.Token.{rung_in, taken_in, TokenRule}

pub taken_at_most : (token : Bool) (vs : List View) → TokenRule token vs → taken_in vs ≤ rung_in vs
taken_at_most token vs h = omega arith

pub taken_below : (vs : List View) → TokenRule true vs → taken_in vs < rung_in vs
taken_below vs h = omega arith
