-- The steal of a core in a turn.
use Rattle.std.specs.Prelude.{◌≡◌, ℕ, List, Option, Some, None}
use Rattle.zy_home.specs.Idle.{mark_in}
use Rattle.zy_home.specs.Place.{HeldBy}
use Rattle.zy_conn.specs.declared.hold_end.HoldEnd.{HoldEnd}
use Rattle.zy_conn.specs.Block.{Blocked, label_in}
use Rattle.zy_steal.specs.declared.looks.Look.{Look}
use Rattle.zy_steal.specs.Steal.{PassList, TakesFrom, GivesTo, AllLooked, AllLookedOver}

-- a block of another core was taken, held by the core of the passes to this end, and given back as it then was
pub record Steals (before after : PassList Blocked) : Type 0 where
  pub victim : ℕ
  pub place : ℕ
  pub block : Blocked
  pub between : PassList Blocked
  pub takes : TakesFrom mark_in label_in before between victim place block
  pub held : Blocked
  pub end : HoldEnd
  pub holds : HeldBy before.core block held end
  pub gives : GivesTo between after victim place held

-- a block was stolen; or a look at every other core was made, in which each claim took nothing
abbrev pub StealsTo : PassList Blocked → PassList Blocked → Option (List (Option Look)) → Type 0
StealsTo before after None = Steals before after
StealsTo before after (Some looks) = AllLooked before after looks

-- a block was stolen and held to this end; or a look at every other core was made, in which each claim took nothing,
-- and was noted over the earlier looks
abbrev pub StealsOver : PassList Blocked → PassList Blocked → List (Option Look) → List (Option Look) → Option HoldEnd
    → Type 0
StealsOver before after looks looks' (Some end) = (steals : Steals before after) × (steals.end ≡ end)
StealsOver before after looks looks' None = AllLookedOver before after looks looks'
