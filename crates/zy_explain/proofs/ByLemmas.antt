-- What one call more, and commands that are ended, leave; by cases on a result.
use Rattle.std.specs.List.{slice_get, slice_set}
use Rattle.std.specs.BTreeSet.{BTreeSet}
use Rattle.std.proofs.Common.{◌≡◌, ℕ, List, Option, None, Some, Result, Ok, Err, IfOk, IfSome}
use Rattle.zy_base.specs.declared.outside.NoMemory.{NoMemory}
use Rattle.mc_allows.specs.declared.call_name.CallName.{CallName}
use Rattle.zy_confirm.specs.declared.store.Store.{Store}
use Rattle.zy_confirm.specs.Store.{store_shards}
use Rattle.zy_sessions.specs.declared.session.Session.{Session}
use Rattle.zy_sessions.specs.declared.sessions.Sessions.{Sessions}
use Rattle.zy_sessions.specs.Sessions.{session_at}
use Rattle.zy_explain.specs.declared.rules.Rules.{Rules}
use Rattle.zy_explain.specs.declared.track.Track.{Track}
use Rattle.zy_explain.specs.declared.row.Row.{Row}
use Rattle.zy_explain.specs.declared.state.State.{State}
use Rattle.zy_explain.specs.Making.{may_lose_in, MakesNext}
use Rattle.zy_explain.specs.Following.{output_in, Settles, FollowsTo, RowFollows, RowSettles, StandsSome}
use Rattle.zy_explain.proofs.StateLemmas.{shards_on, placed, ended}

module _ (rules : Rules) (lasting : BTreeSet (List ℕ)) (s : Session) (output : List ℕ) (before after : Store) (name : CallName) (latest : ℕ) where
  pub follows_by : (old between new : Track) → Settles rules.shards rules.forget s output old between → (r : Result (Option ℕ) NoMemory)
      → IfOk r (λ found. IfSome found (MakesNext rules.shards rules.forget (may_lose_in rules.forget lasting) s before after between new name latest))
      → IfOk r (λ found. IfSome found (FollowsTo rules lasting s output before after old new name latest))
  follows_by old between new settles (Ok None) makes = tt
  follows_by old between new settles (Ok (Some moment)) makes = record { between = between; settles = settles; makes = makes }
  follows_by old between new settles (Err refused) makes = tt

pub placed_some : (rules : Rules) (lasting : BTreeSet (List ℕ)) (sessions : Sessions) (outputs : List (List (List ℕ))) (began : Store) (old new : State) (name : CallName) (s : Session) (row other : Row) (moment : ℕ)
    → session_at sessions name.conn name.session ≡ Some s → slice_get old.rows.items name.conn ≡ Some row
    → RowFollows rules lasting s (output_in outputs name.conn name.session) old.store new.store row other name old.moment moment
    → new.rows.items ≡ slice_set old.rows.items name.conn other → new.moment ≡ moment → StandsSome rules lasting sessions outputs began old → StandsSome rules lasting sessions outputs began new
placed_some rules lasting sessions outputs began old new name s row other moment has is f set moment_is some =
    placed rules lasting sessions outputs began old new name s row other moment has is f set moment_is some.0 some.1

pub ended_some : (rules : Rules) (lasting : BTreeSet (List ℕ)) (sessions : Sessions) (outputs : List (List (List ℕ))) (began : Store) (old new : State) (conn session : ℕ) (s : Session) (row other : Row)
    → session_at sessions conn session ≡ Some s → slice_get old.rows.items conn ≡ Some row → RowSettles rules s (output_in outputs conn session) row other session
    → new.rows.items ≡ slice_set old.rows.items conn other → new.store ≡ old.store → new.moment ≡ old.moment → StandsSome rules lasting sessions outputs began old → StandsSome rules lasting sessions outputs began new
ended_some rules lasting sessions outputs began old new conn session s row other has is f set store_is moment_is some =
    ended rules lasting sessions outputs began old new conn session s row other has is f set store_is moment_is some.0 some.1

pub shards_followed : (rules : Rules) (lasting : BTreeSet (List ℕ)) (s : Session) (output : List ℕ) (before after : Store) (old new : Row) (name : CallName) (latest moment : ℕ)
    → RowFollows rules lasting s output before after old new name latest moment → store_shards after ≡ store_shards before
shards_followed rules lasting s output before after old new name latest moment f =
    let makes = f.follows.makes in
    shards_on (may_lose_in rules.forget lasting) before after makes.call makes.said makes.carried
