-- All tracks and the store, after one more call.
use Rattle.std.specs.BTreeSet.{BTreeSet}
use Rattle.std.specs.List.{slice_get, slice_set}
use Rattle.std.proofs.Common.{◌≡◌, ⊎_elim, ℕ, ◌+◌, ◌≤◌, ◌==◌, ◌&&◌, Bool, true, false, List, [], ◌∷◌, ◌++◌, length, All, Option, None, Some, refl, sym, ap, ◌∙◌, subst, arith}
use Rattle.std.proofs.lemmas.List.{length-append}
use Rattle.std.proofs.lemmas.List.Elements.{All-nil, All-cons, All-append, All-weaker}
use Rattle.std.proofs.lemmas.List.Kept.{AllPairs-cons}
use Rattle.std.proofs.lemmas.Option.{slice_get_within}
use Rattle.std.proofs.lemmas.Bool.Decides.{eqb_tells}
use Rattle.mc_allows.specs.declared.call_name.CallName.{CallName}
use Rattle.mc_allows.specs.declared.said.Said.{Said}
use Rattle.mc_allows.specs.Steps.{is_same, first_uniques}
use Rattle.mc_calls.specs.declared.item.Item.{Item}
use Rattle.mc_parse.specs.declared.shard_call.ShardCall.{ShardCall}
use Rattle.zy_capture.specs.declared.record.Record.{Record}
use Rattle.zy_check.proofs.ListLemmas.{there}
use Rattle.zy_verdict.specs.Entries.{MadeCall, is_of_session}
use Rattle.zy_verdict.specs.Explained.{IsNotLater}
use Rattle.zy_verdict.proofs.ListLemmas.{pairs_append, pairs_none}
use Rattle.zy_confirm.specs.declared.store.Store.{Store}
use Rattle.zy_confirm.specs.Store.{store_shards, held_at, is_used, AreUsed, KeepsBounds, ChangesAt, StandsAfter}
use Rattle.zy_confirm.specs.declared.outcome.After.TheVariants.{Put}
use Rattle.zy_confirm.proofs.MakeLemmas.{same_key}
use Rattle.zy_confirm.proofs.ChainLemmas.{stands_on, stands_without, nothing_stands}
use Rattle.zy_confirm.proofs.StoreLemmas.{set_same, set_other}
use Rattle.zy_sessions.specs.declared.session.Session.{Session}
use Rattle.zy_sessions.specs.declared.sessions.Sessions.{Sessions}
use Rattle.zy_sessions.specs.declared.line.Line.{Line}
use Rattle.zy_sessions.specs.Sessions.{SessionHolds, SessionsHold, session_in, session_at}
use Rattle.zy_explain.specs.declared.rules.Rules.{Rules}
use Rattle.zy_explain.specs.declared.track.Track.{Track}
use Rattle.zy_explain.specs.declared.row.Row.{Row}
use Rattle.zy_explain.specs.declared.state.State.{State}
use Rattle.zy_explain.specs.Making.{CarriesOut, MakesNext}
use Rattle.zy_explain.specs.Following.{output_in, track_in, track_at, may_lose_by, TrackStands, SessionStands, Stands, StandsSome, RowFollows, RowSettles, HoldsItsOwn, IsFirstStore, IsFreshRow, AreFreshRows, sessions_in, sessions_on}
use Rattle.zy_explain.proofs.CutLemmas.{push_get}
use Rattle.zy_explain.proofs.SaidLemmas.{same_number, other_number, session_other}
use Rattle.zy_explain.proofs.TrackLemmas.{added, track_start, track_kept, track_said}

-- ---- the store

-- a call that was made extends the chains, and a loss before it does too
pub chains_on : (may_lose : List ℕ → Bool) (first : List ℕ → Option Item) (old new : Store) (entries : List MadeCall) (e : MadeCall) → CarriesOut may_lose old new e.named.call e.said
    → StandsAfter may_lose first old entries → StandsAfter may_lose first new (entries ++ e ∷ [])
chains_on may_lose first old new entries e carries stands =
    stands_on may_lose first carries.middle new entries e carries.makes
    (⊎_elim
    (λ same. subst (λ (x : Store). StandsAfter may_lose first x entries) (sym same) stands)
    (λ some. stands_without may_lose first old carries.middle entries some.key some.loses some.may stands)
    carries.lost)

pub shards_on : (may_lose : List ℕ → Bool) (old new : Store) (call : ShardCall) (said : Said) → CarriesOut may_lose old new call said → store_shards new ≡ store_shards old
shards_on may_lose old new call said carries = carries.makes.shards ∙ ⊎_elim (λ same. ap store_shards same) (λ some. some.loses.shards) carries.lost

-- bounds that are kept twice are kept
keeps_on : (began old new : Store) → KeepsBounds began old → KeepsBounds old new → KeepsBounds began new
keeps_on began old new one other = (other.0 ∙ one.0, let first = one.1 in let second = other.1 in omega (arith, first, second))

bounds_on : (may_lose : List ℕ → Bool) (old new : Store) (call : ShardCall) (said : Said) → CarriesOut may_lose old new call said → KeepsBounds old new
bounds_on may_lose old new call said carries =
    ⊎_elim
    (λ same. subst (λ (x : Store). KeepsBounds x new) same carries.makes.bounds)
    (λ some. keeps_on old carries.middle new some.loses.bounds carries.makes.bounds)
    carries.lost

-- ---- rows

module _ (rows : List Row) (conn session : ℕ) (row other : Row) (one two : Track) (is : slice_get rows conn ≡ Some row) (there : slice_get row.tracks.items session ≡ Some one)
    (set : other.tracks.items ≡ slice_set row.tracks.items session two) where
  abbrev changed : List Row
  changed = slice_set rows conn other

  pub track_before : track_at rows conn session ≡ Some one
  track_before = ap (λ (r : Option Row). track_in r session) is ∙ there

  row_here : slice_get changed conn ≡ Some other
  row_here = set_same rows conn other (slice_get_within rows conn row is)

  pub track_here : track_at changed conn session ≡ Some two
  track_here = ap (λ (r : Option Row). track_in r session) row_here ∙ ap (λ (l : List Track). slice_get l session) set ∙ set_same row.tracks.items session two (slice_get_within row.tracks.items session one there)

  pub track_beside : (k : ℕ) → (k ≡ session → ⊥) → track_at changed conn k ≡ track_at rows conn k
  track_beside k differ =
      ap (λ (r : Option Row). track_in r k) row_here ∙ ap (λ (l : List Track). slice_get l k) set ∙ set_other row.tracks.items session k two differ ∙ sym (ap (λ (r : Option Row). track_in r k) is)

  pub track_elsewhere : (c k : ℕ) → (c ≡ conn → ⊥) → track_at changed c k ≡ track_at rows c k
  track_elsewhere c k differ = ap (λ (r : Option Row). track_in r k) (set_other rows conn c other differ)

-- ---- names

pub own_session : (name : CallName) → is_of_session name.conn name.session name ≡ true
own_session name = ap (λ b. b && (name.session == name.session)) (same_number name.conn name.conn refl) ∙ same_number name.session name.session refl

both_false : (a b : Bool) → b ≡ false → (a && b) ≡ false
both_false true b is = is
both_false false b is = refl

beside : (name : CallName) (c k : ℕ) → (k ≡ name.session → ⊥) → is_of_session c k name ≡ false
beside name c k differ = both_false (name.conn == c) (name.session == k) (other_number name.session k (λ same. differ (sym same)))

elsewhere : (name : CallName) (c k : ℕ) → (c ≡ name.conn → ⊥) → is_of_session c k name ≡ false
elsewhere name c k differ = ap (λ b. b && (name.session == k)) (other_number name.conn c (λ same. differ (sym same)))

-- ---- the items at first

pub used_on : (old new : Store) (key : List ℕ) (found : Option Item) → ((one : ℕ) → is_used old key one ≡ true → is_used new key one ≡ true) → AreUsed old key (first_uniques found) → AreUsed new key (first_uniques found)
used_on old new key None more are = tt
used_on old new key (Some item) more are = (more item.unique are.0, tt)

module _ (old new : Store) (key : List ℕ) (item : Item) (own : HoldsItsOwn old) (changes : ChangesAt old new key item.unique (Put item.flags item.value)) where
  own_here : AreUsed new key (first_uniques (held_at new key))
  own_here = subst (λ (i : Option Item). AreUsed new key (first_uniques i)) (sym changes.here) (changes.fresh.1, tt)

  own_by : (other : List ℕ) (b : Bool) → is_same other key ≡ b → AreUsed new other (first_uniques (held_at new other))
  own_by other true same = subst (λ (k : List ℕ). AreUsed new k (first_uniques (held_at new k))) (sym (same_key other key same)) own_here
  own_by other false differ = subst (λ (i : Option Item). AreUsed new other (first_uniques i)) (sym (changes.others other differ)) (used_on old new other (held_at old other) (changes.used other) (own other))

  -- one item more
  pub own_more : HoldsItsOwn new
  own_more other = own_by other (is_same other key) refl

-- ---- the start

-- a fresh row more
pub fresh_more : (sessions : Sessions) (count : ℕ) (rows more : List Row) (row : Row) → more ≡ rows ++ row ∷ [] → AreFreshRows sessions count rows → IsFreshRow (sessions_on sessions count) row → AreFreshRows sessions (count + 1) more
fresh_more sessions count rows more row is fresh new = record {
  size = let size = fresh.size in let long = ap (λ (l : List Row). length l) is ∙ length-append rows (row ∷ []) in omega (arith, size, long);
  each = λ conn own found. ⊎_elim
      (λ before. fresh.each conn own before.1)
      (λ last.
      let at : count ≡ conn = sym (last.0 ∙ fresh.size) in
      subst (λ (r : Row). IsFreshRow (sessions_on sessions conn) r) last.1 (subst (λ (n : ℕ). IsFreshRow (sessions_on sessions n) row) at new))
      (push_get rows row own conn (subst (λ (l : List Row). slice_get l conn ≡ Some own) is found));
}

module _ (rules : Rules) (sessions : Sessions) (outputs : List (List (List ℕ))) (state : State) (fresh : AreFreshRows sessions (length sessions.lines.items) state.rows.items) where
  fresh_on : (conn session : ℕ) (s : Session) (line : Option Line) → slice_get sessions.lines.items conn ≡ line → session_in line session ≡ Some s
      → SessionStands rules s (output_in outputs conn session) state.rows.items conn session []
  fresh_on conn session s None is has = absurd (cc)
  fresh_on conn session s (Some line) is has =
      let size = fresh.size in
      let below = slice_get_within sessions.lines.items conn line is in
      let row = there state.rows.items conn (omega (arith, size, below)) in
      let mine = fresh.each conn row.0 row.1 in
      let count = mine.size in
      let long = ap sessions_in is in
      let within = slice_get_within line.sessions.items session s has in
      let track = there row.0.tracks.items session (omega (arith, count, within, long)) in
      let new = mine.each session track.0 track.1 in
      record {
        track = track.0;
        is = ap (λ (r : Option Row). track_in r session) row.1 ∙ track.1;
        stands = track_start rules.shards rules.forget s (output_in outputs conn session) conn session track.0 new.at new.answered new.count new.saids;
      }

  pub begun : (lasting : BTreeSet (List ℕ)) → IsFirstStore rules state.store → state.moment ≡ 0 → StandsSome rules lasting sessions outputs state.store state
  begun lasting own first = (
    [],
    record {
      shards = own.shards;
      each = λ conn session s is. fresh_on conn session s (slice_get sessions.lines.items conn) refl is;
      others = λ conn session none. refl;
      cold = own.cold;
      chains = nothing_stands (may_lose_by rules lasting) (held_at state.store) state.store (record { held = λ key. refl; used = own.own });
      bounds = (refl, omega arith);
      rises = pairs_none IsNotLater;
      latest = All-nil (λ (e : MadeCall). e.moment ≤ state.moment);
      within = λ count records hold. omega (arith, first);
    },
  )

-- ---- one more call

-- a session among the notes is that of the records
module _ (sessions : Sessions) (count : ℕ) (records : List Record) (hold : SessionsHold sessions count records) (conn session : ℕ) (s : Session) where
  holds_on : (line : Option Line) → slice_get sessions.lines.items conn ≡ line → session_in line session ≡ Some s → SessionHolds records conn session s
  holds_on None is has = absurd (cc)
  holds_on (Some line) is has = (hold.each conn line is).sessions session s has

  pub holds_at : session_at sessions conn session ≡ Some s → SessionHolds records conn session s
  holds_at has = holds_on (slice_get sessions.lines.items conn) refl has

module _ (rules : Rules) (lasting : BTreeSet (List ℕ)) (sessions : Sessions) (outputs : List (List (List ℕ))) (began : Store) (old new : State) (name : CallName) (s : Session) (row other : Row) (moment : ℕ)
    (has : session_at sessions name.conn name.session ≡ Some s) (is : slice_get old.rows.items name.conn ≡ Some row)
    (f : RowFollows rules lasting s (output_in outputs name.conn name.session) old.store new.store row other name old.moment moment)
    (set : new.rows.items ≡ slice_set old.rows.items name.conn other) (moment_is : new.moment ≡ moment)
    (entries : List MadeCall) (stands : Stands rules lasting sessions outputs began old entries) where
  abbrev makes : MakesNext rules.shards rules.forget (may_lose_by rules lasting) s old.store new.store f.follows.between f.other name old.moment moment
  makes = f.follows.makes

  abbrev e : MadeCall
  e = added rules.shards rules.forget (may_lose_by rules lasting) s (output_in outputs name.conn name.session) old.store new.store f.follows.between f.other name old.moment moment makes entries

  abbrev all : List MadeCall
  all = entries ++ e ∷ []

  -- the session whose call it is
  stands_here : SessionStands rules s (output_in outputs name.conn name.session) new.rows.items name.conn name.session all
  stands_here =
      let output = output_in outputs name.conn name.session in
      let was = stands.each name.conn name.session s has in
      let both : Some was.track ≡ Some f.one = sym was.is ∙ track_before old.rows.items name.conn name.session row other f.one f.other is f.is f.set in
      let one : was.track ≡ f.one = cc in
      let before = subst (TrackStands rules.shards rules.forget s output name.conn name.session entries) one was.stands in
      record {
        track = f.other;
        is = ap (λ (l : List Row). track_at l name.conn name.session) set ∙ track_here old.rows.items name.conn name.session row other f.one f.other is f.is f.set;
        stands = track_said rules.shards rules.forget (may_lose_by rules lasting) s output old.store new.store f.follows.between f.other name old.moment moment makes entries name.conn name.session refl refl (own_session name)
            (f.follows.settles name.conn name.session entries before);
      }

  -- another session
  stands_apart : (c k : ℕ) (t : Session) → session_at sessions c k ≡ Some t → is_of_session c k name ≡ false → track_at new.rows.items c k ≡ track_at old.rows.items c k
      → SessionStands rules t (output_in outputs c k) new.rows.items c k all
  stands_apart c k t there apart same =
      let was = stands.each c k t there in
      record {
        track = was.track;
        is = same ∙ was.is;
        stands = track_kept rules.shards rules.forget t (output_in outputs c k) c k entries e was.track apart was.stands;
      }

  each_on : (k : ℕ) (t : Session) → session_at sessions name.conn k ≡ Some t → SessionStands rules t (output_in outputs name.conn k) new.rows.items name.conn k all
  each_on k t there = ⊎_elim
      (λ same. subst (λ (n : ℕ). (u : Session) → session_at sessions name.conn n ≡ Some u → SessionStands rules u (output_in outputs name.conn n) new.rows.items name.conn n all) (sym same.1)
      (λ u is_u.
      let both : Some s ≡ Some u = sym has ∙ is_u in
      let one : s ≡ u = cc in
      subst (λ (v : Session). SessionStands rules v (output_in outputs name.conn name.session) new.rows.items name.conn name.session all) one stands_here) t there)
      (λ differ. stands_apart name.conn k t there (beside name name.conn k differ.1)
      (ap (λ (l : List Row). track_at l name.conn k) set ∙ track_beside old.rows.items name.conn name.session row other f.one f.other is f.is f.set k differ.1))
      (eqb_tells k name.session)

  each_stands : (c k : ℕ) (t : Session) → session_at sessions c k ≡ Some t → SessionStands rules t (output_in outputs c k) new.rows.items c k all
  each_stands c k t there = ⊎_elim
      (λ same. subst (λ (n : ℕ). session_at sessions n k ≡ Some t → SessionStands rules t (output_in outputs n k) new.rows.items n k all) (sym same.1) (each_on k t) there)
      (λ differ. stands_apart c k t there (elsewhere name c k differ.1)
      (ap (λ (l : List Row). track_at l c k) set ∙ track_elsewhere old.rows.items name.conn name.session row other f.one f.other is f.is f.set c k differ.1))
      (eqb_tells c name.conn)

  -- no entry is of a session that is not among the notes
  none_apart : (c k : ℕ) → session_at sessions c k ≡ None → is_of_session c k name ≡ false
  none_apart c k none = ⊎_elim
      (λ same. ⊎_elim
      (λ equal. absurd (
      let both : Some s ≡ None = sym has ∙ ap (λ (n : ℕ). session_at sessions n name.session) (sym same.1) ∙ ap (session_at sessions c) (sym equal.1) ∙ none in
      cc))
      (λ differ. beside name c k differ.1)
      (eqb_tells k name.session))
      (λ differ. elsewhere name c k differ.1)
      (eqb_tells c name.conn)

  later : (x : MadeCall) → x.moment ≤ old.moment → x.moment ≤ moment
  later x early = let order = makes.timely.later in omega (arith, early, order)

  pub placed : StandsSome rules lasting sessions outputs began new
  placed = (
    all,
    record {
      shards = shards_on (may_lose_by rules lasting) old.store new.store makes.call makes.said makes.carried ∙ stands.shards;
      each = each_stands;
      others = λ c k none. session_other c k entries e (none_apart c k none) ∙ stands.others c k none;
      cold = stands.cold;
      chains = chains_on (may_lose_by rules lasting) (held_at began) old.store new.store entries e makes.carried stands.chains;
      bounds = keeps_on began old.store new.store stands.bounds (bounds_on (may_lose_by rules lasting) old.store new.store makes.call makes.said makes.carried);
      rises = pairs_append IsNotLater entries (e ∷ []) stands.rises (AllPairs-cons IsNotLater e [] (All-nil (IsNotLater e)) (pairs_none IsNotLater))
          (All-weaker (λ (x : MadeCall). x.moment ≤ old.moment) (λ (x : MadeCall). All (IsNotLater x) (e ∷ [])) (λ x early. All-cons (IsNotLater x) e [] (later x early) (All-nil (IsNotLater x))) entries stands.latest);
      latest =
          let P = λ (x : MadeCall). x.moment ≤ new.moment in
          All-append P entries (e ∷ [])
          (All-weaker (λ (x : MadeCall). x.moment ≤ old.moment) P (λ x early. let now = later x early in omega (arith, now, moment_is)) entries stands.latest)
          (All-cons P e [] (omega (arith, moment_is)) (All-nil P));
      within = λ count records hold. ⊎_elim
          (λ same. let early = stands.within count records hold in omega (arith, early, same, moment_is))
          (λ same. let last = ((holds_at sessions count records hold name.conn name.session s has).sent.each (length f.follows.between.answered.items) makes.timely.first makes.timely.is).0 in omega (arith, last, same, moment_is))
          makes.timely.least;
    },
  )

-- ---- commands that are ended

module _ (rules : Rules) (lasting : BTreeSet (List ℕ)) (sessions : Sessions) (outputs : List (List (List ℕ))) (began : Store) (old new : State) (conn session : ℕ) (s : Session) (row other : Row)
    (has : session_at sessions conn session ≡ Some s) (is : slice_get old.rows.items conn ≡ Some row) (f : RowSettles rules s (output_in outputs conn session) row other session)
    (set : new.rows.items ≡ slice_set old.rows.items conn other) (store_is : new.store ≡ old.store) (moment_is : new.moment ≡ old.moment)
    (entries : List MadeCall) (stands : Stands rules lasting sessions outputs began old entries) where
  ended_here : SessionStands rules s (output_in outputs conn session) new.rows.items conn session entries
  ended_here =
      let was = stands.each conn session s has in
      let both : Some was.track ≡ Some f.one = sym was.is ∙ track_before old.rows.items conn session row other f.one f.other is f.is f.set in
      let one : was.track ≡ f.one = cc in
      record {
        track = f.other;
        is = ap (λ (l : List Row). track_at l conn session) set ∙ track_here old.rows.items conn session row other f.one f.other is f.is f.set;
        stands = f.settles conn session entries (subst (TrackStands rules.shards rules.forget s (output_in outputs conn session) conn session entries) one was.stands);
      }

  ended_apart : (c k : ℕ) (t : Session) → session_at sessions c k ≡ Some t → track_at new.rows.items c k ≡ track_at old.rows.items c k → SessionStands rules t (output_in outputs c k) new.rows.items c k entries
  ended_apart c k t there same = let was = stands.each c k t there in record { track = was.track; is = same ∙ was.is; stands = was.stands }

  ended_on : (k : ℕ) (t : Session) → session_at sessions conn k ≡ Some t → SessionStands rules t (output_in outputs conn k) new.rows.items conn k entries
  ended_on k t there = ⊎_elim
      (λ same. subst (λ (n : ℕ). (u : Session) → session_at sessions conn n ≡ Some u → SessionStands rules u (output_in outputs conn n) new.rows.items conn n entries) (sym same.1)
      (λ u is_u.
      let both : Some s ≡ Some u = sym has ∙ is_u in
      let one : s ≡ u = cc in
      subst (λ (v : Session). SessionStands rules v (output_in outputs conn session) new.rows.items conn session entries) one ended_here) t there)
      (λ differ. ended_apart conn k t there
      (ap (λ (l : List Row). track_at l conn k) set ∙ track_beside old.rows.items conn session row other f.one f.other is f.is f.set k differ.1))
      (eqb_tells k session)

  ended_each : (c k : ℕ) (t : Session) → session_at sessions c k ≡ Some t → SessionStands rules t (output_in outputs c k) new.rows.items c k entries
  ended_each c k t there = ⊎_elim
      (λ same. subst (λ (n : ℕ). session_at sessions n k ≡ Some t → SessionStands rules t (output_in outputs n k) new.rows.items n k entries) (sym same.1) (ended_on k t) there)
      (λ differ. ended_apart c k t there
      (ap (λ (l : List Row). track_at l c k) set ∙ track_elsewhere old.rows.items conn session row other f.one f.other is f.is f.set c k differ.1))
      (eqb_tells c conn)

  pub ended : StandsSome rules lasting sessions outputs began new
  ended = (
    entries,
    record {
      shards = ap store_shards store_is ∙ stands.shards;
      each = ended_each;
      others = stands.others;
      cold = stands.cold;
      chains = subst (λ (x : Store). StandsAfter (may_lose_by rules lasting) (held_at began) x entries) (sym store_is) stands.chains;
      bounds = subst (KeepsBounds began) (sym store_is) stands.bounds;
      rises = stands.rises;
      latest = All-weaker (λ (x : MadeCall). x.moment ≤ old.moment) (λ (x : MadeCall). x.moment ≤ new.moment) (λ x early. omega (arith, early, moment_is)) entries stands.latest;
      within = λ count records hold. let early = stands.within count records hold in omega (arith, early, moment_is);
    },
  )
