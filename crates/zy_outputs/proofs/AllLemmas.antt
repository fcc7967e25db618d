-- All calls of a recording, session by session.
use Rattle.std.proofs.Common.{◌≡◌, inl, inr, ℕ, zero, suc, ◌+◌, ◌<◌, List, [], ◌∷◌, get_or, map, All, AllPairs, Contains, refl, sym, ap, ◌∙◌, subst, arith}
use mathlib.Core.Logic.{dite}
use native.Mathlib.Decide.{dec_lt}
use Rattle.std.proofs.lemmas.List.Elements.{All-nil, All-cons, All-append, All-weaker, Contains-append_left, Contains-append_right}
use Rattle.mc_answers.specs.Said.{said_calls}
use Rattle.mc_parse.specs.declared.command.Command.{Command}
use Rattle.mc_parse.specs.declared.shard_call.ShardCall.{ShardCall}
use Rattle.zy_capture.specs.Streams.{closes}
use Rattle.zy_refute.specs.declared.observed.Observed.{Observed}
use Rattle.zy_verdict.specs.Recorded.{Recorded, session_commands}
use Rattle.zy_verdict.specs.Entries.{NamedCall, name_at, named_parts, named_from}
use Rattle.zy_verdict.specs.Course.{IsCallOf}
use Rattle.zy_verdict.proofs.ListLemmas.{pairs_none, pairs_append, pairs_of_map}
use Rattle.zy_verdict.proofs.NameLemmas.{NamedBefore, names_rise, has_name}
use Rattle.zy_observed.specs.Shown.{IsShown, AreShown, named_of}
use Rattle.zy_outputs.specs.Adding.{AddsShown}
use Rattle.zy_outputs.specs.Sessions.{session_calls, line_calls, all_calls}

-- ---- each call is there

-- a session is one of those of a connection, and the connection one of those of the capture; or it has no commands
abbrev pub IsAmong : Recorded → ℕ → ℕ → Type 0
IsAmong r conn session = (conn < r.count) × (session < closes conn r.records + 1)

module _ (r : Recorded) where
  in_line : (conn session count : ℕ) (named : NamedCall) → session < count → Contains (session_calls r conn session) named → Contains (line_calls r conn count) named
  in_line conn session zero named below there = absurd (omega (arith, below))
  in_line conn session (suc count) named below there = dite (dec_lt session count)
      (λ before. Contains-append_left (line_calls r conn count) (session_calls r conn count) named (in_line conn session count named before there))
      (λ last.
      let same : session ≡ count = omega (arith, below, last) in
      Contains-append_right (line_calls r conn count) (session_calls r conn count) named (subst (λ (s : ℕ). Contains (session_calls r conn s) named) same there))

  in_all : (conn count : ℕ) (named : NamedCall) → conn < count → Contains (line_calls r conn (closes conn r.records + 1)) named → Contains (all_calls r count) named
  in_all conn zero named below there = absurd (omega (arith, below))
  in_all conn (suc count) named below there = dite (dec_lt conn count)
      (λ before. Contains-append_left (all_calls r count) (line_calls r count (closes count r.records + 1)) named (in_all conn count named before there))
      (λ last.
      let same : conn ≡ count = omega (arith, below, last) in
      Contains-append_right (all_calls r count) (line_calls r count (closes count r.records + 1)) named (subst (λ (c : ℕ). Contains (line_calls r c (closes c r.records + 1)) named) same there))

  pub call_there : (command : Command) (named : NamedCall) → IsCallOf r command named → IsAmong r named.name.conn named.name.session → Contains (all_calls r r.count) named
  call_there command named of among =
      let conn = named.name.conn in
      let session = named.name.session in
      let there = has_name r.shards conn session 0 (session_commands r conn session) named.name.index command named.name.part named.call of.is of.part in
      let index : 0 + named.name.index ≡ named.name.index = omega arith in
      let part : 0 + named.name.part ≡ named.name.part = omega arith in
      let here : Contains (session_calls r conn session) named =
      subst (λ (p : ℕ). Contains (session_calls r conn session) (record { name = name_at conn session named.name.index p; call = named.call })) part
      (subst (λ (i : ℕ). Contains (session_calls r conn session) (record { name = name_at conn session i (0 + named.name.part); call = named.call })) index there) in
      in_all conn r.count named among.0 (in_line conn session (closes conn r.records + 1) named among.1 here)

  -- ---- no call is there twice

  abbrev pub AreOther : NamedCall → NamedCall → Type 0
  AreOther one other = one.name ≡ other.name → ⊥

  -- the call is of this connection, and of one of its first sessions
  record IsOfLine (conn count : ℕ) (n : NamedCall) : Type 0 where
    conn_is : n.name.conn ≡ conn
    session_is : n.name.session < count

  earlier_other : (one other : NamedCall) → NamedBefore one other → AreOther one other
  earlier_other one other (inl index) same = let e = ap (λ n. n.index) same in omega (arith, index, e)
  earlier_other one other (inr both) same = let e = ap (λ n. n.part) same in let part = both.1 in omega (arith, part, e)

  -- the calls of a session are of its connection, and of it
  record IsOfSession (conn session : ℕ) (n : NamedCall) : Type 0 where
    conn_is : n.name.conn ≡ conn
    session_is : n.name.session ≡ session

  parts_own : (conn session index part : ℕ) (calls : List ShardCall) → All (IsOfSession conn session) (named_parts conn session index part calls)
  parts_own conn session index part [] = All-nil (IsOfSession conn session)
  parts_own conn session index part (call ∷ calls) =
      All-cons (IsOfSession conn session) (record { name = name_at conn session index part; call = call }) (named_parts conn session index (part + 1) calls)
      (record { conn_is = refl; session_is = refl }) (parts_own conn session index (part + 1) calls)

  names_own : (conn session index : ℕ) (commands : List Command) → All (IsOfSession conn session) (named_from r.shards conn session index commands)
  names_own conn session index [] = All-nil (IsOfSession conn session)
  names_own conn session index (command ∷ commands) =
      All-append (IsOfSession conn session) (named_parts conn session index 0 (said_calls r.shards command)) (named_from r.shards conn session (index + 1) commands)
      (parts_own conn session index 0 (said_calls r.shards command)) (names_own conn session (index + 1) commands)

  line_own : (conn count : ℕ) → All (IsOfLine conn count) (line_calls r conn count)
  line_own conn zero = All-nil (IsOfLine conn 0)
  line_own conn (suc count) =
      All-append (IsOfLine conn (suc count)) (line_calls r conn count) (session_calls r conn count)
      (All-weaker (IsOfLine conn count) (IsOfLine conn (suc count)) (λ n h. let below = h.session_is in record { conn_is = h.conn_is; session_is = omega (arith, below) }) (line_calls r conn count) (line_own conn count))
      (All-weaker (IsOfSession conn count) (IsOfLine conn (suc count)) (λ n h. let is = h.session_is in record { conn_is = h.conn_is; session_is = omega (arith, is) }) (session_calls r conn count) (names_own conn count 0 (session_commands r conn count)))

  line_apart : (conn count : ℕ) → AllPairs AreOther (line_calls r conn count)
  line_apart conn zero = pairs_none AreOther
  line_apart conn (suc count) =
      pairs_append AreOther (line_calls r conn count) (session_calls r conn count) (line_apart conn count)
      (λ i j d before within. earlier_other (get_or (session_calls r conn count) i d) (get_or (session_calls r conn count) j d) (names_rise r.shards conn count 0 (session_commands r conn count) i j d before within))
      (All-weaker (IsOfLine conn count) (λ x. All (AreOther x) (session_calls r conn count))
      (λ x h. All-weaker (IsOfSession conn count) (AreOther x)
      (λ y own same. let e = ap (λ n. n.session) same in let below = h.session_is in let is = own.session_is in omega (arith, e, below, is))
      (session_calls r conn count) (names_own conn count 0 (session_commands r conn count)))
      (line_calls r conn count) (line_own conn count))

  -- the call is of one of the first connections
  IsOfFirst : ℕ → NamedCall → Type 0
  IsOfFirst count n = n.name.conn < count

  all_own : (count : ℕ) → All (IsOfFirst count) (all_calls r count)
  unfolding IsOfFirst
  all_own zero = All-nil (IsOfFirst 0)
  all_own (suc count) =
      All-append (IsOfFirst (suc count)) (all_calls r count) (line_calls r count (closes count r.records + 1))
      (All-weaker (IsOfFirst count) (IsOfFirst (suc count)) (λ n h. omega (arith, h)) (all_calls r count) (all_own count))
      (All-weaker (IsOfLine count (closes count r.records + 1)) (IsOfFirst (suc count)) (λ n h. let is = h.conn_is in omega (arith, is)) (line_calls r count (closes count r.records + 1)) (line_own count (closes count r.records + 1)))

  all_apart : (count : ℕ) → AllPairs AreOther (all_calls r count)
  unfolding IsOfFirst
  all_apart zero = pairs_none AreOther
  all_apart (suc count) =
      pairs_append AreOther (all_calls r count) (line_calls r count (closes count r.records + 1)) (all_apart count) (line_apart count (closes count r.records + 1))
      (All-weaker (IsOfFirst count) (λ x. All (AreOther x) (line_calls r count (closes count r.records + 1)))
      (λ x h. All-weaker (IsOfLine count (closes count r.records + 1)) (AreOther x)
      (λ y own same. let e = ap (λ n. n.conn) same in let is = own.conn_is in omega (arith, e, h, is))
      (line_calls r count (closes count r.records + 1)) (line_own count (closes count r.records + 1)))
      (all_calls r count) (all_own count))

  -- ---- all calls are shown

  pub all_shown : (calls : List Observed) → AddsShown r [] calls (all_calls r r.count) → ((command : Command) (named : NamedCall) → IsCallOf r command named → IsAmong r named.name.conn named.name.session) → AreShown r calls
  all_shown calls adds among =
      let names : map named_of calls ≡ all_calls r r.count = ap (map named_of) adds.is ∙ adds.names in
      record {
        each = subst (All (IsShown r)) (sym adds.is) adds.each;
        all = λ command named of. subst (λ (l : List NamedCall). Contains l named) (sym names) (call_there command named of (among command named of));
        once = pairs_of_map AreOther named_of calls (subst (AllPairs AreOther) (sym names) (all_apart r.count));
      }
