-- What the sessions of two windows were sent, and which of their commands had ended, at a moment of both recordings.
use Rattle.std.proofs.Common.{◌≡◌, inl, inr, ℕ, zero, suc, ◌+◌, ◌-◌, ◌<◌, List, [], ◌∷◌, ◌++◌, length, take, map, Contains, sym, ap, ◌∙◌, subst, arith}
use Rattle.std.specs.Prelude.{◌⊎◌}
use Rattle.std.proofs.lemmas.List.{append-nil, take-map}
use Rattle.std.proofs.lemmas.List.Elements.{All-take}
use mathlib.Core.Logic.{dite}
use native.Mathlib.Decide.{dec_lt}
use Rattle.zy_capture.specs.declared.record.Record.{Record}
use Rattle.zy_capture.specs.Streams.{stream}
use Rattle.zy_frame.specs.declared.frame_kind.FrameKind.{FrameKind}
use Rattle.zy_frame.specs.Cut.{commands_of, frames_of}
use Rattle.zy_frame.proofs.CutLaws.{frames_of_nil}
use Rattle.zy_times.specs.Sessions.{sent_in, marks_at}
use Rattle.zy_times.specs.Times.{marks_in}
use Rattle.zy_times.proofs.SessionLemmas.{no_commands}
use Rattle.zy_verdict.specs.Recorded.{Recorded, session_commands}
use Rattle.zy_verdict.specs.Losses.{HasExptime}
use Rattle.window_laws.specs.Joined.{raised, IsOfFirst, HasConnections, joined_windows}
use Rattle.window_laws.proofs.RecordLemmas.{first_bytes, first_marks, later_bytes, later_marks}

-- ---- connections

-- a connection is one of the first, or is numbered after them
pub by_window : (P : ℕ → Type 0) (count conn : ℕ) → (conn < count → P conn) → ((k : ℕ) → P (count + k)) → P conn
by_window P count conn first later =
    dite (dec_lt conn count) first
    (λ behind. let is : count + (conn - count) ≡ conn = omega (arith, behind) in subst P is (later (conn - count)))

-- ---- moments

nothing_before : {X : Type 0} (m n : ℕ) (ys : List X) → m ≡ n → take m ys ≡ take m [] ++ take n ys
nothing_before zero n ys same = ap (λ k. take k ys) same
nothing_before (suc m) n ys same = ap (λ k. take k ys) same

take_both : {X : Type 0} (m : ℕ) (xs ys : List X) → take m (xs ++ ys) ≡ take m xs ++ take (m - length xs) ys
take_both m [] ys = let same : m ≡ m - 0 = omega arith in nothing_before m (m - 0) ys same
take_both zero (x ∷ xs) ys = let none : 0 ≡ 0 - suc (length xs) = omega arith in ap (λ n. take n ys) none
take_both (suc m) (x ∷ xs) ys =
    let same : m - length xs ≡ suc m - suc (length xs) = omega arith in
    ap (λ l. x ∷ l) (take_both m xs ys) ∙ ap (λ n. x ∷ (take m xs ++ take n ys)) same

-- no bytes belong to another connection than those of the recording
nothing_behind : (r : Recorded) → HasConnections r → (conn session : ℕ) → stream (r.count + conn) session r.records ≡ []
nothing_behind r own conn session =
    ap (stream (r.count + conn) session) (sym (append-nil r.records)) ∙ later_bytes r.count conn session r.records [] 0 own

pub no_commands_behind : (r : Recorded) → HasConnections r → (conn session : ℕ) → session_commands r (r.count + conn) session ≡ []
no_commands_behind r own conn session = ap (λ (bytes : List ℕ). commands_of bytes) (nothing_behind r own conn session) ∙ no_commands

module _ (r next : Recorded) where
  -- the records of both
  abbrev all : List Record
  all = (joined_windows r next).records

  taken : (m : ℕ) → take m all ≡ take m r.records ++ map (raised r.count) (take (m - length r.records) next.records)
  taken m =
      take_both m r.records (map (raised r.count) next.records)
      ∙ ap (λ (l : List Record). take m r.records ++ l) (take-map (raised r.count) (m - length r.records) next.records)

  -- ---- a session of the first window

  module _ (conn session : ℕ) (within : conn < r.count) where
    pub first_stream : stream conn session all ≡ stream conn session r.records
    first_stream = first_bytes r.count conn session within r.records next.records 0

    pub first_commands : session_commands (joined_windows r next) conn session ≡ session_commands r conn session
    first_commands = ap (λ (bytes : List ℕ). commands_of bytes) first_stream

    pub first_sent : (m : ℕ) → sent_in all conn session m ≡ sent_in r.records conn session m
    first_sent m =
        ap (λ (l : List Record). length (commands_of (stream conn session l))) (taken m)
        ∙ ap (λ (bytes : List ℕ). length (commands_of bytes)) (first_bytes r.count conn session within (take m r.records) (take (m - length r.records) next.records) 0)

    pub first_ended : (m : ℕ) → marks_at all conn session m ≡ marks_at r.records conn session m
    first_ended m =
        ap (λ (l : List Record). marks_in l conn session) (taken m)
        ∙ first_marks r.count conn session within (take m r.records) (take (m - length r.records) next.records) 0

  -- ---- a session of the second

  module _ (own : HasConnections r) (conn session : ℕ) where
    pub later_stream : stream (r.count + conn) session all ≡ stream conn session next.records
    later_stream = later_bytes r.count conn session r.records next.records 0 own

    pub later_commands : session_commands (joined_windows r next) (r.count + conn) session ≡ session_commands next conn session
    later_commands = ap (λ (bytes : List ℕ). commands_of bytes) later_stream

    pub later_sent : (m : ℕ) → sent_in all (r.count + conn) session m ≡ sent_in next.records conn session (m - length r.records)
    later_sent m =
        ap (λ (l : List Record). length (commands_of (stream (r.count + conn) session l))) (taken m)
        ∙ ap (λ (bytes : List ℕ). length (commands_of bytes))
        (later_bytes r.count conn session (take m r.records) (take (m - length r.records) next.records) 0 (All-take (IsOfFirst r.count) m r.records own))

    pub later_ended : (m : ℕ) → marks_at all (r.count + conn) session m ≡ marks_at next.records conn session (m - length r.records)
    later_ended m =
        ap (λ (l : List Record). marks_in l (r.count + conn) session) (taken m)
        ∙ later_marks r.count conn session (take m r.records) (take (m - length r.records) next.records) 0 (All-take (IsOfFirst r.count) m r.records own)

  -- ---- exptimes

  module _ (own : HasConnections r) (key : List ℕ) where
    pub first_exptime : HasExptime r key → HasExptime (joined_windows r next) key
    first_exptime h = record {
      conn = h.conn;
      session = h.session;
      frame = h.frame;
      sent = by_window (λ (conn : ℕ). Contains (frames_of (stream conn h.session r.records)) h.frame → Contains (frames_of (stream conn h.session all)) h.frame) r.count h.conn
          (λ within at. subst (λ (bytes : List ℕ). Contains (frames_of bytes) h.frame) (sym (first_stream h.conn h.session within)) at)
          (λ k at. absurd (
          let none = nothing_behind r own k h.session in
          let here = subst (λ (l : List FrameKind). Contains l h.frame) (ap (λ (bytes : List ℕ). frames_of bytes) none ∙ frames_of_nil) at in
          let within = here.1 in
          omega (arith, within)))
          h.sent;
      given = h.given;
    }

    pub later_exptime : HasExptime next key → HasExptime (joined_windows r next) key
    later_exptime h = record {
      conn = r.count + h.conn;
      session = h.session;
      frame = h.frame;
      sent = subst (λ (bytes : List ℕ). Contains (frames_of bytes) h.frame) (sym (later_stream own h.conn h.session)) h.sent;
      given = h.given;
    }

    pub either_exptime : HasExptime (joined_windows r next) key → HasExptime r key ⊎ HasExptime next key
    either_exptime h =
        by_window (λ (conn : ℕ). Contains (frames_of (stream conn h.session all)) h.frame → HasExptime r key ⊎ HasExptime next key) r.count h.conn
        (λ within at. inl (record {
          conn = h.conn;
          session = h.session;
          frame = h.frame;
          sent = subst (λ (bytes : List ℕ). Contains (frames_of bytes) h.frame) (first_stream h.conn h.session within) at;
          given = h.given;
        }))
        (λ k at. inr (record {
          conn = k;
          session = h.session;
          frame = h.frame;
          sent = subst (λ (bytes : List ℕ). Contains (frames_of bytes) h.frame) (later_stream own k h.session) at;
          given = h.given;
        }))
        h.sent
