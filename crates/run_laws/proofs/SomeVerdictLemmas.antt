-- There is a verdict on any files.
use Rattle.std.specs.Prelude.{IfSome}
use Rattle.std.specs.List.{slice_get}
use Rattle.std.proofs.Common.{◌≡◌, ◌⊎◌, inl, inr, ℕ, zero, suc, ◌+◌, ◌<◌, ◌≤◌, List, [], ◌∷◌, length, take, Option}
use Rattle.std.proofs.Common.{None, Some, refl, sym, ap, ◌∙◌, subst, arith}
use Rattle.std.proofs.lemmas.Option.{slice_get_past}
use Rattle.mc_calls.specs.declared.entry.Entry.{Entry}
use Rattle.mc_calls.specs.declared.hold.Hold.{Hold}
use Rattle.mc_calls.specs.Order.{of_connection, at_shard}
use Rattle.mc_calls.specs.Shard.{empty_state, reply_to}
use Rattle.mc_calls.specs.History.{replayed}
use Rattle.mc_calls.proofs.SameLemmas.{option_told, bytes_told, reply_told}
use Rattle.zy_capture.specs.Streams.{sessions_of}
use Rattle.mc_parse.specs.Calls.{due_of}
use Rattle.mc_laws.proofs.SameLemmas.{due_told}
use Rattle.zy_run.specs.Commands.{commands_over, commands_held}
use Rattle.zy_run.specs.Output.{connection_outputs}
use Rattle.zy_run.specs.Spans.{held_of, AreHoldsOf}
use Rattle.zy_check.specs.declared.verdict.Verdict.{Verdict}
use Rattle.zy_check.specs.declared.verdict.Verdict.TheVariants.{Yes, No}
use Rattle.zy_check.specs.declared.verdict.Cause.TheVariants.{NotNext, WrongReply, Missing, WrongOutput, WrongHolds}
use Rattle.zy_check.specs.Given.{Given, due_in, IsNextCall, IsNextAt, IsAnswered, IsAnsweredAt, AreRight}
use Rattle.zy_check.specs.Given.{HasEveryEntry, found_output, due_output, IsOutput, IsHeld}
use Rattle.zy_check.specs.Cause.{IsComplete, ComesBefore, agreeing_in, HasVerdict}
use Rattle.zy_check.proofs.RunVerdictLemmas.{element_at, no_sessions, held_none, whole_past}
use mathlib.Core.Logic.{dite}
use native.Mathlib.Decide.{ℕ_discrete, dec_le, dec_lt}

-- ---- the first of several numbers

-- the first number below a limit that does not have a property
record FirstNot (P : ℕ → Type 0) (limit : ℕ) : Type 0 where
  at : ℕ
  below : at < limit
  fails : P at → ⊥
  before : (k : ℕ) → k < at → P k

-- all numbers below a limit have the property, or there is a first that does not
first_not : (P : ℕ → Type 0) → ((k : ℕ) → Dec (P k)) → (limit : ℕ) → FirstNot P limit ⊎ ((k : ℕ) → k < limit → P k)
first_not P tells zero = inr (λ k below. absurd (omega arith))
first_not P tells (suc limit) = next (first_not P tells limit) (tells limit)
  where
    next : FirstNot P limit ⊎ ((k : ℕ) → k < limit → P k) → Dec (P limit) → FirstNot P (suc limit) ⊎ ((k : ℕ) → k < suc limit → P k)
    next (inl first) here = inl (record { at = first.at; below = (let low = first.below in omega arith); fails = first.fails; before = first.before })
    next (inr all) (no fails) = inl (record { at = limit; below = omega arith; fails = fails; before = all })
    next (inr all) (yes holds) = inr (λ k below. dite (ℕ_discrete k limit) (λ same. subst P (sym same) holds) (λ other. all k (omega arith)))

-- a number that no hold's connection reaches
abbrev reach : List Hold → ℕ
reach [] = 0
reach (h ∷ hs) = h.conn + 1 + reach hs

within_reach : (limit : ℕ) (holds : List Hold) → reach holds ≤ limit → AreHoldsOf limit holds
within_reach limit [] most = tt
within_reach limit (h ∷ hs) most = (omega arith, within_reach limit hs (omega arith))

module _ (g : Given) where
  -- ---- what can be decided

  next_told : (at : ℕ) → Dec (IsNextAt g at)
  next_told at = each (slice_get g.entries at)
    where
      one : (e : Entry) → Dec (e.tag.conn < length g.streams)
          → Dec (slice_get (due_in g e.tag.conn) (length (of_connection e.tag.conn (take at g.entries))) ≡ Some (due_of e)) → Dec (IsNextCall g (take at g.entries) e)
      one e (yes within) (yes is) = yes (record { connection = within; call = is })
      one e (yes within) (no differs) = no (λ next. differs next.call)
      one e (no beyond) call = no (λ next. beyond next.connection)

      each : (o : Option Entry) → Dec (IfSome o (IsNextCall g (take at g.entries)))
      each None = yes tt
      each (Some e) = one e (dec_lt e.tag.conn (length g.streams))
          (option_told due_told (slice_get (due_in g e.tag.conn) (length (of_connection e.tag.conn (take at g.entries)))) (Some (due_of e)))

  answer_told : (at : ℕ) → Dec (IsAnsweredAt g at)
  answer_told at = each (slice_get g.entries at)
    where
      each : (o : Option Entry) → Dec (IfSome o (IsAnswered g (take at g.entries)))
      each None = yes tt
      each (Some e) = reply_told e.reply (reply_to (replayed g.shards e.shard empty_state (at_shard e.shard (take at g.entries))) e.call)

  entry_told : (at : ℕ) → Dec (IsNextAt g at × IsAnsweredAt g at)
  entry_told at = both (next_told at) (answer_told at)
    where
      both : Dec (IsNextAt g at) → Dec (IsAnsweredAt g at) → Dec (IsNextAt g at × IsAnsweredAt g at)
      both (yes next) (yes answered) = yes (next, answered)
      both (yes next) (no wrong) = no (λ right. wrong right.1)
      both (no wrong) answered = no (λ right. wrong right.0)

  whole_told : (conn : ℕ) → Dec (HasEveryEntry g conn)
  whole_told conn = dec_le (length (due_in g conn)) (length (of_connection conn g.entries))

  held_told : (conn : ℕ) → Dec (IsHeld g conn)
  held_told conn = ℕ_discrete (held_of conn g.holds) (length (commands_held g.streams conn))

  -- ---- outputs

  -- how many sessions a connection has or should have, at most
  abbrev sessions : ℕ → ℕ
  sessions conn = length (sessions_of g.outputs conn) + length (connection_outputs conn (sessions_of g.streams conn) g.entries)

  output_past : (conn session : ℕ) → sessions conn ≤ session → IsOutput g conn session
  output_past conn session past =
      slice_get_past (sessions_of g.outputs conn) session (omega arith)
      ∙ sym (slice_get_past (connection_outputs conn (sessions_of g.streams conn) g.entries) session (omega arith))

  session_told : (conn : ℕ) → FirstNot (IsOutput g conn) (sessions conn) ⊎ ((session : ℕ) → session < sessions conn → IsOutput g conn session)
  session_told conn = first_not (IsOutput g conn) (λ session. option_told bytes_told (found_output g conn session) (due_output g conn session)) (sessions conn)

  abbrev AreOutputsOf : ℕ → Type 0
  AreOutputsOf conn = (session : ℕ) → IsOutput g conn session

  all_sessions : (conn : ℕ) → ((session : ℕ) → session < sessions conn → IsOutput g conn session) → AreOutputsOf conn
  all_sessions conn all session = dite (dec_lt session (sessions conn)) (λ low. all session low) (λ high. output_past conn session (omega arith))

  outputs_told : (conn : ℕ) → Dec (AreOutputsOf conn)
  outputs_told conn = each (session_told conn)
    where
      each : FirstNot (IsOutput g conn) (sessions conn) ⊎ ((session : ℕ) → session < sessions conn → IsOutput g conn session) → Dec (AreOutputsOf conn)
      each (inl first) = no (λ all. first.fails (all first.at))
      each (inr all) = yes (all_sessions conn all)

  -- connections that there are not have no outputs, and should have none
  outputs_past : (conn : ℕ) → length g.streams + length g.outputs ≤ conn → AreOutputsOf conn
  outputs_past conn past session =
      ap (λ (l : List (List ℕ)). slice_get l session) (no_sessions g.outputs conn (omega arith))
      ∙ sym (ap (λ (l : List (List ℕ)). slice_get (connection_outputs conn l g.entries) session) (no_sessions g.streams conn (omega arith)))

  -- ---- the verdict

  abbrev held_limit : ℕ
  held_limit = length g.streams + reach g.holds

  by_holds : IsComplete g → ((conn session : ℕ) → IsOutput g conn session) → (v : Verdict) × HasVerdict g v
  by_holds complete outputs = go (first_not (IsHeld g) held_told held_limit)
    where
      past : (conn : ℕ) → held_limit ≤ conn → IsHeld g conn
      past conn high =
          held_none (reach g.holds) conn g.holds (within_reach (reach g.holds) g.holds (omega arith)) (omega arith)
          ∙ ap (λ (l : List (List ℕ)). length (commands_over l)) (sym (no_sessions g.streams conn (omega arith)))

      go : FirstNot (IsHeld g) held_limit ⊎ ((conn : ℕ) → conn < held_limit → IsHeld g conn) → (v : Verdict) × HasVerdict g v
      go (inl first) = (No (WrongHolds first.at), record { complete = complete; outputs = outputs; first = first.before; wrong = first.fails })
      go (inr all) = (
        Yes,
        record {
          complete = complete;
          outputs = outputs;
          holds = λ conn. dite (dec_lt conn held_limit) (λ low. all conn low) (λ high. past conn (omega arith));
        },
      )

  abbrev limit : ℕ
  limit = length g.streams + length g.outputs

  by_outputs : IsComplete g → (v : Verdict) × HasVerdict g v
  by_outputs complete = go (first_not AreOutputsOf outputs_told limit)
    where
      earlier : (conn session : ℕ) → ((k : ℕ) → k < conn → AreOutputsOf k) → ((k : ℕ) → k < session → IsOutput g conn k) → (c s : ℕ) → ComesBefore c s conn session → IsOutput g c s
      earlier conn session lower before c s (inl low) = lower c low s
      earlier conn session lower before c s (inr same) = subst (λ (k : ℕ). IsOutput g k s) (sym same.0) (before s same.1)

      one : (first : FirstNot AreOutputsOf limit)
          → FirstNot (IsOutput g first.at) (sessions first.at) ⊎ ((session : ℕ) → session < sessions first.at → IsOutput g first.at session) → (v : Verdict) × HasVerdict g v
      one first (inl spot) = (
        No (WrongOutput first.at spot.at (agreeing_in (found_output g first.at spot.at) (due_output g first.at spot.at))),
        record { complete = complete; first = earlier first.at spot.at first.before spot.before; wrong = spot.fails; agrees = refl },
      )
      one first (inr all) = absurd (first.fails (all_sessions first.at all))

      go : FirstNot AreOutputsOf limit ⊎ ((conn : ℕ) → conn < limit → AreOutputsOf conn) → (v : Verdict) × HasVerdict g v
      go (inl first) = one first (session_told first.at)
      go (inr all) = by_holds complete (λ conn. dite (dec_lt conn limit) (λ low. all conn low) (λ high. outputs_past conn (omega arith)))

  by_calls : AreRight g → (v : Verdict) × HasVerdict g v
  by_calls right = go (first_not (HasEveryEntry g) whole_told (length g.streams))
    where
      go : FirstNot (HasEveryEntry g) (length g.streams) ⊎ ((conn : ℕ) → conn < length g.streams → HasEveryEntry g conn) → (v : Verdict) × HasVerdict g v
      go (inl first) =
          let fails = first.fails in
          let call = element_at (due_in g first.at) (length (of_connection first.at g.entries)) (omega arith) in
          (No (Missing first.at call.0.tag.index), record { right = right; first = first.before; call = call.0; is_due = call.1; is_of = refl })
      go (inr all) = by_outputs (record {
        right = right;
        whole = λ conn. dite (dec_lt conn (length g.streams)) (λ low. all conn low) (λ high. whole_past g conn (omega arith));
      })

  pub some_verdict : (v : Verdict) × HasVerdict g v
  some_verdict = go (first_not (λ at. IsNextAt g at × IsAnsweredAt g at) entry_told (length g.entries))
    where
      one : (first : FirstNot (λ at. IsNextAt g at × IsAnsweredAt g at) (length g.entries)) → Dec (IsNextAt g first.at) → (v : Verdict) × HasVerdict g v
      one first (yes next) = (No (WrongReply first.at), record { within = first.below; first = first.before; next = next; wrong = λ answered. first.fails (next, answered) })
      one first (no wrong) = (No (NotNext first.at), record { within = first.below; first = first.before; wrong = wrong })

      go : FirstNot (λ at. IsNextAt g at × IsAnsweredAt g at) (length g.entries) ⊎ AreRight g → (v : Verdict) × HasVerdict g v
      go (inl first) = one first (next_told first.at)
      go (inr all) = by_calls all
