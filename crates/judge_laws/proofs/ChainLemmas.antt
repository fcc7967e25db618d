-- The entries of an explanation, made of those of a journal: moments, and the steps at a key.
use Rattle.std.specs.Prelude.{◌==◌, ◌&&◌, All, AllPairs}
use Rattle.std.specs.List.{slice_get}
use Rattle.std.proofs.Common.{◌≡◌, ℕ, suc, ◌+◌, ◌<◌, ◌≤◌, Bool, true, false, cond, List, [], ◌∷◌, length, None, Some, refl, ap, sym, ◌∙◌, subst, arith}
use Rattle.std.proofs.lemmas.List.Elements.{All-nil, All-cons}
use Rattle.std.proofs.lemmas.List.Kept.{AllPairs-cons}
use Rattle.std.proofs.lemmas.Option.{slice_get_within}
use Rattle.zy_base.proofs.FilterLemmas.{filter-here, filter-other}
use Rattle.mc_calls.specs.declared.call.Call.{Call}
use Rattle.mc_calls.specs.declared.call.Call.TheVariants as Calls
use Rattle.mc_calls.specs.declared.entry.Entry.{Entry}
use Rattle.mc_calls.specs.Key.{shard_of}
use Rattle.mc_calls.specs.Order.{at_shard}
use Rattle.std.specs.FinMap.{get}
use Rattle.mc_calls.specs.Shard.{empty_state}
use Rattle.mc_calls.specs.History.{IsLegal, replayed}
use Rattle.mc_parse.specs.Calls.{on_shard}
use Rattle.mc_allows.specs.declared.said.Said.TheVariants.{Replied, Failed}
use Rattle.mc_allows.specs.Steps.{KeyStep, made, lost, is_about, entries_about, AreSteps, AreLeading}
use Rattle.mc_allows.proofs.StepLemmas.{legal_leads}
use Rattle.zy_verdict.specs.Recorded.{Recorded}
use Rattle.zy_verdict.specs.Entries.{MadeCall, is_at_key, placed_at, AreStepsOf}
use Rattle.zy_verdict.specs.Explained.{IsNotLater, MayHaveFailed, IsChain}
use Rattle.zy_verdict.proofs.ListLemmas.{pairs_none}
use Rattle.judge_laws.proofs.DueLemmas.{is_tally}
use Rattle.judge_laws.proofs.MadeLemmas.{name_of, made_at, made_from}

module _ (streams : ℕ → List (List ℕ)) (moment : ℕ → ℕ) where
  -- ---- each entry

  -- what holds of each entry that is no tally holds of each that is made of one
  pub all_made : (P : MadeCall → Type 0) (at : ℕ) (es : List Entry) → ((k : ℕ) (e : Entry) → slice_get es k ≡ Some e → P (made_at streams moment (at + k) e)) → All P (made_from streams moment at es)
  all_made P at [] each = All-nil P
  all_made P at (e ∷ es) each =
      go (all_made P (at + 1) es (λ k x is. let on : at + suc k ≡ at + 1 + k = omega arith in subst (λ (n : ℕ). P (made_at streams moment n x)) on (each (suc k) x is))) (is_tally e.call)
    where
      first : P (made_at streams moment at e)
      first = let none : at + 0 ≡ at = omega arith in subst (λ (n : ℕ). P (made_at streams moment n e)) none (each 0 e refl)

      go : All P (made_from streams moment (at + 1) es) → (tally : Bool) → All P (cond tally (made_from streams moment (at + 1) es) (made_at streams moment at e ∷ made_from streams moment (at + 1) es))
      go rest true = rest
      go rest false = All-cons P (made_at streams moment at e) (made_from streams moment (at + 1) es) first rest

  -- the moments never fall
  pub made_rises : (at : ℕ) (es : List Entry) → ((p q : ℕ) → p ≤ q → q < at + length es → moment p ≤ moment q) → AllPairs IsNotLater (made_from streams moment at es)
  made_rises at [] rises = pairs_none IsNotLater
  made_rises at (e ∷ es) rises = go (made_rises (at + 1) es (λ p q order within. rises p q order (omega (arith, within)))) (is_tally e.call)
    where
      go : AllPairs IsNotLater (made_from streams moment (at + 1) es) → (tally : Bool) → AllPairs IsNotLater (cond tally (made_from streams moment (at + 1) es) (made_at streams moment at e ∷ made_from streams moment (at + 1) es))
      go rest true = rest
      go rest false =
          AllPairs-cons IsNotLater (made_at streams moment at e) (made_from streams moment (at + 1) es)
          (all_made (IsNotLater (made_at streams moment at e)) (at + 1) es (λ k x is. rises at (at + 1 + k) (omega arith) (let within = slice_get_within es k x is in omega (arith, within)))) rest

  -- no call failed
  pub none_failed : (r : Recorded) (es : List Entry) → All (MayHaveFailed r) (made_from streams moment 0 es)
  none_failed r es = all_made (MayHaveFailed r) 0 es (λ k e is failed quiet. absurd (let same : Replied e.reply ≡ Failed = failed in cc))

  -- ---- steps

  about_counts : (key : List ℕ) (call : Call) → is_about key call ≡ true → is_tally call ≡ false
  about_counts key Calls.Tally about = absurd (cc)
  about_counts key call about = refl

  module _ (shards : ℕ) (key : List ℕ) where
    abbrev shard : ℕ
    shard = shard_of key shards

    -- an entry at the key is made into one at the key
    kept_made : (at : ℕ) (e : Entry) (es : List Entry) → (e.shard == shard) ≡ true → is_about key e.call ≡ true
        → placed_at shards key (made_from streams moment at (e ∷ es)) ≡ made_at streams moment at e ∷ placed_at shards key (made_from streams moment (at + 1) es)
    kept_made at e es here about =
        ap (λ (b : Bool). placed_at shards key (cond b (made_from streams moment (at + 1) es) (made_at streams moment at e ∷ made_from streams moment (at + 1) es))) (about_counts key e.call about)
        ∙ filter-here (λ (x : MadeCall). is_at_key shards key x.named.call) (made_at streams moment at e) (made_from streams moment (at + 1) es) (λ i. here i && about i)

    -- and another one into none
    left_out : (at : ℕ) (e : Entry) (es : List Entry) → is_at_key shards key (on_shard e.call e.shard) ≡ false
        → placed_at shards key (made_from streams moment at (e ∷ es)) ≡ placed_at shards key (made_from streams moment (at + 1) es)
    left_out at e es other = go (is_tally e.call)
      where
        go : (tally : Bool) → placed_at shards key (cond tally (made_from streams moment (at + 1) es) (made_at streams moment at e ∷ made_from streams moment (at + 1) es)) ≡ placed_at shards key (made_from streams moment (at + 1) es)
        go true = refl
        go false = filter-other (λ (x : MadeCall). is_at_key shards key x.named.call) (made_at streams moment at e) (made_from streams moment (at + 1) es) other

    steps_made : (at : ℕ) (es : List Entry) (steps : List KeyStep) → AreSteps (name_of streams) (entries_about key (at_shard shard es)) steps → AreStepsOf (placed_at shards key (made_from streams moment at es)) steps
    steps_made at [] [] are = tt
    steps_made at [] (step ∷ steps) are = absurd are
    steps_made at (e ∷ es) steps are = go (λ tail tail_are. steps_made (at + 1) es tail tail_are) (e.shard == shard) (is_about key e.call) refl refl
      where
        first_step : (left : List Entry) (all : List KeyStep) → ((tail : List KeyStep) → AreSteps (name_of streams) left tail → AreStepsOf (placed_at shards key (made_from streams moment (at + 1) es)) tail)
            → AreSteps (name_of streams) (e ∷ left) all → AreStepsOf (made_at streams moment at e ∷ placed_at shards key (made_from streams moment (at + 1) es)) all
        first_step left [] on all_are = absurd all_are
        first_step left (made own call (Replied reply) after ∷ tail) on all_are = (all_are.0, all_are.1, ap Replied all_are.2, on tail all_are.3)
        first_step left (made own call Failed after ∷ tail) on all_are = absurd all_are
        first_step left (lost ∷ tail) on all_are = absurd all_are

        go : ((tail : List KeyStep) → AreSteps (name_of streams) (entries_about key (at_shard shard es)) tail → AreStepsOf (placed_at shards key (made_from streams moment (at + 1) es)) tail)
            → (there about : Bool) → (e.shard == shard) ≡ there → is_about key e.call ≡ about → AreStepsOf (placed_at shards key (made_from streams moment at (e ∷ es))) steps
        go rest true true one two =
            subst (λ (l : List MadeCall). AreStepsOf l steps) (sym (kept_made at e es one two))
            (first_step (entries_about key (at_shard shard es)) steps rest
            (subst (λ (l : List Entry). AreSteps (name_of streams) l steps)
            (ap (entries_about key) (filter-here (λ (x : Entry). x.shard == shard) e es one) ∙ filter-here (λ (x : Entry). is_about key x.call) e (at_shard shard es) two) are))
        go rest true false one two =
            subst (λ (l : List MadeCall). AreStepsOf l steps) (sym (left_out at e es (λ i. one i && two i)))
            (rest steps
            (subst (λ (l : List Entry). AreSteps (name_of streams) l steps)
            (ap (entries_about key) (filter-here (λ (x : Entry). x.shard == shard) e es one) ∙ filter-other (λ (x : Entry). is_about key x.call) e (at_shard shard es) two) are))
        go rest false about one two =
            subst (λ (l : List MadeCall). AreStepsOf l steps) (sym (left_out at e es (ap (λ (b : Bool). b && is_about key e.call) one)))
            (rest steps (subst (λ (l : List Entry). AreSteps (name_of streams) l steps) (ap (entries_about key) (filter-other (λ (x : Entry). x.shard == shard) e es one)) are))

    -- the entries at a key are a chain of allowed steps
    abbrev pub leading : (es : List Entry) → IsLegal shards es → AreLeading (name_of streams) (entries_about key (at_shard shard es)) (get (replayed shards shard empty_state (at_shard shard es)).items key)
    leading es legal = legal_leads (name_of streams) shards es legal shard key

    pub made_chain : (r : Recorded) (es : List Entry) (legal : IsLegal shards es) → IsChain r key None (placed_at shards key (made_from streams moment 0 es)) (leading es legal).steps
    made_chain r es legal = record {
      forget = false;
      losses = λ is. absurd (cc);
      calls = steps_made 0 es (leading es legal).steps (leading es legal).calls;
      chain = (leading es legal).chain;
    }
