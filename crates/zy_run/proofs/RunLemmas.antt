-- All runs of commands that are apart give a connection the same replies, whatever the number of
-- shards.
use Rattle.std.proofs.Common.{◌≡◌, ℕ, ◌<◌, List, [], ◌∷◌, length, refl, sym, ap, ◌∙◌, subst, arith}
use Rattle.std.specs.Prelude.{All}
use Rattle.std.specs.List.{AllByRecursion}
use Rattle.std.proofs.lemmas.List.{length-map}
use mathlib.Core.Logic.{dite}
use native.Mathlib.Decide.{ℕ_discrete}
use Rattle.mc_calls.specs.declared.entry.Entry.{Entry}
use Rattle.mc_calls.specs.Shard.{empty_state}
use Rattle.mc_calls.specs.Order.{of_connection}
use Rattle.mc_calls.proofs.EntryLemmas.{of_connection-here, of_connection-other}
use Rattle.mc_parse.specs.declared.command.Command.{Command}
use Rattle.mc_parse.specs.Calls.{Due, due, due_of, dues_of}
use Rattle.zy_run.specs.Run.{AreOfConnections, IsRun}
use Rattle.zy_run.specs.Output.{connection_outputs, all_outputs}
use Rattle.mc_parse.specs.Plain.{all_keys_of, IsPlain}
use Rattle.zy_run.specs.Apart.{commands_of_all, AreApart}
use Rattle.mc_parse.specs.Plain.{IsDueOwn, bare}
use Rattle.zy_run.specs.Keyed.{told_by}
use Rattle.mc_calls.specs.Told.{all_told}
use Rattle.zy_run.proofs.AloneLemmas.{told-alone, told_by-bare}
use Rattle.zy_run.proofs.CountLemmas.{length-same}
use Rattle.mc_parse.proofs.PlainLemmas.{due_own, due_bare}
use Rattle.zy_run.proofs.ApartOutputLemmas.{map-range_same, outputs-same}

-- ---- each entry

-- what holds of the expected calls of each connection holds of each entry
each_entry : (P : Due → Type 0) (count : ℕ) (es : List Entry) → AreOfConnections count es → ((conn : ℕ) → conn < count → AllByRecursion P (dues_of (of_connection conn es)))
    → AllByRecursion (λ e. P (due_of e)) es
each_entry P count [] of each = tt
each_entry P count (e ∷ es) of each = (
  (subst (λ l. AllByRecursion P (dues_of l)) (of_connection-here e.tag.conn e es refl) (each e.tag.conn of.0)).0,
  each_entry P count es of.1 (λ conn within. dite (ℕ_discrete e.tag.conn conn)
      (λ is. (subst (λ l. AllByRecursion P (dues_of l)) (of_connection-here conn e es is) (each conn within)).1)
      (λ other. subst (λ l. AllByRecursion P (dues_of l)) (of_connection-other conn e es other) (each conn within))),
)

-- ---- the entries of one connection

module _ (count conn : ℕ) (commands : ℕ → List Command) (apart : AreApart count commands) (within : conn < count) where
  -- in a run, its entries are those of one shard of its own, apart from uniques
  pub run_told : (shards : ℕ) (es : List Entry) → IsRun shards es count commands → all_told (of_connection conn es) ≡ told_by empty_state (due shards conn (commands conn))
  run_told shards es run =
      told-alone shards count conn (λ c. all_keys_of (commands c)) (λ other key below mine its. apart.keys conn other key within below mine its) (λ number. empty_state) empty_state es
      (each_entry (IsDueOwn shards count (λ c. all_keys_of (commands c))) count es run.connections (λ c below.
      subst (AllByRecursion (IsDueOwn shards count (λ o. all_keys_of (commands o)))) (sym (run.calls c below)) (due_own shards count c commands below (apart.plain c below))))
      run.legal (λ key inside. refl)
      ∙ ap (told_by empty_state) (run.calls conn within)

  -- so the number of shards does not matter
  pub told_anywhere : (shards others : ℕ) → told_by empty_state (due shards conn (commands conn)) ≡ told_by empty_state (due others conn (commands conn))
  told_anywhere shards others =
      sym (told_by-bare empty_state (due shards conn (commands conn))) ∙ ap (told_by empty_state) (due_bare shards others conn (commands conn) (apart.plain conn within))
      ∙ told_by-bare empty_state (due others conn (commands conn))

-- ---- outputs

-- two runs have the same outputs
pub all_outputs-same : (shards others count : ℕ) (streams : ℕ → List (List ℕ)) (es fs : List Entry) → AreApart count (commands_of_all streams)
    → IsRun shards es count (commands_of_all streams) → IsRun others fs count (commands_of_all streams) → all_outputs count streams es ≡ all_outputs count streams fs
all_outputs-same shards others count streams es fs apart run other =
    map-range_same (λ conn. connection_outputs conn (streams conn) es) (λ conn. connection_outputs conn (streams conn) fs) 0 count (λ conn low high.
    let within : conn < count = omega arith in
    outputs-same conn (streams conn) es fs (apart.plain conn within)
    (run_told count conn (commands_of_all streams) apart within shards es run ∙ told_anywhere count conn (commands_of_all streams) apart within shards others
    ∙ sym (run_told count conn (commands_of_all streams) apart within others fs other)))

-- ---- entries

each_below : (count : ℕ) (es : List Entry) → AreOfConnections count es → AllByRecursion (λ e. e.tag.conn < count) es
each_below count [] of = tt
each_below count (e ∷ es) of = (of.0, each_below count es of.1)

length-own : (shards count conn : ℕ) (commands : ℕ → List Command) (es : List Entry) → IsRun shards es count commands → conn < count → length (of_connection conn es) ≡ length (due shards conn (commands conn))
length-own shards count conn commands es run within = sym (length-map (of_connection conn es) due_of) ∙ ap length (run.calls conn within)

length-due : (shards others conn : ℕ) (commands : List Command) → All IsPlain commands → length (due shards conn commands) ≡ length (due others conn commands)
length-due shards others conn commands plain =
    sym (length-map (due shards conn commands) bare) ∙ ap length (due_bare shards others conn commands plain) ∙ length-map (due others conn commands) bare

-- two runs have the same number of entries
pub length-run : (shards others count : ℕ) (commands : ℕ → List Command) (es fs : List Entry) → AreApart count commands → IsRun shards es count commands → IsRun others fs count commands → length es ≡ length fs
length-run shards others count commands es fs apart run other =
    length-same count es fs (each_below count es run.connections) (each_below count fs other.connections) (λ conn within.
    length-own shards count conn commands es run within ∙ length-due shards others conn (commands conn) (apart.plain conn within) ∙ sym (length-own others count conn commands fs other within))
