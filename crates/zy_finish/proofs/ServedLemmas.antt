-- From connections that are served, the closed store and the merge of its histories to one run.
use Rattle.std.specs.Prelude.{◌==◌}
use Rattle.std.proofs.Common.{◌≡◌, ℕ, ◌<◌, ◌≤◌, List, [], ◌∷◌, Bool, true, false, cond, refl, sym, ap, ◌∙◌, arith}
use Rattle.std.proofs.lemmas.List.FromFn.{fill_by_all, length-map-range_with_len, get_or-map-range_with_len}
use Rattle.mc_calls.specs.declared.entry.Entry.{Entry}
use Rattle.mc_calls.specs.Order.{of_connection}
use Rattle.mc_calls.proofs.EntryLemmas.{of_connection-here}
use Rattle.mc_calls.proofs.MergeLemmas.{merge_keeps_calls, merge_is_legal}
use Rattle.zy_capture.specs.declared.record.Record.{Record}
use Rattle.mc_parse.specs.Calls.{dues_of}
use Rattle.mc_reply.specs.Texts.{texts_of}
use Rattle.mc_store.specs.Joined.{Joined, calls_of}
use Rattle.zy_run.specs.Commands.{streams_in, commands_in}
use Rattle.zy_run.proofs.StreamLemmas.{length-streams_in}
use Rattle.zy_run.specs.Run.{AreOfConnections, IsRun}
use Rattle.zy_run.specs.Output.{connection_outputs, all_outputs}
use Rattle.zy_run.specs.Spans.{Spans}
use Rattle.zy_finish.specs.Left.{Left, session_texts}
use Rattle.zy_finish.specs.Served.{AreServed, all_holds, all_sent}
use Rattle.zy_finish.proofs.CuttingLemmas.{cut_is_outputs}
use Rattle.zy_finish.proofs.HoldLemmas.{spans}

-- a list without entries of connections from one on has entries of those below alone
below_of_own : (count : ℕ) (es : List Entry) → ((conn : ℕ) → count ≤ conn → of_connection conn es ≡ []) → AreOfConnections count es
below_of_own count [] none = tt
below_of_own count (e ∷ es) none = (
  (let beyond : count ≤ e.tag.conn → ⊥ = (λ past. let some : e ∷ of_connection e.tag.conn es ≡ [] = sym (of_connection-here e.tag.conn e es refl) ∙ none e.tag.conn past in absurd (cc)) in omega arith),
  below_of_own count es (λ conn past. rest_none conn (e.tag.conn == conn) (none conn past)),
)
  where
    rest_none : (conn : ℕ) (b : Bool) → cond b (e ∷ of_connection conn es) (of_connection conn es) ≡ [] → of_connection conn es ≡ []
    rest_none conn true is = absurd (cc)
    rest_none conn false is = is

module _ (shards count : ℕ) (records : List Record) (left : ℕ → Left) (joined : Joined) (es : List Entry) (are : AreServed shards count records left joined es) where
  -- the merged list has the calls of each connection's pass
  pub own_calls : (conn : ℕ) → of_connection conn es ≡ calls_of conn joined
  own_calls conn = merge_keeps_calls conn are.histories es (calls_of conn joined) are.merged (record { parts = are.closed.calls conn; stamps = are.closed.rise conn })

  pub is_run : IsRun shards es count (commands_in records)
  is_run = record {
    legal = merge_is_legal shards are.histories es are.closed.sound are.merged;
    connections = below_of_own count es (λ conn past. own_calls conn ∙ are.others conn past);
    calls = λ conn within. ap dues_of (own_calls conn) ∙ (are.each conn within).calls_are;
  }

  pub holds_span : Spans (all_holds count left) count (commands_in records)
  holds_span = spans count (λ conn. (left conn).holds) (commands_in records) (λ conn within. (are.each conn within).holds_are) (λ conn within. (are.each conn within).held)

  sent_by : (conn : ℕ) → conn < count → session_texts (left conn).ends (left conn).texts ≡ connection_outputs conn (streams_in records conn) es
  sent_by conn within =
      let e = are.each conn within in
      (λ i. session_texts (e.ends_are i) ((e.texts_are ∙ ap (texts_of (commands_in records conn)) (sym (own_calls conn))) i))
      ∙ cut_is_outputs conn (streams_in records conn) es (omega (arith, length-streams_in records conn))

  pub sent_is_outputs : all_sent count left ≡ all_outputs count (streams_in records) es
  sent_is_outputs =
      fill_by_all (λ conn. connection_outputs conn (streams_in records conn) es) (all_sent count left) count []
      (length-map-range_with_len (λ conn. session_texts (left conn).ends (left conn).texts) 0 count)
      (λ conn within. get_or-map-range_with_len (λ k. session_texts (left k).ends (left k).texts) 0 count conn conn [] within (omega arith) ∙ sent_by conn within)
