use Rattle.std.proofs.Common.{◌≡◌, List, ℕ, sym, ◌∙◌, ap, subst}
use Rattle.mc_calls.specs.Code.{call_of}
use Rattle.mc_calls.specs.declared.call.Call.{Call}
use Rattle.mc_calls.specs.declared.entry.Entry.{Entry}
use Rattle.zy_journal_reader.specs.Found.{HasCall, HasEntry}
use Rattle.zy_journal_reader.proofs.FoundLemmas.{entry_found}
use Rattle.zy_journal_reader.proofs.records.entry.Goals as goal

pub returns-in-Ok : goal.returns-in-Ok
returns-in-Ok c =
    let text : List ℕ = c.args.bytes.now in
    let before : List ℕ = c.in_ok-head.call.now in
    let after : List ℕ = c.in_ok-fields.answer.now in
    let rest : List ℕ = c.in_ok-reply.rest.now in
    let fields = c.in_ok-fields.fields in
    let same : c.call-call.result ≡ call_of fields.kind fields.key.now fields.flags fields.number fields.value.now =
    c.call-call.ensures.value ∙ ap (λ (key : List ℕ). call_of fields.kind key fields.flags fields.number c.in-Ok.value) c.in-Ok.ensures.key
    ∙ ap (λ (value : List ℕ). call_of fields.kind fields.key.now fields.flags fields.number value) c.in-Ok.ensures.value in
    record {
      value = subst (λ (e : Entry). HasEntry c.args.past text e rest) (sym c.entry.ensures.value)
          (entry_found c.args.past c.in_ok-head.head c.call-call.result c.in_ok-reply.reply text before after rest c.in_ok-head.ensures.value
          (subst (λ (call : Call). HasCall before call after) (sym same) c.in_ok-fields.ensures.value) c.in_ok-reply.ensures.value);
    }
