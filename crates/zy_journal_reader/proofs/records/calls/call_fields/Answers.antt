use Rattle.std.proofs.Common.{◌<◌, ◌^◌, subst}
use Rattle.std.specs.Int.{to_be_bytes, w32, w64}
use Rattle.mc_calls.specs.declared.call_kind.CallFields.{CallFields}
use Rattle.mc_calls.specs.Bounds.{IsKey, IsValue}
use Rattle.zy_journal.specs.Journal.{key_text, value_text}
use Rattle.zy_journal_reader.specs.Found.{HasField}
use Rattle.zy_journal_reader.proofs.FoundLemmas.{call_found}
use Rattle.zy_journal_reader.proofs.records.calls.call_fields.Goals as goal

pub returns : goal.returns
returns c =
    let a = c.in_ok-kind.after_kind.now in
    let b = c.in_ok-key.after_key.now in
    let d = c.in_ok-flags.after_flags.now in
    let e = c.in_ok-number.after_number.now in
    let rest = c.in_ok-value.rest.now in
    let fields = c.fields-has.ensures.value in
    record {
      value = call_found c.in_ok-kind.kind c.in_ok-key.key.now c.in_ok-flags.flags c.in_ok-number.number c.in_ok-value.value.now c.args.bytes.now a b d e rest c.in_ok-kind.ensures.value
          (subst (λ (f : CallFields). HasField key_text IsKey f.key a c.in_ok-key.key.now b) fields c.in_ok-key.ensures.value)
          (subst (λ (f : CallFields). HasField (to_be_bytes w32) (λ n. n < 2 ^ 32) f.flags b c.in_ok-flags.flags d) fields c.in_ok-flags.ensures.value)
          (subst (λ (f : CallFields). HasField (to_be_bytes w64) (λ n. n < 2 ^ 64) f.number d c.in_ok-number.number e) fields c.in_ok-number.ensures.value)
          (subst (λ (f : CallFields). HasField value_text IsValue f.value e c.in_ok-value.value.now rest) fields c.in_ok-value.ensures.value);
    }
