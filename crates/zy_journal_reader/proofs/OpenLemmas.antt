-- A lawful field of a journal leads to a state; no field but a tag gives a record.
use Rattle.std.proofs.Common.{◌≢◌, ℕ, List, get_or, refl}
use Rattle.std.specs.Prelude.{◌==◌, ⊤}
use Rattle.std.specs.Int.{from_be_bytes, w32, w64}
use Rattle.mc_calls.specs.Code.{hit_code, number_code, tally_code}
use Rattle.zy_read.specs.Fields.Judged.{Then, Gives, Wrong}
use Rattle.zy_read.specs.FieldReading.{IsQuiet}
use Rattle.zy_journal_reader.specs.declared.due.Due.{Due}
use Rattle.zy_journal_reader.specs.declared.due.Due.TheVariants.{Byte, Number, Long, Bytes, Nothing}
use Rattle.zy_journal_reader.specs.declared.due.ByteField.{ByteField}
use Rattle.zy_journal_reader.specs.declared.due.ByteField.TheVariants as B
use Rattle.zy_journal_reader.specs.declared.due.NumberField.{NumberField}
use Rattle.zy_journal_reader.specs.declared.due.NumberField.TheVariants as N
use Rattle.zy_journal_reader.specs.declared.due.LongField.{LongField}
use Rattle.zy_journal_reader.specs.declared.due.LongField.TheVariants as L
use Rattle.zy_journal_reader.specs.declared.due.BytesField.{BytesField}
use Rattle.zy_journal_reader.specs.declared.due.BytesField.TheVariants as S
use Rattle.zy_journal_reader.specs.Steps.{ReadState, Done, lawful_byte, lawful_number, lawful_long, after_byte}
use Rattle.zy_journal_reader.specs.Steps.{after_four, after_eight, after_bytes, journal_judged}
use Rattle.zy_journal_reader.proofs.CallLemmas.{either}

-- ---- fields that are no faults

-- the field leads to a state, and gives no record
abbrev pub IsThen : Done → Type 0
IsThen (Then next) = ⊤
IsThen done = ⊥

pub byte_then : (field : ByteField) (p : ReadState) (at byte : ℕ) → field ≢ B.Tag → IsThen (after_byte field p at byte)
byte_then B.Magic p at byte no_tag = either IsThen (at == 7) _ _ tt tt
byte_then B.Tag p at byte no_tag = absurd (no_tag refl)
byte_then B.CallCode p at byte no_tag = tt
byte_then B.KeyLength p at byte no_tag = tt
byte_then B.ReplyCode p at byte no_tag = either IsThen (byte == hit_code) _ _ tt (either IsThen (byte == number_code) _ _ tt (either IsThen (byte == tally_code) _ _ tt tt))

pub four_then : (field : NumberField) (p : ReadState) (n : ℕ) → IsThen (after_four field p n)
four_then N.ValueLength p n = either IsThen (n == 0) _ _ tt tt
four_then N.FoundLength p n = either IsThen (n == 0) _ _ tt tt
four_then field p n = tt

pub eight_then : (field : LongField) (p : ReadState) (n : ℕ) → IsThen (after_eight field p n)
eight_then L.Stamp p n = tt
eight_then field p n = tt

pub bytes_then : (field : BytesField) (p : ReadState) (content : List ℕ) → IsThen (after_bytes field p content)
bytes_then S.Key p content = tt
bytes_then field p content = tt

-- ---- they give nothing

then_quiet : (done : Done) → IsThen done → IsQuiet done
then_quiet (Then next) is = tt
then_quiet (Gives next item) is = absurd is
then_quiet (Wrong fault) is = absurd is

-- no field but a tag gives a record
pub quiet : (due : Due) (p : ReadState) (at : ℕ) (field : List ℕ) → due ≢ Byte B.Tag → IsQuiet (journal_judged due p at field)
quiet (Byte code) p at field no_tag =
    let byte : ℕ = get_or field 0 0 in
    either IsQuiet (lawful_byte code p at byte) _ _ (then_quiet (after_byte code p at byte) (byte_then code p at byte (λ is. no_tag (rw is refl)))) tt
quiet (Number number) p at field no_tag =
    let n : ℕ = from_be_bytes w32 field in
    either IsQuiet (lawful_number number p n) _ _ (then_quiet (after_four number p n) (four_then number p n)) tt
quiet (Long number) p at field no_tag =
    let n : ℕ = from_be_bytes w64 field in
    either IsQuiet (lawful_long number p n) _ _ (then_quiet (after_eight number p n) (eight_then number p n)) tt
quiet (Bytes content) p at field no_tag = then_quiet (after_bytes content p field) (bytes_then content p field)
quiet Nothing p at field no_tag = tt
