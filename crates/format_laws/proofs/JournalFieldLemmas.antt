-- Fields of a journal that are right, and fields that are wrong.
use Rattle.zy_journal_reader.proofs.OpenLemmas.{IsThen, byte_then, four_then, eight_then, bytes_then}
use Rattle.std.proofs.Common.{ℕ, List, ◌≡◌, ◌<◌, ◌^◌, false, [], ◌∷◌}
use Rattle.std.specs.Prelude.{◌==◌, ⊤}
use Rattle.zy_read.specs.Fields.Judged.{Then, Gives, Wrong}
use Rattle.zy_journal_reader.specs.declared.due.ByteField.{ByteField}
use Rattle.zy_journal_reader.specs.declared.due.ByteField.TheVariants as B
use Rattle.zy_journal_reader.specs.declared.due.NumberField.{NumberField}
use Rattle.zy_journal_reader.specs.declared.due.LongField.{LongField}
use Rattle.zy_journal_reader.specs.declared.due.BytesField.{BytesField}
use Rattle.zy_journal_reader.specs.Steps.{ReadState, Done, after_byte, after_four, after_eight, after_bytes}
use Rattle.zy_journal_reader.specs.Steps.{lawful_byte, lawful_number, lawful_long, journal_judged}
use Rattle.zy_journal_reader.proofs.CallLemmas.{either}
use Rattle.zy_journal_reader.proofs.PlaceLemmas.{place, decided, four_judged, eight_judged}
use Rattle.std.specs.Int.{to_be_bytes, w32, w64}
use Rattle.zy_base.specs.declared.file_fault.FileFault.TheVariants.{Form}
use Rattle.zy_journal_reader.specs.declared.draft.Draft.{Draft}
use Rattle.zy_journal_reader.specs.declared.due.Due.TheVariants.{Byte, Number, Long}

-- ---- fields that are no faults

-- the field is not wrong
abbrev pub IsRight : Done → Type 0
IsRight (Wrong fault) = ⊥
IsRight done = ⊤

-- ---- they are right

then_right : (done : Done) → IsThen done → IsRight done
then_right (Then next) is = tt
then_right (Gives next item) is = absurd is
then_right (Wrong fault) is = absurd is

pub byte_right : (field : ByteField) (p : ReadState) (at byte : ℕ) → IsRight (after_byte field p at byte)
byte_right B.Tag p at byte = either IsRight (byte == 69) _ _ tt (either IsRight (byte == 72) _ _ tt tt)
byte_right B.Magic p at byte = then_right (after_byte B.Magic p at byte) (byte_then B.Magic p at byte (λ is. cc))
byte_right B.CallCode p at byte = tt
byte_right B.KeyLength p at byte = tt
byte_right B.ReplyCode p at byte = then_right (after_byte B.ReplyCode p at byte) (byte_then B.ReplyCode p at byte (λ is. cc))

pub four_right : (field : NumberField) (p : ReadState) (n : ℕ) → IsRight (after_four field p n)
four_right field p n = then_right (after_four field p n) (four_then field p n)

pub eight_right : (field : LongField) (p : ReadState) (n : ℕ) → IsRight (after_eight field p n)
eight_right field p n = then_right (after_eight field p n) (eight_then field p n)

pub bytes_right : (field : BytesField) (p : ReadState) (content : List ℕ) → IsRight (after_bytes field p content)
bytes_right field p content = then_right (after_bytes field p content) (bytes_then field p content)

-- ---- one field

-- a field of one byte that is wrong
pub one_wrong : (p : ReadState) (d : Draft) (field : ByteField) (byte at : ℕ) → lawful_byte field (place p d (Byte field)) at byte ≡ false → journal_judged (Byte field) (place p d (Byte field)) at (byte ∷ []) ≡ Wrong (Form at)
one_wrong p d field byte at wrong = decided (lawful_byte field (place p d (Byte field)) at byte) false (after_byte field (place p d (Byte field)) at byte) at wrong

pub four_wrong : (p : ReadState) (d : Draft) (field : NumberField) (n at : ℕ) → n < 2 ^ 32 → lawful_number field (place p d (Number field)) n ≡ false → journal_judged (Number field) (place p d (Number field)) at (to_be_bytes w32 n) ≡ Wrong (Form at)
four_wrong p d field n at small wrong = four_judged (place p d (Number field)) field n at false small wrong

pub eight_wrong : (p : ReadState) (d : Draft) (field : LongField) (n at : ℕ) → n < 2 ^ 64 → lawful_long field (place p d (Long field)) n ≡ false → journal_judged (Long field) (place p d (Long field)) at (to_be_bytes w64 n) ≡ Wrong (Form at)
eight_wrong p d field n at small wrong = eight_judged (place p d (Long field)) field n at false small wrong
