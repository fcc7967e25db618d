-- Where the fields of a journal lead that are read whole.
use Rattle.std.proofs.Common.{◌≡◌, ℕ, ◌+◌, ◌<◌, ◌^◌, Bool, true, List, [], ◌∷◌, ◌++◌, length, refl, ◌∙◌, ap, arith}
use Rattle.std.specs.Prelude.{if◌then◌else◌, ⊤}
use Rattle.std.specs.Int.{to_be_bytes, w32, w64}
use Rattle.std.proofs.lemmas.Nat.{from_be_bytes-to_be_bytes_4, from_be_bytes-to_be_bytes_8}
use Rattle.zy_base.specs.declared.file_fault.FileFault.TheVariants.{Form}
use Rattle.zy_read.specs.Fields.Judged.{Then, Wrong}
use Rattle.zy_read.specs.Runs.{RunsOver}
use Rattle.zy_read.proofs.OverLemmas.{over_none, over_then, over_join}
use Rattle.zy_journal_reader.specs.declared.draft.Draft.{Draft}
use Rattle.zy_journal_reader.specs.declared.due.Due.{Due}
use Rattle.zy_journal_reader.specs.declared.due.Due.TheVariants.{Byte, Number, Long, Bytes}
use Rattle.zy_journal_reader.specs.declared.due.ByteField.{ByteField}
use Rattle.zy_journal_reader.specs.declared.due.NumberField.{NumberField}
use Rattle.zy_journal_reader.specs.declared.due.LongField.{LongField}
use Rattle.zy_journal_reader.specs.declared.due.BytesField.{BytesField}
use Rattle.zy_journal_reader.specs.Steps.{ReadState, Done, lawful_byte, after_byte, lawful_number, after_four}
use Rattle.zy_journal_reader.specs.Steps.{lawful_long, after_eight, after_bytes, number_byte, long_byte}
use Rattle.zy_journal_reader.specs.Steps.{journal_judged, journal_fields}

-- ---- places

-- the lists of this state, this record and what is expected
abbrev pub place : ReadState → Draft → Due → ReadState
place p d due = record p { due = due; draft = d }

-- whole fields of a text lead from one state to another, from any place on
abbrev pub Over : ReadState → ℕ → List ℕ → ReadState → List ⊤ → Type 0
Over s at text last given = RunsOver journal_fields s at text last given

pub record Goes (p : ReadState) (d : Draft) (due : Due) (text : List ℕ) (q : ReadState) (e : Draft) (next : Due) : Type 0 where
  pub over : (at : ℕ) → Over (place p d due) at text (place q e next) []

-- this is expected after a field
abbrev pub to : ReadState → Draft → Due → Done
to p d due = Then (place p d due)

-- ---- texts one after another

pub both : {p q r : ReadState} {d e f : Draft} {due next last : Due} (s t : List ℕ) → Goes p d due s q e next → Goes q e next t r f last → Goes p d due (s ++ t) r f last
both {p} {q} {r} {d} {e} {f} {due} {next} {last} s t first second = record {
  over = λ at. over_join journal_fields (place p d due) (place q e next) (place r f last) at s t [] [] (first.over at) (second.over (at + length s));
}

-- no text
pub stays : (p : ReadState) (d : Draft) (due : Due) → Goes p d due [] p d due
stays p d due = record { over = λ at. over_none journal_fields (place p d due) at }

-- ---- one field

-- a test decides on a field
pub decided : (test right : Bool) (done : Done) (at : ℕ) → test ≡ right → (if test then done else Wrong (Form at)) ≡ (if right then done else Wrong (Form at))
decided test right done at is = ap (λ (t : Bool). if t then done else Wrong (Form at)) is

-- a lawful field of one byte
pub one_byte : (p q : ReadState) (d e : Draft) (field : ByteField) (next : Due) (byte : ℕ) → ((at : ℕ) → lawful_byte field (place p d (Byte field)) at byte ≡ true)
    → ((at : ℕ) → after_byte field (place p d (Byte field)) at byte ≡ to q e next) → Goes p d (Byte field) (byte ∷ []) q e next
one_byte p q d e field next byte right after = record {
  over = λ at. over_then journal_fields (place p d (Byte field)) (place q e next) at (byte ∷ []) refl
      (decided (lawful_byte field (place p d (Byte field)) at byte) true (after_byte field (place p d (Byte field)) at byte) at (right at) ∙ after at);
}

-- a number of four bytes
pub four_judged : (s : ReadState) (field : NumberField) (n at : ℕ) (right : Bool) → n < 2 ^ 32 → lawful_number field s n ≡ right → journal_judged (Number field) s at (to_be_bytes w32 n) ≡ (if right then after_four field s n else Wrong (Form at))
four_judged s field n at right small is = ap (λ (m : ℕ). number_byte field s at m) (from_be_bytes-to_be_bytes_4 n small) ∙ decided (lawful_number field s n) right (after_four field s n) at is

pub four_bytes : (p q : ReadState) (d e : Draft) (field : NumberField) (next : Due) (n : ℕ) → n < 2 ^ 32 → lawful_number field (place p d (Number field)) n ≡ true → after_four field (place p d (Number field)) n ≡ to q e next → Goes p d (Number field) (to_be_bytes w32 n) q e next
four_bytes p q d e field next n small right after = record {
  over = λ at. over_then journal_fields (place p d (Number field)) (place q e next) at (to_be_bytes w32 n) refl (four_judged (place p d (Number field)) field n at true small right ∙ after);
}

-- a number of eight bytes
pub eight_judged : (s : ReadState) (field : LongField) (n at : ℕ) (right : Bool) → n < 2 ^ 64 → lawful_long field s n ≡ right → journal_judged (Long field) s at (to_be_bytes w64 n) ≡ (if right then after_eight field s n else Wrong (Form at))
eight_judged s field n at right small is = ap (λ (m : ℕ). long_byte field s at m) (from_be_bytes-to_be_bytes_8 n small) ∙ decided (lawful_long field s n) right (after_eight field s n) at is

pub eight_bytes : (p q : ReadState) (d e : Draft) (field : LongField) (next : Due) (n : ℕ) → n < 2 ^ 64 → lawful_long field (place p d (Long field)) n ≡ true → after_eight field (place p d (Long field)) n ≡ to q e next → Goes p d (Long field) (to_be_bytes w64 n) q e next
eight_bytes p q d e field next n small right after = record {
  over = λ at. over_then journal_fields (place p d (Long field)) (place q e next) at (to_be_bytes w64 n) refl (eight_judged (place p d (Long field)) field n at true small right ∙ after);
}

-- a whole key or value that is not empty
pub all_bytes : (p q : ReadState) (d e : Draft) (field : BytesField) (next : Due) (whole : List ℕ) → d.size ≡ length whole → 0 < length whole → after_bytes field (place p d (Bytes field)) whole ≡ to q e next → Goes p d (Bytes field) whole q e next
all_bytes p q d e field next whole size some after = record {
  over = λ at. over_then journal_fields (place p d (Bytes field)) (place q e next) at whole (omega (arith, size, some)) after;
}
