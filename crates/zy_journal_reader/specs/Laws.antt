-- A field of a journal has a byte, and after the end each byte is wrong.
use Rattle.std.proofs.Common.{◌≡◌, ℕ, ◌-◌, ◌^◌, ◌<◌, List, true, refl, arith}
use Rattle.zy_read.specs.Fields.{IsLawful, IsWrong}
use Rattle.zy_read.specs.FieldReading.{width_of}
use Rattle.zy_read.specs.declared.shape.Shape.{Shape}
use Rattle.zy_read.specs.declared.shape.Shape.TheVariants.{Byte, Four, Eight, Run}
use Rattle.zy_journal_reader.specs.declared.due.Due.{Due}
use Rattle.zy_journal_reader.specs.declared.due.Due.TheVariants as Dues
use Rattle.zy_journal_reader.specs.Standing.{takes_memory, FitsPlace, Wants}
use Rattle.zy_journal_reader.specs.Steps.{ReadState, journal_shape, is_last, journal_judged, journal_fields}

some : (kind : Shape) → 0 < width_of kind
some Byte = omega arith
some Four = omega arith
some Eight = omega arith
some (Run others) = omega arith

one : (due : Due) (size : ℕ) → is_last due ≡ true → width_of (journal_shape due size) ≡ 1
one Dues.Nothing size is = refl
one due size is = cc

-- after the end each byte is wrong
pub none_follows : (due : Due) (s : ReadState) (at : ℕ) (field : List ℕ) → is_last due ≡ true
    → IsWrong (journal_judged due s at field)
none_follows Dues.Nothing s at field is = tt
none_follows due s at field is = cc

-- so it is a format of fields
pub journal_lawful : IsLawful journal_fields
journal_lawful = record {
  some = λ s. some (journal_shape s.due s.draft.size);
  one = λ s. one s.due s.draft.size;
  ends = λ s at field is full. none_follows s.due s at field is;
}

pub journal_widths : (s : ReadState) → journal_fields.width s ≡ width_of (journal_shape s.due s.draft.size)
journal_widths s = refl

run_wants : (due : Due) (size others : ℕ) → journal_shape due size ≡ Run others → takes_memory due ≡ true
run_wants (Dues.Byte field) size others is = cc
run_wants (Dues.Number field) size others is = cc
run_wants (Dues.Long field) size others is = cc
run_wants (Dues.Bytes field) size others is = refl
run_wants Dues.Nothing size others is = cc

-- a key or a value may need memory
pub runs : (s : ReadState) (others : ℕ) → journal_shape s.due s.draft.size ≡ Run others → Wants s
runs s others is = run_wants s.due s.draft.size others is

pub journal_few : journal_fields.limit < 2 ^ 64 - 1
journal_few = omega arith

pub journal_begins : FitsPlace journal_fields.start 0
journal_begins = (omega arith, refl)
