-- A field of a replies file has a byte, and after the end each byte is wrong.
use Rattle.std.proofs.Common.{◌≡◌, ℕ, ◌-◌, ◌^◌, ◌<◌, List, true, refl, arith}
use Rattle.zy_read.specs.Fields.{IsLawful, IsWrong}
use Rattle.zy_read.specs.FieldReading.{width_of}
use Rattle.zy_read.specs.declared.shape.Shape.{Shape}
use Rattle.zy_read.specs.declared.shape.Shape.TheVariants.{Byte, Four, Eight, Run}
use Rattle.zy_capture.specs.declared.replies_due.RepliesDue.{RepliesDue}
use Rattle.zy_capture.specs.declared.replies_due.RepliesDue.TheVariants.{Nothing}
use Rattle.zy_capture.specs.declared.replies_state.RepliesState.{RepliesState}
use Rattle.zy_capture.specs.RepliesStanding.{IsInRepliesBounds, IsOutputDue}
use Rattle.zy_capture.specs.RepliesSteps.{shape, is_last, judged, replies_fields}

some : (kind : Shape) → 0 < width_of kind
some Byte = omega arith
some Four = omega arith
some Eight = omega arith
some (Run others) = omega arith

one : (due : RepliesDue) → is_last due ≡ true → width_of (shape due) ≡ 1
one Nothing is = refl
one due is = cc

ends : (due : RepliesDue) (s : RepliesState) (at : ℕ) (field : List ℕ) → is_last due ≡ true
    → IsWrong (judged due s at field)
ends Nothing s at field is = tt
ends due s at field is = cc

-- so it is a format of fields
pub lawful : IsLawful replies_fields
lawful = record {
  some = λ s. some (shape s.due);
  one = λ s. one s.due;
  ends = λ s at field is full. ends s.due s at field is;
}

pub widths : (s : RepliesState) → replies_fields.width s ≡ width_of (shape s.due)
widths s = refl

-- an output may need memory
pub runs : (s : RepliesState) (others : ℕ) → shape s.due ≡ Run others → IsOutputDue s
runs s others is = (others, is)

pub few : replies_fields.limit < 2 ^ 64 - 1
few = omega arith

pub begins : IsInRepliesBounds replies_fields.start.due 0
begins = omega arith
